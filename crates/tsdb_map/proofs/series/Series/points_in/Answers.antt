use Rattle.std.proofs.Common.{rules, ◌≡◌, ◌∙◌, w64, to_z, of_z}
use Rattle.std.proofs.lemmas.Int.{to_z-of_z}
use Rattle.tsdb_map.proofs.PointLemmas.{above_by_test, entries-empty, entries-range}
use Rattle.tsdb_map.proofs.series.Series.points_in.Goals as goal

pub returns-then-from-to : goal.returns-then-from-to
returns-then-from-to c =
    let from : to_z w64 (of_z w64 c.args.range.now.from) ≡ c.args.range.now.from = to_z-of_z w64 c.args.range.now.from (search rules) in
    let to : to_z w64 (of_z w64 c.args.range.now.to) ≡ c.args.range.now.to = to_z-of_z w64 c.args.range.now.to (search rules) in
    record {
      points = c.range.ensures.between (search rules)
          ∙ entries-range _ c.self.inside.points c.args.self.now c.args.range.now _ _ c.range.ensures.ordered c.self.view_is (c.new.ensures.start ∙ from) (c.new.ensures.end ∙ to);
      fits = c.range.ensures.fits;
    }

pub returns-else-from-to : goal.returns-else-from-to
returns-else-from-to c =
    let from : to_z w64 (of_z w64 c.args.range.now.from) ≡ c.args.range.now.from = to_z-of_z w64 c.args.range.now.from (search rules) in
    let to : to_z w64 (of_z w64 c.args.range.now.to) ≡ c.args.range.now.to = to_z-of_z w64 c.args.range.now.to (search rules) in
    record {
      points = c.range-else-from-to.ensures.between (search rules)
          ∙ entries-empty _ c.self.inside.points c.args.self.now c.args.range.now _ c.range-else-from-to.ensures.ordered c.self.view_is (above_by_test c.args.range.now _ _ from to c.if-from-to.false);
      fits = c.range-else-from-to.ensures.fits;
    }
