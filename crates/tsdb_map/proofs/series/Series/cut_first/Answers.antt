use Rattle.std.proofs.Common.{◌≡◌, w64, rules, arith, ap, sym, ◌∙◌, refl, is_some, true, None, to_z, of_z}
use Rattle.std.proofs.lemmas.Int.{to_z-of_z}
use Rattle.tsdb_model.specs.World.{cut}
use Rattle.tsdb_map.proofs.PointLemmas.{cut-none, cut-removed, first-in, get-series, len-view, one_less, set-removed}
use Rattle.tsdb_map.proofs.series.Series.cut_first.Goals as goal

pub returns-in_default : goal.returns-in_default
returns-in_default c = record {
  same = refl;
  fewer = λ e. cc;
  none = λ e. cut-none c.args.range.now c.args.self.now (sym c.points_in.ensures.points ∙ c.in_default.ensures.steps.0);
}

pub returns : goal.returns
returns c =
    let first = first-in c.args.range.now c.args.self.now.points c.in-Some.time.now c.in-Some.field-0-1.now c.next.new.self
    (sym c.points_in.ensures.points ∙ c.in-Some.ensures.steps) in
    let time : to_z w64 (of_z w64 c.in-Some.time.now) ≡ c.in-Some.time.now = to_z-of_z w64 c.in-Some.time.now (search rules) in
    let left = set-removed c.self.inside.data_type c.self.inside.points c.remove.new.self c.args.self.now c.in-Some.time.now _ None c.self.view_is refl time c.remove.ensures.updates.0 in
    let found : is_some c.remove.result ≡ true =
    ap is_some (c.remove.ensures.value ∙ get-series c.self.inside.data_type c.self.inside.points c.args.self.now c.in-Some.time.now _ c.self.view_is time ∙ first.1) in
    let old = len-view c.self.inside.data_type c.self.inside.points c.args.self.now c.self.invariant c.self.view_is in
    let new = len-view c.self.inside.data_type c.remove.new.self _ c.remove.ensures.ordered refl in
    let fewer = one_less _ _ _ found c.remove.ensures.len in
    record {
      same = ap (cut c.args.range.now) left ∙ cut-removed c.args.range.now c.args.self.now c.in-Some.time.now first.0;
      fewer = λ e. omega (arith, old, new, fewer);
      none = λ e. cc;
    }
