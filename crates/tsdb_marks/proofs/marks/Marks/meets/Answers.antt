use Rattle.std.proofs.Common.{ap, ◌∙◌, rules}
use Rattle.std.specs.Prelude.{FitsSigned}
use Rattle.std.specs.Int.{w64}
use Rattle.std.proofs.lemmas.Int.{to_z-of_z}
use Rattle.tsdb_marks.specs.Moments.{moment}
use Rattle.tsdb_marks.proofs.ModelLemmas.{meets_is}
use Rattle.tsdb_marks.proofs.marks.Marks.meets.Goals as goal

pub returns-then-range : goal.returns-then-range
returns-then-range c =
    let range = c.args.range.now in
    let ff : FitsSigned w64 range.from = search rules in
    let ft : FitsSigned w64 range.to = search rules in
    let f = c.moment.ensures ∙ ap moment (to_z-of_z w64 range.from ff) in
    let t = c.moment-then-range.ensures ∙ ap moment (to_z-of_z w64 range.to ft) in
    meets_is c.args.self.now.marks c.args.series.now range c.args.born.0 c.moment.result c.moment-then-range.result c.covers.result c.covers.ensures.times ff ft f t c.covers.ensures.covered c.covers.ensures.uncovered
