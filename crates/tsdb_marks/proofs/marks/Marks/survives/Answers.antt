use Rattle.std.proofs.Common.{ap, ◌∙◌}
use Rattle.std.specs.Int.{w64}
use Rattle.std.proofs.lemmas.Int.{to_z-of_z}
use Rattle.tsdb_marks.specs.Moments.{moment}
use Rattle.tsdb_marks.proofs.ModelLemmas.{survives_is}
use Rattle.tsdb_marks.proofs.marks.Marks.survives.Goals as goal

pub returns : goal.returns
returns c =
    let at = c.moment-at.ensures ∙ ap moment (to_z-of_z w64 c.args.time c.ranges.time) in
    survives_is c.args.self.now.marks c.args.series.now c.args.time c.args.born.0 c.moment-at.result c.covers.result c.covers.ensures.times c.ranges.time at c.covers.ensures.covered c.covers.ensures.uncovered
