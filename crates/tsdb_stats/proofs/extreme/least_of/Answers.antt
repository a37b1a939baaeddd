use Rattle.std.proofs.Common.{sym, ◌∙◌}
use Rattle.tsdb_model.specs.Folds.{lesser_value}
use Rattle.tsdb_stats.proofs.Extremes.{next}
use Rattle.tsdb_stats.proofs.extreme.least_of.Goals as goal

pub loop-point-preserved : goal.loop-point-preserved
loop-point-preserved c =
    let more = next lesser_value c.args.points.now c.loop-point.point-index c.point-item.result c.loop-point-test.true c.point-item.is in
    (rw (c.loop-point.invariant, c.of.ensures) at c.lesser_of-least.ensures) ∙ sym more
