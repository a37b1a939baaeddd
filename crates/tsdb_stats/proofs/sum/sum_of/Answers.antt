use Rattle.std.proofs.Common.{refl, sym, subst, ◌∙◌, ap}
use Rattle.std.proofs.lemmas.List.{take_all}
use Rattle.tsdb_model.specs.Folds.{sum_of}
use Rattle.tsdb_stats.specs.Steps.{IsSumWithin}
use Rattle.tsdb_stats.proofs.Sums.{joined-within, next}
use Rattle.tsdb_stats.proofs.sum.sum_of.Goals as goal

pub loop-point-init : goal.loop-point-init
loop-point-init c = (refl, tt)

pub loop-point-preserved : goal.loop-point-preserved
loop-point-preserved c =
    let points = c.args.points.now in
    let i = c.loop-point.point-index in
    let number = c.number.ensures in
    let so_far = c.loop-point.invariant in (
      next points i c.point-item.result c.loop-point.sum c.add-sum.result c.number.result c.loop-point-test.true c.point-item.is number.is so_far.0 c.add-sum.ensures,
      subst (IsSumWithin _) (sym c.add-sum.ensures) (joined-within i 1 c.loop-point.sum c.number.result so_far.1 number.within),
    )

pub returns : goal.returns
returns c = c.loop-point.invariant.0 ∙ ap sum_of (take_all c.loop-point.point-index c.args.points.now c.loop-point-test.false)
