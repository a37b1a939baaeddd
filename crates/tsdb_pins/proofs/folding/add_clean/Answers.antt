use Rattle.std.proofs.Common.{◌∙◌, sym, subst, arith}
use Rattle.std.specs.Prelude.{IsTrue}
use Rattle.tsdb_aggregate.specs.Pieces.{has_asked}
use Rattle.tsdb_pins.proofs.Weaving.{later_end, later_here, same_end, step_clean}
use Rattle.tsdb_pins.proofs.folding.add_clean.Goals as goal

pub loop-next-init : goal.loop-next-init
loop-next-init c = λ all left is was. was

pub loop-next-preserved : goal.loop-next-preserved
loop-next-preserved c = λ all left is was.
    step_clean c.args.name all c.args.clean.now c.loop-next.next c.index-clean-next.result left c.args.point.now c.loop-next.tally c.of_stats.result c.join.new.self c.loop-next-test.true c.index-clean-next.is
    (sym c.ends_before.ensures ∙ c.if-not-ends_before.false) is (c.loop-next.invariant all left is was) c.in_ok-join.ensures
    (λ points are. c.of_stats.ensures points are
    (subst (λ s. IsTrue (has_asked c.args.name s)) (sym c.index-clean-next.is) (c.requires c.loop-next.next c.index-clean-next.result c.loop-next-test.true)))

pub returns-then-not-ends_before-clause-added : goal.returns-then-not-ends_before-clause-added
returns-then-not-ends_before-clause-added c = c.loop-next.invariant

pub returns-then-not-ends_before-clause-later : goal.returns-then-not-ends_before-clause-later
returns-then-not-ends_before-clause-later c =
    later_here c.args.clean.now c.loop-next.next c.index-clean-next.result c.args.point.now c.loop-next-test.true c.index-clean-next.is (sym c.ends_before.ensures ∙ c.if-not-ends_before.true)

pub returns-clause-added : goal.returns-clause-added
returns-clause-added c = λ all left is was.
    same_end c.args.name all c.args.clean.now c.loop-next.next c.max.result left c.loop-next.tally (omega (arith, c.loop-next-test.false)) (omega (arith, c.max.ensures)) (c.loop-next.invariant all left is was)

pub returns-clause-later : goal.returns-clause-later
returns-clause-later c = later_end c.args.clean.now c.max.result c.args.point.now (omega (arith, c.max.ensures))
