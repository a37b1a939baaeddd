use Rattle.tsdb_turn.specs.Passes.{IsOutside}
use Rattle.turn_tests.proofs.order.pass_by.Given as goal

abbrev pub invariant-loop : goal.invariant-loop
invariant-loop g l = IsOutside l.turn.id l.pass
