use Rattle.std.proofs.Common.{◌≡◌}
use Rattle.tsdb_turn.specs.Passes.{IsOutside}
use Rattle.turn_tests.proofs.order.take_turns.Given as goal

abbrev pub invariant-loop-place : goal.invariant-loop-place
invariant-loop-place g l = record {
  outside : IsOutside l.turn.id l.pass;
  number : l.pass.number ≡ l.by;
}
