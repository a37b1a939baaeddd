use Rattle.tsdb_turn.specs.Passes.{IsOutside}
use Rattle.tsdb_bench.proofs.turns.take_turns.Given as goal

abbrev pub invariant-loop : goal.invariant-loop
invariant-loop g l = IsOutside l.turn.id l.pass
