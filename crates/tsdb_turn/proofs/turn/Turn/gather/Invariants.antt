use Rattle.std.proofs.Common.{◌≡◌, ◌++◌, [], All, map, vec_len}
use Rattle.tsdb_turn.specs.Passes.{IsOutside}
use Rattle.tsdb_turn.specs.Steps.{pass_known}
use Rattle.tsdb_turn.specs.declared.view.Stage.TheVariants.{Outside}
use Rattle.tsdb_turn.proofs.turn.Turn.gather.Given as goal

-- what the passes that are left know, and what the seat knows, is what all passes know
abbrev pub invariant-loop-pass : goal.invariant-loop-pass
invariant-loop-pass g l = record {
  table : l.seat.table_id ≡ l.self.id;
  stage : l.seat.me.0.stage ≡ Outside;
  nothing : l.seat.me.1 ≡ [];
  outside : All (IsOutside l.self.id) l.passes.items;
  known : map pass_known l.passes.items ++ l.seat.me.0.known ≡ map pass_known l.fn.passes.items;
}

abbrev pub decreases-loop-pass : goal.decreases-loop-pass
decreases-loop-pass g l = vec_len l.passes
