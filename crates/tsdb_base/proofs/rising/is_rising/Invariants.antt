use Rattle.std.specs.Prelude.{◌<ℤ◌}
use Rattle.std.specs.List.{AllAdjacentBelow}
use Rattle.tsdb_base.proofs.rising.is_rising.Given as goal

abbrev pub invariant-loop-i : goal.invariant-loop-i
invariant-loop-i l = AllAdjacentBelow (λ a b. a.time <ℤ b.time) l.points l.i
