use Rattle.std.specs.List.{AllAdjacentBelow}
use Rattle.tsdb_pages.specs.Trees.{IsBefore}
use Rattle.tsdb_pages.proofs.check.measurements_rise.Given as goal

abbrev pub invariant-loop-i : goal.invariant-loop-i
invariant-loop-i l = AllAdjacentBelow (λ a b. IsBefore a.measurement b.measurement) l.chunks l.i
