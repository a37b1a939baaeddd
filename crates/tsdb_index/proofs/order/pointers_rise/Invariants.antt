use Rattle.std.specs.List.{AllAdjacentBelow}
use Rattle.tsdb_index.specs.Parts.{IsPointerBefore}
use Rattle.tsdb_index.proofs.order.pointers_rise.Given as goal

abbrev pub invariant-loop-i : goal.invariant-loop-i
invariant-loop-i l = AllAdjacentBelow IsPointerBefore l.pointers l.i
