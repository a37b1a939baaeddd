use Rattle.std.specs.List.{AllAdjacentBelow}
use Rattle.tsdb_index.specs.Entries.{names_of}
use Rattle.tsdb_fields.specs.Order.{AreNamesBefore}
use Rattle.tsdb_index.proofs.order.entries_rise.Given as goal

abbrev pub invariant-loop-i : goal.invariant-loop-i
invariant-loop-i l = AllAdjacentBelow (λ a b. AreNamesBefore (names_of a) (names_of b)) l.entries l.i
