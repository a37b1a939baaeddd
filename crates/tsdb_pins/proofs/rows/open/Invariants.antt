use Rattle.std.proofs.Common.{◌≡◌, ◌++◌}
use Rattle.std.specs.Vec.Iter.{into_iter_items}
use Rattle.tsdb_pins.specs.Rows.{lists_of, vec_lists}
use Rattle.tsdb_pins.proofs.rows.open.Given as goal

abbrev pub invariant-loop-column : goal.invariant-loop-column
invariant-loop-column l = record {
  finite : (goal.iterator-loop-column).can_next l.column-iterator × (goal.iterator-loop-column).is_finite l.column-iterator;
  rest : vec_lists l.fn.columns.items ≡ lists_of l.opened.items ++ vec_lists (into_iter_items l.column-iterator);
}
