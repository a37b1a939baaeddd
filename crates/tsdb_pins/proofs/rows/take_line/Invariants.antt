use Rattle.std.proofs.Common.{◌≡◌, ◌≤◌, length}
use Rattle.tsdb_pins.specs.Rows.{lists_of}
use Rattle.tsdb_pins.proofs.RowLemmas.{AreTakenTo}
use Rattle.tsdb_pins.proofs.rows.take_line.Given as goal

abbrev pub invariant-loop-index : goal.invariant-loop-index
invariant-loop-index l = AreTakenTo l.time l.index (lists_of l.fn.columns.items) l.values.items (lists_of l.columns.items) × (l.index ≤ l.index-end) × (l.index-end ≡ length l.fn.columns.items)
