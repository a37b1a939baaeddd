use Rattle.tsdb_pins.specs.Rows.{lists_of, vec_lists}
use Rattle.tsdb_pins.proofs.Columns.{points_in}
use Rattle.tsdb_pins.proofs.RowLemmas.{Collects}
use Rattle.tsdb_pins.proofs.rows.rows_of.Given as goal

abbrev pub invariant-loop-time : goal.invariant-loop-time
invariant-loop-time l = Collects (vec_lists l.fn.columns.items) (lists_of l.left.items) l.lines.items

abbrev pub decreases-loop-time : goal.decreases-loop-time
decreases-loop-time l = points_in (lists_of l.left.items)
