use Rattle.std.specs.Prelude.{◌≡◌, ◌+◌, ◌≤◌, drop}
use Rattle.tsdb_redo.specs.Rows.{new_points}
use Rattle.tsdb_redo.proofs.rows.new_points.Given as goal

abbrev pub invariant-loop-cell : goal.invariant-loop-cell
invariant-loop-cell l = record {
  rest : l.count + new_points l.space l.time l.pair (drop l.cell-index l.cells)
      ≡ new_points l.space l.time l.pair l.cells;
  few : l.count ≤ l.cell-index;
}
