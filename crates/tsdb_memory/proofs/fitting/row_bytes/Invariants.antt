use Rattle.std.proofs.Common.{◌≡◌, ◌*◌, ◌≤◌, take}
use Rattle.tsdb_memory.specs.Fits.{row_bytes}
use Rattle.tsdb_memory.proofs.fitting.row_bytes.Given as goal

abbrev pub invariant-loop-cell : goal.invariant-loop-cell
invariant-loop-cell l = record {
  value : l.bytes ≡ row_bytes (take l.cell-index l.cells);
  most : l.bytes ≤ l.cell-index * 65543;
}
