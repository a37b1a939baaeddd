use Rattle.std.proofs.Common.{◌≡◌, ℕ, take}
use Rattle.std.specs.Prelude.{All}
use Rattle.tsdb_base.specs.declared.ids.Space.{Space}
use Rattle.tsdb_memory.proofs.RowCells.{HasRoom}
use Rattle.tsdb_memtable.specs.Pairs.{UsesSpareRoom, points_of}
use Rattle.tsdb_memory.proofs.inserting.reserve_cells.Given as goal

abbrev pub invariant-loop-cell : goal.invariant-loop-cell
invariant-loop-cell l = record {
  points : (space : Space) (number : ℕ) → points_of space number l.pair ≡ points_of space number l.initial.pair;
  spare : UsesSpareRoom l.initial.pair l.pair;
  room : All (HasRoom l.pair) (take l.cell-index l.cells);
}
