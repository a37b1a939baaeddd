use Rattle.std.proofs.Common.{◌≡◌}
use Rattle.std.specs.Prelude.{All, AllPairs}
use Rattle.std.specs.Vec.Iter.{into_iter_items}
use Rattle.tsdb_memory.proofs.RowCells.{Differs, HasRoom}
use Rattle.tsdb_memory.specs.Rows.{put_row_cells}
use Rattle.tsdb_memory.proofs.inserting.put_cells.Given as goal

abbrev pub invariant-loop-cell : goal.invariant-loop-cell
invariant-loop-cell l = record {
  finite : (goal.iterator-loop-cell).can_next l.cell-iterator × (goal.iterator-loop-cell).is_finite l.cell-iterator;
  room : All (HasRoom l.pair) (into_iter_items l.cell-iterator);
  differ : AllPairs Differs (into_iter_items l.cell-iterator);
  rest : put_row_cells l.space l.time (into_iter_items l.cell-iterator) l.pair
      ≡ put_row_cells l.space l.time l.fn.cells l.initial.pair;
}
