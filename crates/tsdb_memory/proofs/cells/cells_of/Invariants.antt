use Rattle.tsdb_memory.proofs.RowLemmas.RowParts.{IsReadTo}
use Rattle.tsdb_memory.proofs.cells.cells_of.Given as goal

abbrev pub invariant-loop-cell : goal.invariant-loop-cell
invariant-loop-cell l = IsReadTo l.memory.series l.device l.cells l.cell-index l.fit l.items.items
