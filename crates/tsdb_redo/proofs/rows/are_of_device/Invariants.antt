use Rattle.std.specs.Prelude.{◌↔◌, drop}
use Rattle.std.specs.List.{AllByRecursion as Each}
use Rattle.tsdb_redo.specs.Rows.{IsCellOf}
use Rattle.tsdb_redo.proofs.rows.are_of_device.Given as goal

abbrev pub invariant-loop-cell : goal.invariant-loop-cell
invariant-loop-cell l = record {
  rest : Each (IsCellOf l.memory.series l.device) l.cells
      ↔ Each (IsCellOf l.memory.series l.device) (drop l.cell-index l.cells);
}
