use Rattle.std.specs.Prelude.{◌↔◌, drop, nat_eq}
use Rattle.std.specs.HashSet.{contains}
use Rattle.tsdb_redo.proofs.Distinct.{AreFresh}
use Rattle.tsdb_redo.specs.Rows.{DifferInSeries}
use Rattle.tsdb_redo.proofs.rows.differ_in_series.Given as goal

abbrev pub invariant-loop-cell : goal.invariant-loop-cell
invariant-loop-cell l = record {
  rest : DifferInSeries l.cells ↔ AreFresh (λ n. contains nat_eq l.seen n) (drop l.cell-index l.cells);
}
