use Rattle.std.proofs.Common.{◌≡◌, map, take}
use Rattle.std.specs.FinMap.{get}
use Rattle.tsdb_model.specs.Folds.{within}
use Rattle.tsdb_map.proofs.rows.line_at.Given as goal

abbrev pub invariant-loop-column : goal.invariant-loop-column
invariant-loop-column l = l.values.items ≡ map (λ column. get (within l.range column.now.points) l.time) (take l.column-index l.columns)
