use Rattle.std.proofs.Common.{◌≡◌, ℤ, map, is_some, take}
use Rattle.std.specs.List.{flat_map}
use Rattle.std.specs.Ordering.{int_cmp}
use Rattle.std.specs.FinMap.{entries}
use Rattle.std.specs.FinMap.Entries.{find}
use Rattle.std.specs.BTreeSet as set
use Rattle.std.specs.Map.Iter.{deref}
use Rattle.tsdb_model.specs.Folds.{line_at, within}
use Rattle.tsdb_map.proofs.rows.rows.Given as goal

abbrev pub invariant-loop-column : goal.invariant-loop-column
invariant-loop-column l =
    (q : ℤ) → set.contains int_cmp l.times q ≡ is_some (find int_cmp q (flat_map (λ column. entries (within l.range column.now.points)) (take l.column-index l.columns)))

abbrev pub invariant-loop-time : goal.invariant-loop-time
invariant-loop-time l =
    l.lines.items ≡ map (line_at (map (λ column. within l.range column.now.points) l.columns)) (map deref l.yielded)
