use Rattle.std.proofs.Common.{◌≡◌, ◌||◌, ℤ, map, is_some}
use Rattle.std.specs.Ordering.{int_cmp}
use Rattle.std.specs.FinMap.Entries.{find}
use Rattle.std.specs.Map.Iter.{deref_pair}
use Rattle.std.specs.BTreeSet as set
use Rattle.tsdb_map.proofs.series.Series.add_times.Given as goal

abbrev pub invariant-loop-time : goal.invariant-loop-time
invariant-loop-time l =
    (q : ℤ) → set.contains int_cmp l.times q ≡ (is_some (find int_cmp q (map deref_pair l.yielded)) || set.contains int_cmp l.fn.times q)
