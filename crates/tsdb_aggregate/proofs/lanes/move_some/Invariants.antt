use Rattle.std.proofs.Common.{◌≡◌, ◌≤◌, ◌++◌, length}
use Rattle.std.specs.Vec.Iter.{into_iter_items}
use Rattle.tsdb_aggregate.proofs.lanes.move_some.Given as goal

abbrev pub invariant-loop-rest : goal.invariant-loop-rest
invariant-loop-rest l = (into_iter_items l.fn.rest ≡ l.into.items ++ into_iter_items l.rest) × (length l.into.items ≤ 1000)

abbrev pub decreases-loop-rest : goal.decreases-loop-rest
decreases-loop-rest l = length (into_iter_items l.rest)
