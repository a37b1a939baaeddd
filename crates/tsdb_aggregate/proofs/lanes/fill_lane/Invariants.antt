use Rattle.std.proofs.Common.{length}
use Rattle.std.specs.Vec.Iter.{into_iter_items}
use Rattle.tsdb_aggregate.proofs.LaneLemmas.{IsStillFilling}
use Rattle.tsdb_aggregate.proofs.lanes.fill_lane.Given as goal

abbrev pub invariant-loop-lane : goal.invariant-loop-lane
invariant-loop-lane g l = IsStillFilling (g.D.Loader.state l.fn.loader) (g.D.Loader.state l.loader) l.fn.pages l.pages l.fn.lane l.lane l.into.items

abbrev pub decreases-loop-lane : goal.decreases-loop-lane
decreases-loop-lane g l = length (into_iter_items l.lane.waiting)
