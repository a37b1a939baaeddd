use Rattle.std.proofs.Common.{◌≤◌, take}
use Rattle.std.specs.Prelude.{sum_by}
use Rattle.tsdb_streams.specs.Lanes.{lane_due}
use Rattle.tsdb_streams.proofs.counting.count_lanes.Given as goal

abbrev pub invariant-loop-lane : goal.invariant-loop-lane
invariant-loop-lane g l = l.count ≤ sum_by (lane_due l.range) (take l.lane-index l.lanes)
