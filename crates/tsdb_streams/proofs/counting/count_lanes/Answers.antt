use Rattle.std.proofs.Common.{arith}
use Rattle.tsdb_streams.proofs.CountFacts.{sum_end, sum_push}
use Rattle.tsdb_streams.specs.Lanes.{lane_due}
use Rattle.tsdb_streams.proofs.counting.count_lanes.Goals as goal

pub loop-lane-init : goal.loop-lane-init
loop-lane-init g c = omega arith

pub loop-lane-preserved : goal.loop-lane-preserved
loop-lane-preserved g c = sum_push (lane_due c.args.range.now) c.args.lanes.now c.loop-lane.lane-index c.lane-item.result c.loop-lane.count c.saturating_add-count.result c.count_lane.result c.loop-lane-test.true c.lane-item.is c.loop-lane.invariant c.count_lane.ensures
    (let sum = c.saturating_add-count.ensures in omega (arith, sum))

pub returns : goal.returns
returns g c = sum_end (lane_due c.args.range.now) c.args.lanes.now _ c.loop-lane.count c.loop-lane.invariant
