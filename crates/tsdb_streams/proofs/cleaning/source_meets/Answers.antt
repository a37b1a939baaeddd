use Rattle.std.proofs.Common.{rules, sym}
use Rattle.tsdb_streams.proofs.CleanFacts.{found_one, none_more}
use Rattle.tsdb_streams.specs.Clean.{any_meets}
use Rattle.tsdb_streams.specs.Cleaning.{lane_hulls}
use Rattle.tsdb_streams.proofs.cleaning.source_meets.Goals as goal

pub loop-lane-preserved : goal.loop-lane-preserved
loop-lane-preserved g c = none_more lane_hulls (any_meets c.args.times.now) c.args.lanes.now c.loop-lane.lane-index c.lane-item.result c.loop-lane-test.true c.lane-item.is c.loop-lane.invariant (search rules)

pub returns-then-lane_meets : goal.returns-then-lane_meets
returns-then-lane_meets g c = sym (found_one lane_hulls (any_meets c.args.times.now) c.args.lanes.now c.loop-lane.lane-index c.lane-item.result c.loop-lane-test.true c.lane-item.is (search rules))
