use Rattle.std.proofs.Common.{◌≡◌, take}
use Rattle.std.specs.Prelude.{flat_map}
use Rattle.tsdb_streams.specs.Cleaning.{lane_passed}
use Rattle.tsdb_streams.proofs.cleaning.passed_stats.Given as goal

abbrev pub invariant-loop-lane : goal.invariant-loop-lane
invariant-loop-lane g l = l.list.items ≡ flat_map lane_passed (take l.lane-index l.lanes)
