use Rattle.std.proofs.Common.{◌≡◌, false, map, take}
use Rattle.std.specs.List.{list_any}
use Rattle.tsdb_streams.specs.Clean.{any_meets}
use Rattle.tsdb_streams.specs.Cleaning.{lane_hulls}
use Rattle.tsdb_streams.proofs.cleaning.source_meets.Given as goal

abbrev pub invariant-loop-lane : goal.invariant-loop-lane
invariant-loop-lane g l = list_any (any_meets l.times) (map lane_hulls (take l.lane-index l.lanes)) ≡ false
