use Rattle.std.proofs.Common.{◌≡◌, take}
use Rattle.tsdb_base.proofs.point.copy_points.Given as goal

abbrev pub invariant-loop-place : goal.invariant-loop-place
invariant-loop-place l = l.copy.items ≡ take l.place l.points
