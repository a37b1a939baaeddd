use Rattle.std.proofs.Common.{◌≡◌, take}
use Rattle.tsdb_memtable.specs.Points.{counted_bytes}
use Rattle.tsdb_memtable.proofs.points.bytes_of.Given as goal

abbrev pub invariant-loop-point : goal.invariant-loop-point
invariant-loop-point l = l.bytes ≡ counted_bytes (take l.point-index l.points)
