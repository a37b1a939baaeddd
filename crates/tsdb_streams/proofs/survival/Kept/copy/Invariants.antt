use Rattle.std.proofs.Common.{◌≡◌, ◌++◌, take}
use Rattle.tsdb_streams.specs.KeptPoints.{kept}
use Rattle.tsdb_streams.proofs.survival.Kept.copy.Given as goal

abbrev pub invariant-loop-point : goal.invariant-loop-point
invariant-loop-point l = l.into.items ≡ l.fn.into.items ++ kept l.self.series.now l.self.range l.self.marks.now.marks l.born.0 (take l.point-index l.points)
