use Rattle.std.proofs.Common.{map, take}
use Rattle.tsdb_marks.specs.Steps.{IsUnmet, newest_at, steps_of}
use Rattle.tsdb_marks.proofs.series.Series.meets.Given as goal

abbrev pub invariant-loop-run : goal.invariant-loop-run
invariant-loop-run l = IsUnmet (newest_at (take l.run-index (map steps_of l.run-items))) l.from l.to l.born
