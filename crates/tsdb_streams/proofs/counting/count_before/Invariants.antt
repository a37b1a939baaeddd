use Rattle.std.proofs.Common.{◌≤◌, take}
use Rattle.tsdb_streams.specs.Lanes.{count_due}
use Rattle.tsdb_streams.proofs.counting.count_before.Given as goal

abbrev pub invariant-loop-place : goal.invariant-loop-place
invariant-loop-place l = l.count ≤ count_due l.range l.passed (take l.place l.pages)
