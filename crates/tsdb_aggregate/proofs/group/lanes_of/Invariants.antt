use Rattle.std.proofs.Common.{length, ◌-◌}
use Rattle.tsdb_aggregate.proofs.RowLemmas.{HasRows}
use Rattle.tsdb_aggregate.proofs.group.lanes_of.Given as goal

abbrev pub invariant-loop-start : goal.invariant-loop-start
invariant-loop-start l = HasRows l.entries.items l.start l.lanes.items

abbrev pub decreases-loop-start : goal.decreases-loop-start
decreases-loop-start l = length l.entries.items - l.start
