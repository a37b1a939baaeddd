use Rattle.std.proofs.Common.{length}
use Rattle.tsdb_index.specs.Steps.{IsWrittenTo}
use Rattle.tsdb_index.proofs.writing.write_leaves.Given as goal

abbrev pub invariant-leaves : goal.invariant-leaves
invariant-leaves l = IsWrittenTo l.place l.entries l.rest l.leaves

abbrev pub decreases-leaves : goal.decreases-leaves
decreases-leaves l = length l.rest
