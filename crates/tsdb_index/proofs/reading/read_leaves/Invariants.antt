use Rattle.std.proofs.Common.{length}
use Rattle.tsdb_index.proofs.Left.{AreLeft}
use Rattle.tsdb_index.proofs.reading.read_leaves.Given as goal

abbrev pub invariant-leaves : goal.invariant-leaves
invariant-leaves l = AreLeft l.version l.root l.fn.pointers l.fn.bytes l.rest l.left l.entries.items

abbrev pub decreases-leaves : goal.decreases-leaves
decreases-leaves l = length l.rest
