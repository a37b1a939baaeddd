use Rattle.std.proofs.Common.{length}
use Rattle.tsfile_reader.proofs.GroupLoop.{GroupsSoFar}
use Rattle.tsfile_reader.proofs.parts.read_groups.Given as goal

abbrev pub invariant-groups : goal.invariant-groups
invariant-groups l = GroupsSoFar l.version l.rest l.left l.entries.items l.last

abbrev pub decreases-groups : goal.decreases-groups
decreases-groups l = length l.left.bytes.now
