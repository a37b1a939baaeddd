use Rattle.std.proofs.Common.{take}
use Rattle.tsfile_writer.specs.Steps.{AreGroupsWritten}
use Rattle.tsfile_writer.proofs.tree.write_tree.Given as goal

abbrev pub invariant-loop-group : goal.invariant-loop-group
invariant-loop-group l = AreGroupsWritten (take l.group-index l.tree.groups) l.bytes.items l.entries.items
