use Rattle.std.proofs.Common.{List, take}
use Rattle.tsdb_pages.specs.declared.tree.Group.{Group}
use Rattle.tsfile_writer.specs.Steps.{AreChunks, AreGroupsWritten}
use Rattle.tsfile_writer.proofs.tree.write_group.Given as goal

abbrev pub invariant-loop-chunk : goal.invariant-loop-chunk
invariant-loop-chunk l = (groups : List Group) → AreGroupsWritten groups l.fn.into.items l.fn.entries.items
    → AreChunks groups l.group.device (take l.chunk-index l.group.chunks) l.into.items l.entries.items
