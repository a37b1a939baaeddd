use Rattle.std.proofs.Common.{List, ◌++◌, take}
use Rattle.tsdb_pages.specs.declared.tree.Chunk.{Chunk}
use Rattle.tsdb_pages.specs.declared.tree.Group.{Group}
use Rattle.tsfile_writer.specs.Steps.{AreChunks, ArePages}
use Rattle.tsfile_writer.proofs.tree.write_chunk.Given as goal

abbrev pub invariant-loop-page : goal.invariant-loop-page
invariant-loop-page l = (groups : List Group) (chunks : List Chunk) → AreChunks groups l.device chunks l.fn.into.items l.fn.entries.items
    → ArePages groups l.device chunks l.measurement l.data_type l.encoding (take 1 l.chunk.pages ++ take l.page-index l.page-items) l.into.items l.fn.entries.items l.open
