use Rattle.std.proofs.Common.{length}
use Rattle.tsfile_reader.proofs.ChunkLoop.{ChunksSoFar}
use Rattle.tsfile_reader.proofs.parts.read_chunks.Given as goal

abbrev pub invariant-chunks : goal.invariant-chunks
invariant-chunks l = ChunksSoFar l.version l.device l.rest l.left l.entries.items

abbrev pub decreases-chunks : goal.decreases-chunks
decreases-chunks l = length l.left.bytes.now
