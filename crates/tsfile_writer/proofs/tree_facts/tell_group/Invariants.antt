use Rattle.std.proofs.Common.{take}
use Rattle.std.specs.Prelude.{All}
use Rattle.tsdb_pages.specs.Trees.{HasParts}
use Rattle.tsfile_writer.proofs.tree_facts.tell_group.Given as goal

abbrev pub invariant-loop-chunk : goal.invariant-loop-chunk
invariant-loop-chunk l = All HasParts (take l.chunk-index l.group.chunks)
