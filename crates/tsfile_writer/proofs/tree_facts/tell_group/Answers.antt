use Rattle.std.proofs.Common.{rules}
use Rattle.std.proofs.lemmas.List.Elements.{All-nil}
use Rattle.tsdb_pages.specs.Trees.{HasParts}
use Rattle.tsfile_writer.proofs.Made.{all_of_taken, one_more_of}
use Rattle.tsfile_writer.proofs.tree_facts.tell_group.Goals as goal

pub loop-chunk-init : goal.loop-chunk-init
loop-chunk-init c = All-nil HasParts

pub loop-chunk-preserved : goal.loop-chunk-preserved
loop-chunk-preserved c = one_more_of HasParts c.args.group.now.chunks c.items-chunk-items.result.now c.loop-chunk.chunk-index c.chunk-item.result c.items-chunk-items.ensures c.loop-chunk-test.true c.chunk-item.is c.loop-chunk.invariant c.tell_chunk.ensures

pub returns : goal.returns
returns c = record {
  device = c.sound.ensures;
  chunks = all_of_taken HasParts c.args.group.now.chunks c.loop-chunk.chunk-index (search rules) c.loop-chunk.invariant;
}
