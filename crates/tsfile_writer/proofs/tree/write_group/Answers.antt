use Rattle.std.proofs.Common.{List, [], subst, take, rules}
use Rattle.std.proofs.lemmas.List.{take_all}
use Rattle.tsdb_pages.specs.declared.tree.Chunk.{Chunk}
use Rattle.tsfile_writer.specs.Steps.{AreChunks}
use Rattle.tsfile_writer.proofs.Appending.{group_begun, group_ended, more_taken}
use Rattle.tsfile_writer.proofs.tree.write_group.Goals as goal

pub loop-chunk-init : goal.loop-chunk-init
loop-chunk-init c = λ groups layout. group_begun groups c.args.group.now.device c.args.into.now.items c.append_group_start.new.into.items c.args.entries.now.items layout c.in_ok-append_group_start.ensures.ok

pub loop-chunk-preserved : goal.loop-chunk-preserved
loop-chunk-preserved c = λ groups layout.
    let group = c.args.group.now in
    subst (λ (chunks : List Chunk). AreChunks groups group.device chunks c.write_chunk.new.into.items c.write_chunk.new.entries.items)
    (more_taken [] group.chunks c.items-chunk-items.result.now c.loop-chunk.chunk-index c.chunk-item.result c.items-chunk-items.ensures c.loop-chunk-test.true c.chunk-item.is)
    (c.in_ok-write_chunk.ensures.ok groups (take c.loop-chunk.chunk-index group.chunks) (c.loop-chunk.invariant groups layout))

pub returns : goal.returns
returns c = record {
  ok = λ groups layout.
      let group = c.args.group.now in
      group_ended groups group c.loop-chunk.into.items c.loop-chunk.entries.items
      (subst (λ (chunks : List Chunk). AreChunks groups group.device chunks c.loop-chunk.into.items c.loop-chunk.entries.items)
      (take_all c.loop-chunk.chunk-index group.chunks (search rules))
      (c.loop-chunk.invariant groups layout));
}
