use Rattle.std.proofs.Common.{ap, length}
use Rattle.tsdb_redo.proofs.Outputs.{sequence_replaced}
use Rattle.tsdb_redo.specs.declared.lists.FileLists.{FileLists}
use Rattle.tsdb_redo.proofs.lists.FileLists.replace_sequence.Goals as goal

pub returns : goal.returns
returns c =
    let new : FileLists = record {
      sequence = c.replace.new.files;
      unsequence = c.remove.new.files;
      least = c.args.self.now.least;
    } in
    sequence_replaced c.args.item.now c.args.self.now new (length c.items-count.result.now) (length c.items.result.now)
    (ap length c.items-count.ensures) (ap length c.items.ensures) c.replace.ensures c.remove.ensures.items
