use Rattle.std.proofs.Common.{◌∙◌, ap}
use Rattle.tsdb_memory.specs.Least.{least_with}
use Rattle.tsdb_redo.proofs.Leasts.{lists_flushed}
use Rattle.tsdb_redo.specs.Lists.{borns_of_files}
use Rattle.tsdb_redo.specs.declared.lists.FileLists.{FileLists}
use Rattle.tsdb_state.specs.Records.{new_file}
use Rattle.tsdb_redo.proofs.lists.FileLists.add_flushed.Goals as goal

pub returns : goal.returns
returns c = λ state are.
    let new : FileLists = record {
      sequence = c.push_new.new.files;
      unsequence = c.push_new-2.new.files;
      least = c.push_new-2.new.least;
    } in
    lists_flushed c.args.self.now new (new_file c.args.sequence.0 c.args.born.0)
    (new_file c.args.unsequence.0 c.args.born.0) state c.push_new.ensures.files c.push_new-2.ensures.files
    (c.push_new-2.ensures.least ∙ ap (λ l. least_with l (borns_of_files (new_file c.args.unsequence.0 c.args.born.0)))
    c.push_new.ensures.least) are
