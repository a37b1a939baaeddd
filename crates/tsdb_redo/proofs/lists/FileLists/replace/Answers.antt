use Rattle.std.proofs.Common.{◌∙◌, List, None, ap}
use Rattle.tsdb_memory.specs.Least.{least_with}
use Rattle.tsdb_redo.proofs.Outputs.{lists_replaced}
use Rattle.tsdb_redo.specs.Lists.{borns_of_files, listed_files, replacement_of}
use Rattle.tsdb_redo.specs.declared.lists.FileLists.{FileLists}
use Rattle.tsdb_redo.specs.declared.lists.ListedFile.{ListedFile}
use Rattle.tsdb_redo.proofs.lists.FileLists.replace.Goals as goal

pub returns : goal.returns
returns c = λ state was.
    let middle : FileLists = c.replace_files.new.self in
    let new : FileLists = record middle { least = c.least_with-self.result } in
    lists_replaced c.args.item.now.space (replacement_of c.args.item.now) c.args.self.now new state
    (record { sequence = c.replace_files.ensures.sequence; unsequence = c.replace_files.ensures.unsequence })
    (c.least_with-self.ensures
    ∙ ap (λ o. least_with o (borns_of_files (listed_files c.deref-2.result.now)))
    (c.least_with.ensures ∙ ap (λ (l : List ListedFile). least_with None (borns_of_files (listed_files l))) c.deref.ensures.value)
    ∙ ap (λ (l : List ListedFile). least_with (least_with None (borns_of_files (listed_files middle.sequence.items)))
    (borns_of_files (listed_files l))) c.deref-2.ensures.value) was
