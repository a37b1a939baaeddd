use Rattle.std.proofs.Common.{List, None, ap, ◌∙◌}
use Rattle.tsdb_fileset.proofs.Replaced.{least_after}
use Rattle.tsdb_fileset.specs.Files.{KeptFiles}
use Rattle.tsdb_fileset.specs.Replacing.{entry_borns, replace_run}
use Rattle.tsdb_flush.specs.Least.{least_with}
use Rattle.tsdb_plan.specs.declared.entry.FileEntry.{FileEntry}
use Rattle.tsdb_fileset.proofs.files.KeptFiles.least_after_replacing.Goals as goal

pub returns : goal.returns
returns g c = λ output new is has.
    let first = c.deref.ensures.value ∙ ap (λ (files : KeptFiles). files.sequence) c.self.view_is in
    let second = c.deref-2.ensures.value ∙ ap (λ (files : KeptFiles). files.unsequence) c.self.view_is in
    least_after c.args.space c.args.sequence c.args.unsequence c.args.born c.by_space-in_sequence.result.0
    c.by_space-in_sequence.result.1 c.least_in-least.result c.least_in.result c.args.self.now new output is has
    c.by_space-in_sequence.ensures.sequence c.by_space-in_sequence.ensures.unsequence
    (λ these same. c.least_in-least.ensures these same
    ∙ ap (λ (xs : List FileEntry). least_with None (entry_borns (replace_run c.args.sequence these xs))) first)
    (λ these same. c.least_in.ensures these same
    ∙ ap (λ (xs : List FileEntry). least_with c.least_in-least.result
    (entry_borns (replace_run c.args.unsequence these xs))) second)
