use Rattle.std.proofs.Common.{◌++◌, ap, ◌∙◌}
use Rattle.tsdb_base.specs.declared.ids.Space.TheVariants.{Sequence, Unsequence}
use Rattle.tsdb_core.proofs.ListingLemmas.{lists_store}
use Rattle.tsdb_fileset.specs.Lines.{file_lines_of}
use Rattle.tsdb_core.proofs.engine.Core.show.Goals as goal

pub returns-clause-tells : goal.returns-clause-tells
returns-clause-tells g c = λ outside state seen. lists_store c.args.self.now outside state c.in_ok-files.files
    c.memory-memory.result.now c.frozen.result.now c.points.result c.points-2.result c.marks-2.result.now seen
    c.memory-memory.ensures c.entries.ensures.kept
    (c.in_ok-files.ensures ∙ (λ i. file_lines_of Sequence (c.entries.ensures.entries i)
    ++ file_lines_of Unsequence (c.entries-2.ensures.entries i))) c.frozen.ensures.value c.points.ensures c.points-2.ensures
    (c.marks-2.ensures ∙ ap (λ m. m.marks) c.marks.ensures)
