-- The file that was built for a job is the new output of its compaction.
use Rattle.std.proofs.Common.{ℕ, refl, sym, ◌∙◌}
use Rattle.std.specs.Prelude.{IsSome}
use Rattle.tsdb_tasks.specs.Files.{file_built}
use Rattle.tsdb_compactions.proofs.Outputs.{has_output, same_winner}
use Rattle.tsdb_compactions.specs.Jobs.{IsCompactionOf}
use Rattle.tsdb_compactions.specs.Outputs.{IsBuiltFor, TellsInputs}
use Rattle.tsdb_compactions.specs.declared.job.Job.{Job}
use Rattle.tsdb_compactions.specs.Built.{Built}
use Rattle.tsdb_state.specs.Places.{Content}
use Rattle.tsdb_outside.specs.Files.{NamedFile}
use Rattle.tsdb_tasks.specs.Outputs.{IsNewOutput}
use Rattle.tsdb_state.specs.State.{Compaction, ToldContents}

pub new_output : {F S R P : Type 0} (name : R → NamedFile) (file : S → NamedFile) (rights : S → ℕ)
    (told : ToldContents) (job : Job F S R P) (built : Built F S R P) (compaction : Compaction) → IsCompactionOf job compaction
    → IsBuiltFor name file rights job built → TellsInputs name told job → IsSome (file built.sealed).bytes
    → (content : Content) × IsNewOutput told compaction content (file_built file built)
new_output name file rights told job built compaction of is tells some =
    let has = has_output name file rights told job built is tells some in (
      has.content,
      record {
        number_is = is.file_is.kept.number_is ∙ sym of.output;
        born_is = is.file_is.kept.born_is ∙ sym of.born;
        unread = refl;
        named = is.file_is.names.number_is ∙ sym is.file_is.kept.number_is;
        winners = λ place. has.winners place ∙ sym (same_winner told job compaction of place);
        bytes = has.bytes;
        tells = has.tells;
        tree = has.tree;
        is_tree = has.is_tree;
        is_made = has.is_made;
        is_file = has.is_file;
        content_is = has.content_is;
        describes = has.describes;
      },
    )
