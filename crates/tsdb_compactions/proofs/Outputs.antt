-- What the output of a job has.
use Rattle.std.proofs.Common.{◌≡◌, ℕ, List, [], Option, None, Some, ap, refl, sym, subst, ◌∙◌}
use Rattle.std.specs.FinMap.{get}
use Rattle.std.specs.Prelude.{IfSome, IsSome}
use Rattle.std.proofs.lemmas.Bool.{false≢true}
use Rattle.tsdb_base.specs.declared.value.Value.{Value}
use Rattle.tsdb_flush.proofs.Contents.{tree_of_part}
use Rattle.tsdb_flush.proofs.Entries.{described}
use Rattle.tsdb_flush.specs.BuiltParts.{IsContentOfPart, entry_of}
use Rattle.tsdb_compactions.proofs.Contents.{content_of_part, is_content}
use Rattle.tsdb_compactions.specs.Jobs.{IsCompactionOf}
use Rattle.tsdb_compactions.specs.Outputs.{HasNoWinner, HasOutput, IsBuiltFor, TellsInputs, winner}
use Rattle.tsdb_compactions.specs.declared.job.Job.{Job}
use Rattle.tsdb_flush.specs.declared.job.Built.{Built}
use Rattle.tsdb_state.specs.Layers.{value_in}
use Rattle.tsdb_state.specs.Places.{Content, PointPlace}
use Rattle.tsdb_outside.specs.Files.{NamedFile}
use Rattle.tsdb_state.specs.File.{IsFile}
use Rattle.tsdb_state.specs.Jobs.{Describes, job_inputs}
use Rattle.tsdb_state.specs.State.{Compaction, ToldContents}
use Rattle.tsdb_state.specs.Steps.{IsOutput}
use Rattle.tsdb_state.specs.Views.{file_layers}

-- two options that have the same values are one
same_option : (a b : Option Value) → ((v : Value) → a ≡ Some v → b ≡ Some v) → ((v : Value) → b ≡ Some v → a ≡ Some v)
    → a ≡ b
same_option None None there back = refl
same_option None (Some v) there back = back v refl
same_option (Some v) b there back = sym (there v refl)

module _ {F S R P : Type 0} (name : R → NamedFile) (file : S → NamedFile) (rights : S → ℕ) (told : ToldContents)
    (job : Job F S R P) (built : Built F S R P) (is : IsBuiltFor name file rights job built)
    (tells : TellsInputs name told job) where
  abbrev content : Content
  content = content_of_part is.part

  of_part : IsContentOfPart is.part content
  of_part = is_content is.part is.is_part

  pub has_output : IsSome (file built.sealed).bytes → HasOutput told job (file built.sealed) built
  has_output some = by (file built.sealed).bytes refl some is.file_is.names.bytes_are
    where
      by : (o : Option (List ℕ)) → (file built.sealed).bytes ≡ o → IsSome o
          → IfSome o (λ bytes. bytes ≡ is.file_is.bytes) → HasOutput told job (file built.sealed) built
      by None are some same = absurd (false≢true some)
      by (Some bytes) are some same =
          let made = tree_of_part is.part is.file_is.bytes content is.is_part is.file_is.file of_part in
          record {
            content = content;
            winners = λ place. same_option (get content place) (winner told job place)
                (λ v has. (is.winners told tells place v).1 ((of_part place v).0 has))
                (λ v has. (of_part place v).1 ((is.winners told tells place v).0 has));
            bytes = bytes;
            tells = are;
            tree = made.0;
            is_tree = made.1;
            is_made = made.2;
            is_file = subst (IsFile made.0) (sym same) made.3;
            content_is = made.4;
            describes = subst (λ (paths : List (List ℕ)). Describes (entry_of built.entry paths) content)
                (sym is.file_is.paths)
                (described is.part content of_part job.output.0 job.born.0 is.file_is.bytes built.entry is.is_part
                is.file_is.kept);
          }

-- a compaction has the winners of its job
pub same_winner : {F S R P : Type 0} (told : ToldContents) (job : Job F S R P) (compaction : Compaction)
    → IsCompactionOf job compaction → (place : PointPlace)
    → value_in compaction.marks place (file_layers told (job_inputs compaction)) ≡ winner told job place
same_winner told job compaction is place =
    ap (λ marks. value_in marks place (file_layers told (job_inputs compaction))) is.marks
    ∙ ap (λ files. value_in job.marks.marks place (file_layers told files)) is.inputs

pub no_output : {F S R P : Type 0} (name : R → NamedFile) (told : ToldContents) (job : Job F S R P) (compaction : Compaction)
    → IsCompactionOf job compaction → HasNoWinner name job → TellsInputs name told job → IsOutput told compaction []
no_output name told job compaction is none tells place =
    sym (same_winner told job compaction is place ∙ none told tells place)
