-- A compaction is committed with its output, or ends without its record.
use Rattle.std.proofs.Common.{◌≡◌, ℕ, ◌≤◌, List, [], ◌∷◌, ◌++◌, Option, inl, inr}
use Rattle.std.proofs.Common.{ap, arith, refl, sym, subst, ◌∙◌}
use Rattle.std.specs.FinMap.{get}
use Rattle.std.specs.List.{AllByRecursion as Each}
use Rattle.tsdb_base.specs.declared.ids.Stamp.{Stamp}
use Rattle.tsdb_tasks.specs.Files.{NewFile, file_number}
use Rattle.tsdb_state.proofs.ImageLemmas.Storing.{end_stored}
use Rattle.tsdb_base.proofs.Lists.{among_left, with_one_is}
use Rattle.tsdb_state.specs.Layers.{value_in}
use Rattle.tsdb_base.specs.Lists.{Among, IsWithOne, count}
use Rattle.tsdb_state.specs.Places.{Content}
use Rattle.tsdb_memory.specs.LogState.{IsStoredIn, Outside}
use Rattle.tsdb_memory.specs.Replacing.{CanCommitReplacement}
use Rattle.tsdb_memory.specs.Least.{IsLeastOf}
use Rattle.tsdb_memory.specs.StateOfMemory.{file_borns}
use Rattle.tsdb_tasks.proofs.OutputsTold.{known_output, output_kept, stored_with, told_output, told_same}
use Rattle.tsdb_tasks.specs.Outputs.{IsNewOutput, output_file, with_output}
use Rattle.tsdb_state.proofs.OtherJobs.{inputs_listed}
use Rattle.tsdb_state.specs.Jobs.{Describes, HasKind, Stands, job_inputs}
use Rattle.tsdb_state.specs.State.{Compaction, EngineState, KnownFile, File, ToldContents}
use Rattle.tsdb_state.specs.Steps.{EndsCompaction, IsOutput, IsOutputPlace, committed, compaction_record, ended}
use Rattle.tsdb_state.specs.Views.{file_layers}

-- files of which the same is told have the same layers
same_layers : (told other : ToldContents) (files : List File) → Each (λ file. told file.number ≡ other file.number) files
    → file_layers told files ≡ file_layers other files
same_layers told other [] same = refl
same_layers told other (file ∷ files) same =
    λ i. record { born = file.born; content = same.0 i } ∷ same_layers told other files same.1 i

module _ (outside : Outside) (engine : EngineState) (job : Compaction) (others : List Compaction)
    (out : IsWithOne job others engine.compactions) where
  pub ends_with : (content : Content) (file : NewFile) → IsNewOutput outside.told job content file
      → EndsCompaction job others (output_file file) engine
  ends_with content file is = record {
    out = out;
    files = λ n. subst (λ m. count n (file_number file ∷ []) ≤ count n (m ∷ [])) is.number_is (omega arith);
  }

  pub ends_without : EndsCompaction job others [] engine
  ends_without = record { out = out; files = λ n. omega arith }

  pub none_can : (place : ℕ) (least : Option Stamp) → IsOutput outside.told job []
      → IsOutputPlace job.space job engine.store place
      → IsLeastOf least (file_borns (committed job others [] place engine).store)
      → CanCommitReplacement (compaction_record job [] place) least outside engine job others [] place
  none_can place least none at is_least = record {
    commits = record { out = out; stands = at; gives = none; file = inl refl };
    is_record = refl;
    kept = tt;
    least = is_least;
  }

  module _ (stored : IsStoredIn outside engine) where
    pub ended_without : IsStoredIn outside (ended job others [] engine)
    ended_without = end_stored outside.items outside.kept outside.told outside.known engine stored job others []
        ends_without tt

    inputs_are : Each (λ file. Among file (engine.store.sequence ++ engine.store.unsequence)) (job_inputs job)
    inputs_are = inputs_listed outside.told engine.store.sequence engine.store.unsequence job job.space
        (with_one_is (λ (c : Compaction). HasKind c.space c) job others engine.compactions out
        stored.order.compactions.kinds)
        (with_one_is (λ (c : Compaction). Stands c.space outside.told engine.store.sequence engine.store.unsequence c)
        job others engine.compactions out stored.order.compactions.stand)

    module _ (content : Content) (file : NewFile) (is : IsNewOutput outside.told job content file) where
      pub ended_with : IsStoredIn (with_output content file outside) (ended job others (output_file file) engine)
      ended_with = end_stored outside.items (with_output content file outside).kept
          (with_output content file outside).told (with_output content file outside).known engine
          (stored_with outside engine job others stored out content file is) job others (output_file file)
          (ends_with content file is) (output_kept outside engine job others stored out content file is)

      same_inputs : file_layers outside.told (job_inputs job)
          ≡ file_layers (with_output content file outside).told (job_inputs job)
      same_inputs = same_layers outside.told (with_output content file outside).told (job_inputs job)
          (each_inputs (job_inputs job) inputs_are)
        where
          each_inputs : (inputs : List File)
              → Each (λ file. Among file (engine.store.sequence ++ engine.store.unsequence)) inputs
              → Each (λ f. outside.told f.number ≡ (with_output content file outside).told f.number) inputs
          each_inputs [] all = tt
          each_inputs (f ∷ inputs) all = (
            told_same outside engine job others stored out content file is f
                (among_left (engine.store.sequence ++ engine.store.unsequence) engine.outgoing f all.0),
            each_inputs inputs all.1,
          )

      -- the only layer of the output has the winner of each place
      gives : IsOutput (with_output content file outside).told job (output_file file)
      gives place =
          ap (λ (c : Content). get c place) (told_output outside engine job others stored out content file is)
          ∙ is.winners place ∙ ap (value_in job.marks place) same_inputs

      pub output_can : (place : ℕ) (least : Option Stamp) → IsOutputPlace job.space job engine.store place
          → IsLeastOf least (file_borns (committed job others (output_file file) place engine).store)
          → CanCommitReplacement (compaction_record job (output_file file) place) least (with_output content file outside) engine
          job others (output_file file) place
      output_can place least at is_least = record {
        commits = record {
          out = out;
          stands = at;
          gives = gives;
          file = inr (
            (λ i. record { number = is.number_is i; born = is.born_is i } ∷ []),
            subst (λ n. Describes ((with_output content file outside).known n)
                ((with_output content file outside).told n)) is.number_is
                (subst (λ (c : Content). Describes ((with_output content file outside).known (file_number file)) c)
                (sym (told_output outside engine job others stored out content file is))
                (subst (λ (e : KnownFile). Describes e content)
                (sym (known_output outside engine job others stored out content file is)) is.describes)),
          );
        };
        is_record = refl;
        kept = output_kept outside engine job others stored out content file is;
        least = is_least;
      }
