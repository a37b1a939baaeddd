-- What the end of a job with its record leaves, step by step.
use Rattle.std.proofs.Common.{◌≡◌, ℕ, ◌+◌, ◌-◌, ◌≤◌, List, ◌++◌, drop, length, Option, Some, None, refl, sym, ap, subst}
use Rattle.std.proofs.Common.{◌∙◌, arith}
use Rattle.std.specs.Option.{option_map}
use Rattle.std.specs.Prelude.{slice_range}
use Rattle.std.proofs.lemmas.List.{length-drop, length-map, length-take-le}
use Rattle.tsdb_base.specs.declared.ids.FileNumber.{FileNumber}
use Rattle.tsdb_tasks.specs.Files.{NewFile}
use Rattle.tsdb_tasks.specs.Finishing.{Finishes, IsRunOf}
use Rattle.tsdb_tasks.specs.Inputs.{input_numbers}
use Rattle.tsdb_tasks.specs.declared.finishing.InputRuns.{InputRuns}
use Rattle.tsdb_compactions.specs.declared.job.Job.{Job}
use Rattle.tsdb_fileset.specs.Files.{KeptFiles, kept_file}
use Rattle.tsdb_fileset.specs.Places.{OthersStay}
use Rattle.tsdb_fileset.specs.Replacing.{HasReplaced, leaving_run, less_compaction, output_in, replace_run, run_length}
use Rattle.tsdb_base.specs.declared.ids.Space.TheVariants.{Sequence, Unsequence}
use Rattle.tsdb_base.specs.Lists.{if_some}
use Rattle.tsdb_pin.specs.Changes.{GivesRights}
use Rattle.tsdb_plan.specs.declared.entry.FileEntry.{FileEntry}
use Rattle.tsdb_plan.specs.declared.entry.Run.{Run}

-- a run has as many files as it has numbers
pub run_long : (run : Run) (numbers : List FileNumber) (entries : List FileEntry) → IsRunOf run numbers entries
    → run_length run ≡ length numbers
run_long run numbers entries of =
    let inside : run.end - run.first ≤ length (drop run.first entries) =
    omega (arith, of.within.rises, of.within.ends, length-drop run.first entries) in
    sym (length-take-le (run.end - run.first) (drop run.first entries) inside)
    ∙ sym (length-map (slice_range entries run.first run.end) (λ (e : FileEntry). e.number.0))
    ∙ ap length of.are ∙ length-map numbers (λ (n : FileNumber). n.0)

pub both_long : (s u : Run) (sequence unsequence : List FileNumber) (in_s in_u : List FileEntry) (inputs : ℕ)
    → IsRunOf s sequence in_s → IsRunOf u unsequence in_u → length sequence + length unsequence ≡ inputs
    → run_length s + run_length u ≡ inputs
both_long s u sequence unsequence in_s in_u inputs first second all =
    omega (arith, run_long s sequence in_s first, run_long u unsequence in_u second, all)

map_twice : {A B C : Type 0} (f : A → B) (g : B → C) (o : Option A)
    → option_map (λ x. g (f x)) o ≡ option_map g (option_map f o)
map_twice f g None = refl
map_twice f g (Some x) = refl

module _ {F S R P : Type 0} where
  pub finished : (old b c : KeptFiles) (job : Job F S R P) (runs : InputRuns) {B : Type 0} (output : Option B)
      (new : B → NewFile) → GivesRights (input_numbers job.inputs) old b
      → run_length runs.sequence + run_length runs.unsequence ≡ length job.inputs
      → HasReplaced job.space runs.sequence runs.unsequence (option_map (λ x. (new x).entry) output) b c
      → kept_file job.output.0 c ≡ option_map (λ x. (new x).token) output
      → OthersStay job.output.0 b.places c.places
      → c.spare ≡ less_compaction job.space (run_length runs.sequence + run_length runs.unsequence) b.spare
      → Finishes old c job runs (option_map new output)
  finished old b c job runs output new given long lists here others room = record {
    lists = subst (λ entry. HasReplaced job.space runs.sequence runs.unsequence entry old c)
        (map_twice new (λ one. one.entry) output) (record {
          sequence_is = lists.sequence_is
              ∙ ap (replace_run runs.sequence (if_some (output_in Sequence job.space
              (option_map (λ x. (new x).entry) output)))) given.lists.sequence;
          unsequence_is = lists.unsequence_is
              ∙ ap (replace_run runs.unsequence (if_some (output_in Unsequence job.space
              (option_map (λ x. (new x).entry) output)))) given.lists.unsequence;
          outgoing_is = lists.outgoing_is
              ∙ (λ i. given.lists.outgoing i ++ (leaving_run runs.sequence (given.lists.sequence i)
              ++ leaving_run runs.unsequence (given.lists.unsequence i)));
          store_is = lists.store_is ∙ given.lists.store;
        });
    here = here ∙ map_twice new (λ one. one.token) output;
    others = λ n apart. others n apart ∙ given.places n;
    room = room ∙ (λ i. less_compaction job.space (long i) (given.room i));
  }
