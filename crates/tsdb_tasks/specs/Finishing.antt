-- The end of a job with its record, among the files that a core keeps.
use Rattle.std.specs.Prelude.{◌≡◌, ◌≢◌, ℕ, ◌+◌, List, [], length, Option, slice_range}
use Rattle.std.specs.Option.{option_map}
use Rattle.tsdb_base.specs.declared.ids.FileNumber.{FileNumber}
use Rattle.tsdb_base.specs.declared.ids.Space.{Space}
use Rattle.tsdb_base.specs.declared.ids.Space.TheVariants.{Sequence, Unsequence}
use Rattle.tsdb_tasks.specs.Files.{NewFile}
use Rattle.tsdb_tasks.specs.Inputs.{input_numbers}
use Rattle.tsdb_tasks.specs.declared.finishing.InputRuns.{InputRuns}
use Rattle.tsdb_compactions.specs.declared.job.Job.{Job}
use Rattle.tsdb_fileset.specs.Files.{KeptFiles, entry_numbers, kept_file}
use Rattle.tsdb_fileset.specs.Places.{place_of_number}
use Rattle.tsdb_fileset.specs.Replacing.{HasReplaced, IsWithin, less_compaction}
use Rattle.tsdb_base.specs.Lists.{count}
use Rattle.tsdb_pin.specs.Changes.{fewer_rights}
use Rattle.tsdb_plan.specs.declared.entry.FileEntry.{FileEntry}
use Rattle.tsdb_plan.specs.declared.entry.Run.{Run}
use Rattle.tsdb_outside.specs.Files.{plain_numbers}

-- the files of the run have these numbers
pub record IsRunOf (run : Run) (numbers : List FileNumber) (entries : List FileEntry) : Type 0 where
  pub within : IsWithin run entries
  pub are : entry_numbers (slice_range entries run.first run.end) ≡ plain_numbers numbers

-- the sequence inputs of a job stand from its place on; a job of late files has none
abbrev pub StandInSequence : Space → ℕ → List FileNumber → List FileEntry → Type 0
StandInSequence Sequence place numbers entries =
    IsRunOf (record { first = place; end = place + length numbers }) numbers entries
StandInSequence Unsequence place numbers entries = numbers ≡ []

module _ {F S R P : Type 0} where
  -- The inputs of the job stand in these runs of the two lists, sequence inputs from its place on; without late inputs
  -- theirs begins at place 0.
  pub record AreRunsOf (job : Job F S R P) (runs : InputRuns) (files : KeptFiles) : Type 0 where
    pub sequence : IsRunOf runs.sequence job.sequence files.sequence
    pub unsequence : IsRunOf runs.unsequence job.unsequence files.unsequence
    pub place : job.space ≡ Sequence → runs.sequence.first ≡ job.place
    pub none : job.unsequence ≡ [] → runs.unsequence.first ≡ 0

  -- The inputs of the job are on their way out, its output, if there is one, stands in the place of those of its space,
  -- and its rights are given back.
  pub record Finishes (old new : KeptFiles) (job : Job F S R P) (runs : InputRuns) (file : Option NewFile)
      : Type 0 where
    pub lists : HasReplaced job.space runs.sequence runs.unsequence (option_map (λ one. one.entry) file) old new
    pub here : kept_file job.output.0 new ≡ option_map (λ one. one.token) file
    pub others : (number : ℕ) → job.output.0 ≢ number → place_of_number number new.places
        ≡ option_map (λ place. option_map (fewer_rights (count number (input_numbers job.inputs))) place)
        (place_of_number number old.places)
    pub room : new.spare ≡ less_compaction job.space (length job.inputs) old.spare
