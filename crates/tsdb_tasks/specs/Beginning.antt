-- The begin of a job, among the files that a core keeps.
use Rattle.std.specs.Prelude.{◌≡◌, ℕ, List, ◌++◌, length, map, None, slice_range, true}
use Rattle.std.specs.Option.{option_map}
use Rattle.tsdb_base.specs.declared.ids.Space.{Space}
use Rattle.tsdb_tasks.specs.Inputs.{AreHeld, input_numbers}
use Rattle.tsdb_tasks.specs.declared.beginning.TakenInputs.{TakenInputs}
use Rattle.tsdb_tasks.specs.declared.finishing.InputRuns.{InputRuns}
use Rattle.tsdb_compactions.specs.Jobs.{input_file}
use Rattle.tsdb_compactions.specs.declared.job.Input.{Input}
use Rattle.tsdb_fileset.specs.StateOfFiles.{listed}
use Rattle.tsdb_fileset.specs.Files.{IsOpen, KeepsLists, KeptFiles, kept_file}
use Rattle.tsdb_fileset.specs.Replacing.{claim_run, compaction_room}
use Rattle.tsdb_fileset.specs.Room.{more_room}
use Rattle.tsdb_base.specs.Lists.{count}
use Rattle.tsdb_outside.specs.Files.{NamedFile}
use Rattle.tsdb_plan.specs.declared.entry.FileEntry.{FileEntry}
use Rattle.tsdb_pin.specs.Changes.{more_rights}
use Rattle.tsdb_state.specs.State.{File}

-- the files of the runs, as the engine state has them
abbrev pub run_files : InputRuns → KeptFiles → List File
run_files runs files = map listed (slice_range files.sequence runs.sequence.first runs.sequence.end)
    ++ map listed (slice_range files.unsequence runs.unsequence.first runs.unsequence.end)

-- One right more is out on the file of each of these numbers, no file comes or goes, each place that was made stays,
-- and so do the lists.
pub record HoldsMore (numbers : List ℕ) (old new : KeptFiles) : Type 0 where
  pub files : (n : ℕ) → kept_file n new ≡ option_map (more_rights (count n numbers)) (kept_file n old)
  pub places : (n : ℕ) → IsOpen n old → IsOpen n new
  pub lists : KeepsLists old new

module _ {F S R P : Type 0} (name : R → NamedFile) where
  -- The inputs are the files of the runs, with their rights; the output has a place, and the end of the job its room.
  pub record AreInputsTaken (space : Space) (output : ℕ) (runs : InputRuns) (old new : KeptFiles)
      (inputs : List (Input F S R P)) : Type 0 where
    pub are : map input_file inputs ≡ run_files runs old
    pub held : AreHeld name old inputs
    pub more : HoldsMore (input_numbers inputs) old new
    pub place : kept_file output old ≡ None → IsOpen output new
    pub room : new.spare ≡ more_room old.spare (compaction_room space (length inputs))

  -- There are some inputs with their rights, and no more room.
  pub record HoldsSome (old new : KeptFiles) (inputs : List (Input F S R P)) : Type 0 where
    pub held : AreHeld name new inputs
    pub more : HoldsMore (input_numbers inputs) old new
    pub room : new.spare ≡ old.spare

  -- The inputs were taken as those of a job: the late ones are claimed, and the numbers of those of each list are
  -- there.
  pub record AreBegun (space : Space) (output : ℕ) (runs : InputRuns) (old new : KeptFiles)
      (taken : TakenInputs F S R P)
      : Type 0 where
    pub before : KeptFiles
    pub all : AreInputsTaken space output runs old before taken.inputs
    pub claimed : new ≡ record before { unsequence = claim_run runs.unsequence true before.unsequence }
    pub sequence : taken.sequence ≡ map (λ (entry : FileEntry). entry.number)
        (slice_range old.sequence runs.sequence.first runs.sequence.end)
    pub unsequence : taken.unsequence ≡ map (λ (entry : FileEntry). entry.number)
        (slice_range old.unsequence runs.unsequence.first runs.unsequence.end)

-- no file and no list has changed, and there is no more room; a place that was made stays
pub record AreFilesUntouched (old new : KeptFiles) : Type 0 where
  pub files : (n : ℕ) → kept_file n new ≡ kept_file n old
  pub places : (n : ℕ) → IsOpen n old → IsOpen n new
  pub lists : KeepsLists old new
  pub room : new.spare ≡ old.spare
