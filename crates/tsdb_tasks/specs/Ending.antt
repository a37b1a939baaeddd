-- The end of a job without its record, among the files that a core keeps.
use Rattle.std.specs.Prelude.{◌≡◌, ◌≢◌, ℕ, ◌≤◌, false, List, ◌++◌, length, map, Option, None, slice_range}
use Rattle.std.specs.Option.{option_map}
use Rattle.tsdb_base.specs.declared.ids.FileNumber.{FileNumber}
use Rattle.tsdb_tasks.specs.Coming.{outgoing_of}
use Rattle.tsdb_tasks.specs.Files.{NewFile}
use Rattle.tsdb_tasks.specs.Inputs.{AreHeld, input_numbers}
use Rattle.tsdb_compactions.specs.declared.job.Job.{Job}
use Rattle.tsdb_compactions.specs.Built.{Built}
use Rattle.tsdb_fileset.specs.Files.{IsOpen, KeptFiles, entry_numbers, kept_file}
use Rattle.tsdb_fileset.specs.Places.{OthersStay, place_of_number}
use Rattle.tsdb_fileset.specs.Replacing.{HasListRoom, IsWithin, claim_run, less_compaction}
use Rattle.tsdb_fileset.specs.Room.{less_room}
use Rattle.tsdb_base.specs.Lists.{IsRun, count, if_some}
use Rattle.tsdb_base.specs.declared.ids.Space.{Space}
use Rattle.tsdb_outside.specs.Files.{NamedFile, plain_numbers}
use Rattle.tsdb_pin.specs.Changes.{fewer_rights}
use Rattle.tsdb_plan.specs.declared.entry.FileEntry.{FileEntry}
use Rattle.tsdb_plan.specs.declared.entry.Run.{Run}

-- The entries with these numbers, which stand side by side, are free, and all others stay.
pub record AreFreed (numbers : List FileNumber) (old new : List FileEntry) : Type 0 where
  pub run : Run
  pub within : IsWithin run old
  pub are : entry_numbers (slice_range old run.first run.end) ≡ plain_numbers numbers
  pub is : new ≡ claim_run run false old

-- The late files with these numbers are free, and nothing else has changed.
pub record FreesLate (numbers : List FileNumber) (old new : KeptFiles) : Type 0 where
  pub freed : AreFreed numbers old.unsequence new.unsequence
  pub rest : new ≡ record old { unsequence = new.unsequence }

-- The output of a job that has no record is on its way out, if there is one, and its place is given back, if there is
-- none.
pub record OutputEnds (space : Space) (number : ℕ) (file : Option NewFile) (old new : KeptFiles) : Type 0 where
  pub sequence : new.sequence ≡ old.sequence
  pub unsequence : new.unsequence ≡ old.unsequence
  pub outgoing : new.outgoing ≡ old.outgoing ++ map outgoing_of (if_some file)
  pub here : kept_file number new ≡ option_map (λ one. one.token) file
  pub gone : file ≡ None → place_of_number number new.places ≡ None
  pub others : OthersStay number old.places new.places
  pub room : new.spare ≡ less_room space old.spare
  pub store : new.store ≡ old.store

module _ {F S R P : Type 0} where
  -- the file has the number of the job's output, and no right to read it is out
  pub record IsOutputNumbered (rights : S → ℕ) (job : Job F S R P) (built : Built F S R P) : Type 0 where
    pub number : built.entry.number.0 ≡ job.output.0
    pub unread : rights built.sealed ≡ 0

  -- The job is out, as the files are kept: its late inputs stand side by side, its rights are ones to read its inputs,
  -- and there are the place and the room that its end needs.
  pub record IsOutIn (name : R → NamedFile) (files : KeptFiles) (job : Job F S R P) : Type 0 where
    pub late : IsRun (plain_numbers job.unsequence) (entry_numbers files.unsequence)
    pub held : AreHeld name files job.inputs
    pub some : 1 ≤ length job.inputs
    pub place : IsOpen job.output.0 files
    pub list : HasListRoom job.space files.spare
    pub outgoing : length job.inputs ≤ files.spare.outgoing

  -- The late inputs of the job are free, its rights are given back, and its output is on its way out, if there is one.
  pub record GivesUp (old new : KeptFiles) (job : Job F S R P) (file : Option NewFile) : Type 0 where
    pub sequence : new.sequence ≡ old.sequence
    pub unsequence : AreFreed job.unsequence old.unsequence new.unsequence
    pub outgoing : new.outgoing ≡ old.outgoing ++ map outgoing_of (if_some file)
    pub here : kept_file job.output.0 new ≡ option_map (λ one. one.token) file
    pub gone : file ≡ None → place_of_number job.output.0 new.places ≡ None
    pub others : (number : ℕ) → job.output.0 ≢ number → place_of_number number new.places
        ≡ option_map (λ place. option_map (fewer_rights (count number (input_numbers job.inputs))) place)
        (place_of_number number old.places)
    pub room : new.spare ≡ less_compaction job.space (length job.inputs) old.spare
    pub store : new.store ≡ old.store
