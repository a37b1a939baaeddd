-- What a core keeps for a compaction that is out.
use Rattle.std.specs.Prelude.{◌≡◌, ◌≤◌, List, length, map}
use Rattle.tsdb_tasks.specs.Ending.{IsOutIn}
use Rattle.tsdb_tasks.specs.Finishing.{StandInSequence}
use Rattle.tsdb_tasks.specs.Inputs.{input_numbers}
use Rattle.tsdb_tasks.specs.Jobs.{IsCompactionOf, IsJobFormed}
use Rattle.tsdb_tasks.specs.Input.{Input}
use Rattle.tsdb_tasks.specs.Job.{Job}
use Rattle.tsdb_core.specs.Core.{KeepsJobs, files_of}
use Rattle.tsdb_core.specs.Loans.{LentRight, lent_numbers}
use Rattle.tsdb_core.specs.declared.engine.Core.{Core}
use Rattle.tsdb_base.specs.Lists.{IsWithOne}
use Rattle.tsdb_outside.specs.Files.{NamedFile}
use Rattle.tsdb_outside.specs.declared.disk.Disk as disk
use Rattle.tsdb_outside.specs.declared.faults.Counted as counted
use Rattle.tsdb_state.specs.State.{Compaction, FlushState}

module _ {F S R P : Type 0} where
  -- rights on the inputs of the job, one on each
  abbrev pub AreOnInputs : Job F S R P → List LentRight → Type 0
  AreOnInputs job rights = lent_numbers rights ≡ input_numbers job.inputs

  -- what holds of a job that a core hands out, whatever comes later
  pub record IsHandedOut (job : Job F S R P) : Type 0 where
    pub formed : IsJobFormed job
    pub few_sequence : length job.sequence ≤ 100000000
    pub few_late : length job.unsequence ≤ 100000000

module _ {F S R P : Type 0} (name : R → NamedFile) where
  -- the rights that the job has
  abbrev pub job_rights : Job F S R P → List LentRight
  job_rights job = map (λ (input : Input F S R P). record { number = input.number.0; name = name input.right }) job.inputs

module _ {J F S R P : Type 0} {means : disk.Ghosts J} {counts : counted.Ghosts J} (name : R → NamedFile) where
  -- The job is as a core hands it out, its inputs stand in the lists and are held, and few enough for one record.
  pub record IsJobKept (core : Core J F S R P means counts) (job : Job F S R P) : Type 0 where
    pub formed : IsJobFormed job
    pub held : IsOutIn name (files_of core) job
    pub stands : StandInSequence job.space job.place job.sequence (files_of core).sequence
    pub few_sequence : length job.sequence ≤ 100000000
    pub few_late : length job.unsequence ≤ 100000000

  -- The job is out: the core keeps it, and it is one of the compactions for which the core keeps places and room.
  pub record IsJobOut (core : Core J F S R P means counts) (job : Job F S R P) : Type 0 where
    pub kept : IsJobKept core job
    pub compaction : Compaction
    pub others : List Compaction
    pub compactions : List Compaction
    pub flushes : List FlushState
    pub is : IsCompactionOf job compaction
    pub out : IsWithOne compaction others compactions
    pub keeps : KeepsJobs core flushes compactions
