-- What is out of a core, as one record; the same with one flush, compaction or pin more; and what a core keeps for it.
use Rattle.std.specs.Prelude.{◌≡◌, [], ◌∷◌, drop, length, take, List}
use Rattle.std.specs.FinMap.{empty}
use Rattle.std.specs.Option.{option_map}
use Rattle.tsdb_base.specs.Lists.{IsWithOne}
use Rattle.tsdb_base.specs.declared.ids.FileNumber.{FileNumber}
use Rattle.tsdb_core.specs.Compactions.{job_rights}
use Rattle.tsdb_core.specs.Core.{store_of}
use Rattle.tsdb_core.specs.Loans.{KeepsLoans, LentRight}
use Rattle.tsdb_core.specs.Pins.{pin_rights}
use Rattle.tsdb_core.specs.declared.engine.Core.{Core}
use Rattle.tsdb_fileset.specs.FlushJob.{FlushJob}
use Rattle.tsdb_outside.specs.Files.{NamedFile, Store}
use Rattle.tsdb_outside.specs.declared.disk.Disk as disk
use Rattle.tsdb_outside.specs.declared.faults.Counted as counted
use Rattle.tsdb_state.specs.State as state
use Rattle.tsdb_state.specs.State.{Compaction}
use Rattle.tsdb_tasks.specs.Job.{Job}
use Rattle.tsdb_tasks.specs.Jobs.{input_files}
use Rattle.tsdb_tasks.specs.Pin.{Pin}

-- a flush with the numbers of the job, and no point
abbrev pub flush_of : FlushJob → state.FlushState
flush_of job = record {
  born = job.born.0;
  pair = record { sequence = empty; unsequence = empty };
  sequence = option_map (λ (number : FileNumber). number.0) job.sequence;
  unsequence = option_map (λ (number : FileNumber). number.0) job.unsequence;
}

module _ {F S R P : Type 0} where
  -- the compaction that a job is: its sequence inputs come first
  abbrev pub compaction_of : Job F S R P → Compaction
  compaction_of job = record {
    space = job.space;
    place = job.place;
    born = job.born.0;
    sequence = take (length job.sequence) (input_files job);
    unsequence = drop (length job.sequence) (input_files job);
    marks = job.marks.marks;
    output = job.output.0;
  }

-- what is out of a core: flushes, compactions, and the rights of each holder
pub record Loans : Type 0 where
  pub flushes : List state.FlushState
  pub compactions : List Compaction
  pub lent : List (List LentRight)

-- nothing is out
abbrev pub nothing_out : Loans
nothing_out = record { flushes = []; compactions = []; lent = [] }

-- these and a flush
abbrev pub with_flush : FlushJob → Loans → Loans
with_flush job loans = record { flushes = flush_of job ∷ loans.flushes; compactions = loans.compactions; lent = loans.lent }

module _ {F S R P : Type 0} (name : R → NamedFile) where
  -- these and a compaction
  abbrev pub with_job : Job F S R P → Loans → Loans
  with_job job loans = record {
    flushes = loans.flushes;
    compactions = compaction_of job ∷ loans.compactions;
    lent = job_rights name job ∷ loans.lent;
  }

  -- the second ones are the first ones and a compaction, at some place among them
  pub record IsWithJob (job : Job F S R P) (others all : Loans) : Type 0 where
    pub flushes : all.flushes ≡ others.flushes
    pub compactions : IsWithOne (compaction_of job) others.compactions all.compactions
    pub lent : IsWithOne (job_rights name job) others.lent all.lent

  -- these and a pin
  abbrev pub with_pin : Pin F S R P → Loans → Loans
  with_pin pin loans = record {
    flushes = loans.flushes;
    compactions = loans.compactions;
    lent = pin_rights name pin ∷ loans.lent;
  }

module _ {J F S R P : Type 0} {means : disk.Ghosts J} {counts : counted.Ghosts J} where
  -- the core keeps what is out, and is of the store
  pub record KeepsOut (store : Store) (out : Loans) (core : Core J F S R P means counts) : Type 0 where
    pub loans : KeepsLoans core out.flushes out.compactions out.lent
    pub of_store : store ≡ store_of core

  -- what was kept for all that is out is kept
  abbrev pub HandsOn : Core J F S R P means counts → Core J F S R P means counts → Type 0
  HandsOn old new = (store : Store) (out : Loans) → KeepsOut store out old → KeepsOut store out new
