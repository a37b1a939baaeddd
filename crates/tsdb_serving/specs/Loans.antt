-- What is out of a core, the newest first: what the core keeps for it, which jobs and pins of a state it is, and what a
-- turn lends or takes back of it.
use Rattle.std.specs.Prelude.{◌≡◌, List, [], ◌∷◌, map}
use Rattle.std.specs.List.{AllByRecursion as Each, AllZip, flat_map}
use Rattle.tsdb_base.specs.Lists.{IsWithOne}
use Rattle.tsdb_core.specs.Compactions.{IsHandedOut, IsJobOut, job_rights}
use Rattle.tsdb_core.specs.Core.{files_of}
use Rattle.tsdb_core.specs.FlushJob.{FlushJob}
use Rattle.tsdb_core.specs.Flushes.{IsOut}
use Rattle.tsdb_core.specs.Jobs.{IsJob}
use Rattle.tsdb_core.specs.Loans.{LentRight}
use Rattle.tsdb_core.specs.Out.{IsWithJob, KeepsOut, Loans, compaction_of, flush_of, with_flush, with_job, with_pin}
use Rattle.tsdb_core.specs.Pins.{pin_rights}
use Rattle.tsdb_core.specs.declared.engine.Core.{Core}
use Rattle.tsdb_fileset.specs.Flushes.{IsFlushOf}
use Rattle.tsdb_outside.specs.Files.{NamedFile, Store}
use Rattle.tsdb_outside.specs.declared.disk.Disk as disk
use Rattle.tsdb_outside.specs.declared.faults.Counted as counted
use Rattle.tsdb_serving.specs.declared.loan.Loan.{Loan}
use Rattle.tsdb_serving.specs.declared.loan.Loan.TheVariants as loan
use Rattle.tsdb_state.specs.State.{Compaction, FlushState, PinState}
use Rattle.tsdb_tasks.specs.Job.{Job}
use Rattle.tsdb_tasks.specs.Jobs.{IsCompactionOf}
use Rattle.tsdb_tasks.specs.Pin.{Pin}
use Rattle.tsdb_tasks.specs.Pins.{AreColumnsHeld}
use Rattle.tsdb_tasks.specs.StateOfPin.{IsPinOf}

-- the job of a flush is one that a core hands out, and it is this flush of a state
pub record IsFlushLent (job : FlushJob) (flush : FlushState) : Type 0 where
  pub is_job : IsJob job
  pub of : IsFlushOf job flush

module _ {F S R P : Type 0} where
  -- the flush that a loan is,
  abbrev pub flush_in : Loan F S R P → List FlushJob
  flush_in (loan.Flush job) = job ∷ []
  flush_in (loan.Compaction job) = []
  flush_in (loan.Pin pin) = []

  -- the compaction,
  abbrev pub job_in : Loan F S R P → List (Job F S R P)
  job_in (loan.Flush job) = []
  job_in (loan.Compaction job) = job ∷ []
  job_in (loan.Pin pin) = []

  -- or the pin
  abbrev pub pin_in : Loan F S R P → List (Pin F S R P)
  pin_in (loan.Flush job) = []
  pin_in (loan.Compaction job) = []
  pin_in (loan.Pin pin) = pin ∷ []

  -- those of all loans
  abbrev pub flushes_in : List (Loan F S R P) → List FlushJob
  flushes_in loans = flat_map flush_in loans

  abbrev pub jobs_in : List (Loan F S R P) → List (Job F S R P)
  jobs_in loans = flat_map job_in loans

  abbrev pub pins_in : List (Loan F S R P) → List (Pin F S R P)
  pins_in loans = flat_map pin_in loans

  -- the loans are the flushes, the compactions and the pins of a state, in their order
  pub record AreLent (loans : List (Loan F S R P)) (taken : List FlushState) (begun : List Compaction)
      (pinned : List PinState)
      : Type 0 where
    pub flushes : AllZip IsFlushLent (flushes_in loans) taken
    pub compactions : AllZip IsCompactionOf (jobs_in loans) begun
    pub pins : AllZip IsPinOf (pins_in loans) pinned

-- the second ones are the first ones and a flush, at some place among them
pub record IsWithFlush (job : FlushJob) (others all : Loans) : Type 0 where
  pub flushes : IsWithOne (flush_of job) others.flushes all.flushes
  pub compactions : all.compactions ≡ others.compactions
  pub lent : all.lent ≡ others.lent

module _ {F S R P : Type 0} (name : R → NamedFile) where
  -- the second ones are the first ones and a pin, at some place among them
  pub record IsWithPin (pin : Pin F S R P) (others all : Loans) : Type 0 where
    pub flushes : all.flushes ≡ others.flushes
    pub compactions : all.compactions ≡ others.compactions
    pub lent : IsWithOne (pin_rights name pin) others.lent all.lent

  -- the second ones are the first ones and this loan, at some place among them
  abbrev pub IsWithLoan : Loan F S R P → Loans → Loans → Type 0
  IsWithLoan (loan.Flush job) others all = IsWithFlush job others all
  IsWithLoan (loan.Compaction job) others all = IsWithJob name job others all
  IsWithLoan (loan.Pin pin) others all = IsWithPin pin others all

  -- these and this loan
  abbrev pub with_loan : Loan F S R P → Loans → Loans
  with_loan (loan.Flush job) out = with_flush job out
  with_loan (loan.Compaction job) out = with_job name job out
  with_loan (loan.Pin pin) out = with_pin name pin out

  -- the rights of the job or the pin that a loan is
  abbrev pub loan_rights : Loan F S R P → List (List LentRight)
  loan_rights (loan.Flush job) = []
  loan_rights (loan.Compaction job) = job_rights name job ∷ []
  loan_rights (loan.Pin pin) = pin_rights name pin ∷ []

  -- what is out of a core that has these loans
  abbrev pub out_of : List (Loan F S R P) → Loans
  out_of loans = record {
    flushes = map flush_of (flushes_in loans);
    compactions = map compaction_of (jobs_in loans);
    lent = flat_map loan_rights loans;
  }

module _ {J F S R P : Type 0} {means : disk.Ghosts J} {counts : counted.Ghosts J} where
  -- The core keeps what is out of it, whatever that is, and its files are of the store: so it can serve.
  abbrev pub CanServe : Store → Core J F S R P means counts → Type 0
  CanServe store core = (out : Loans) × KeepsOut store out core

  -- all that was out is out
  abbrev pub KeepsAll : Store → Core J F S R P means counts → Core J F S R P means counts → Type 0
  KeepsAll store old new = (out : Loans) → KeepsOut store out old → KeepsOut store out new

  module _ (name : R → NamedFile) where
    -- all that was out is out, and this loan too
    abbrev pub Lends : Store → Loan F S R P → Core J F S R P means counts → Core J F S R P means counts → Type 0
    Lends store one old new = (out : Loans) → KeepsOut store out old → KeepsOut store (with_loan name one out) new

    -- this loan is out no longer, whichever came before it and behind it, and all others are
    abbrev pub TakesBack : Store → Loan F S R P → Core J F S R P means counts → Core J F S R P means counts → Type 0
    TakesBack store one old new = (others all : Loans) → IsWithLoan name one others all → KeepsOut store all old
        → KeepsOut store others new

    -- The core keeps what these loans need, whatever is told: so each of them can be ended, whichever calls come before.
    pub record KeepsLent (store : Store) (loans : List (Loan F S R P)) (core : Core J F S R P means counts)
        : Type 0 where
      pub out : KeepsOut store (out_of name loans) core
      pub handed : Each IsHandedOut (jobs_in loans)

    -- the loan can be ended, as its end asks for it
    abbrev pub CanEnd : Core J F S R P means counts → Loan F S R P → Type 0
    CanEnd core (loan.Flush job) = IsOut core job
    CanEnd core (loan.Compaction job) = IsJobOut name core job
    CanEnd core (loan.Pin pin) = AreColumnsHeld name (files_of core) pin.columns
