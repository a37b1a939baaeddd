-- What turns leave of a core and of a port: those that change what is stored, and those that lend and take back.
use Rattle.std.specs.Prelude.{◌≡◌, ◌⊎◌, ◌+◌, ◌≤◌, ◌<◌, ℕ, Bool, true, false, List, Option, Result, length}
use Rattle.std.specs.List.{range_with_len}
use Rattle.std.specs.declared.result.Result.TheVariants.{Ok, Err}
use Rattle.std.specs.declared.option.Option.TheVariants.{Some, None}
use Rattle.tsdb_base.specs.Causes.{Rose}
use Rattle.tsdb_base.specs.Lists.{Among}
use Rattle.tsdb_core.specs.Core.{limit_of, logged_of, next_of}
use Rattle.tsdb_core.specs.Ending.{drawn_for}
use Rattle.tsdb_core.specs.FlushJob.{FlushJob}
use Rattle.tsdb_core.specs.Flushes.{IsCommitAnswer, IsOldestPair}
use Rattle.tsdb_core.specs.Jobs.{IsJob}
use Rattle.tsdb_core.specs.Out.{KeepsOut, nothing_out}
use Rattle.tsdb_core.specs.declared.commit.Commit.{Commit}
use Rattle.tsdb_core.specs.declared.commit.Commit.TheVariants.{Gone}
use Rattle.tsdb_core.specs.declared.commit.CoreFault.{CoreFault}
use Rattle.tsdb_core.specs.declared.engine.Core.{Core}
use Rattle.tsdb_frames.specs.Calls.{KeepsToSlot}
use Rattle.tsdb_frames.specs.Frames.{faults_of}
use Rattle.tsdb_memory.specs.Changes.{KeepsSeries}
use Rattle.tsdb_memory.specs.LogState.{log_of, memory_of}
use Rattle.tsdb_memory.specs.Rows.{ChangesRoom}
use Rattle.tsdb_memory.specs.Store.{FrozenPair}
use Rattle.tsdb_outside.specs.Files.{NamedFile, Store}
use Rattle.tsdb_outside.specs.declared.disk.Disk as disk
use Rattle.tsdb_outside.specs.declared.faults.Counted as counted
use Rattle.tsdb_serving.specs.Faults.{HasFlushCause}
use Rattle.tsdb_serving.specs.Loans.{CanServe, KeepsAll, Lends, TakesBack}
use Rattle.tsdb_serving.specs.Serving.{KeepsServing, KeepsState, ServesWith, ServesWithout, StaysInPlace, log_under}
use Rattle.tsdb_serving.specs.declared.fault.FlushFault.{FlushFault}
use Rattle.tsdb_serving.specs.declared.loan.Loan.{Loan}
use Rattle.tsdb_serving.specs.declared.loan.Loan.TheVariants as loan

-- a number that was drawn for the job
abbrev pub IsOfJob : FlushJob → ℕ → Type 0
IsOfJob job number = Among number (drawn_for job)

module _ {J F S R P : Type 0} {means : disk.Ghosts J} {counts : counted.Ghosts J} where
  -- how often the journal under the core has failed
  abbrev pub faults_under : Core J F S R P means counts → ℕ
  faults_under core = faults_of (log_of (logged_of core))

  -- the frozen pairs, from the oldest on
  abbrev pub frozen_under : Core J F S R P means counts → List FrozenPair
  frozen_under core = (memory_of (logged_of core)).frozen

  -- what the end of a flush answers: gone where it is not whole, and else as a commit does
  abbrev pub IsEndAnswer : Bool → Core J F S R P means counts → FlushJob → Commit → Type 0
  IsEndAnswer true core job commit = IsCommitAnswer core job commit
  IsEndAnswer false core job commit = commit ≡ Gone

  -- nothing is out of the core, and it is of the store
  abbrev pub IsReady : Store → Core J F S R P means counts → Type 0
  IsReady store core = KeepsOut store nothing_out core

  -- no series comes or goes, and no change is counted, whatever store it is
  pub record CountsNothing (old new : Core J F S R P means counts) : Type 0 where
    pub series : (memory_of (logged_of new)).series ≡ (memory_of (logged_of old)).series
    pub stamp : (memory_of (logged_of new)).stamp ≡ (memory_of (logged_of old)).stamp

  module _ (store : P → Store) (faults : P → ℕ) (port after : P) (old new : Core J F S R P means counts) where
    -- What is left of a port and a core, whatever is answered: all that was out is out, the log keeps to its slot, at most
    -- so many numbers for files were drawn, the port is still of its store, and no count of faults has fallen.
    pub record Serves (drawn : ℕ) : Type 0 where
      pub keeps_all : KeepsAll (store port) old new
      pub stays : StaysInPlace old new
      pub draws : next_of new ≤ next_of old + drawn
      pub same_store : store after ≡ store port
      pub later : (faults_under old ≤ faults_under new) × (faults port ≤ faults after)

    -- What each part of a flush or of a compaction leaves: all of this, the limit of the working pair, the series and the
    -- stamp. Where the store tells what its files hold, the core is in the same states.
    pub record GoesOn (drawn : ℕ) : Type 0 where
      pub serves : Serves drawn
      pub limit : limit_of new ≡ limit_of old
      pub counted : CountsNothing old new
      pub keeps : (store port).tells ≡ true → KeepsServing old new

  module _ (faults : P → ℕ) (port after : P) (old new : Core J F S R P means counts) where
    -- the journal under the core, or the port, has counted a fault
    abbrev pub HasCountedFault : Type 0
    HasCountedFault = Rose (faults_under old) (faults_under new) ⊎ Rose (faults port) (faults after)

    -- why a flush ended before its end, by these counts and the next number
    abbrev pub HasFlushCauseOver : FlushFault → Type 0
    HasFlushCauseOver = HasFlushCause (faults_under old) (faults_under new) (faults port) (faults after) (next_of new)

  -- What a turn leaves that lends nothing and writes nothing: memory may have been taken, and else all is as it was.
  pub record StaysIdle (old new : Core J F S R P means counts) : Type 0 where
    pub keeps_all : (store : Store) → KeepsAll store old new
    pub log : log_of (logged_of new) ≡ log_of (logged_of old)
    pub memory : ChangesRoom (memory_of (logged_of old)) (memory_of (logged_of new))
    pub next : next_of new ≡ next_of old
    pub limit : limit_of new ≡ limit_of old
    pub keeps : KeepsState old new

  module _ (name : R → NamedFile) where
    -- What a turn leaves that lends a flush, a compaction or a pin, with so many numbers drawn for it: it is out beside what
    -- was out, and else all is as it was.
    pub record LendsOne (one : Loan F S R P) (drawn : ℕ) (old new : Core J F S R P means counts) : Type 0 where
      pub lends : (store : Store) → Lends name store one old new
      pub log : log_of (logged_of new) ≡ log_of (logged_of old)
      pub memory : ChangesRoom (memory_of (logged_of old)) (memory_of (logged_of new))
      pub next : next_of new ≡ next_of old + drawn
      pub limit : limit_of new ≡ limit_of old
      pub serves : ServesWith one old new

    -- The job of the oldest pair was taken, with the next number or the next two.
    pub record LendsFlush (old new : Core J F S R P means counts) (job : FlushJob) : Type 0 where
      pub is_job : IsJob job
      pub oldest : (store : Store) → CanServe store old → IsOldestPair new job
      pub numbers : drawn_for job ≡ range_with_len (next_of old) (length (drawn_for job))
      pub some : 0 < length (drawn_for job)
      pub few : length (drawn_for job) ≤ 2
      pub turn : LendsOne (loan.Flush job) (length (drawn_for job)) old new

    -- a flush was lent, or nothing, by the answer
    abbrev pub LendsFlushOrNot : Core J F S R P means counts → Core J F S R P means counts
        → Result (Option FlushJob) CoreFault → Type 0
    LendsFlushOrNot old new (Ok None) = StaysIdle old new
    LendsFlushOrNot old new (Ok (Some job)) = LendsFlush old new job
    LendsFlushOrNot old new (Err fault) = StaysIdle old new

    -- What the end of a loan leaves of a core, whatever it answers: it is out no longer and all others are, the log keeps to
    -- its slot, no number was drawn, and no fault is forgotten.
    pub record EndsLoan (store : Store) (one : Loan F S R P) (old new : Core J F S R P means counts) : Type 0 where
      pub back : TakesBack name store one old new
      pub slot : KeepsToSlot (log_under old) (log_under new)
      pub next : next_of new ≡ next_of old
      pub limit : limit_of new ≡ limit_of old
      pub kept : KeepsSeries (memory_of (logged_of old)) (memory_of (logged_of new))
      pub later : faults_under old ≤ faults_under new

    -- So too the end of a flush; and where the store tells what its files hold, the core is in the states that it was in.
    pub record TakesFlushBack (store : Store) (job : FlushJob) (old new : Core J F S R P means counts) : Type 0 where
      pub ends : EndsLoan store (loan.Flush job) old new
      pub serves : store.tells ≡ true → ServesWithout (IsOfJob job) (loan.Flush job) old new
