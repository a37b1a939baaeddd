-- What the calls of a core that take a flush and end it leave.
use Rattle.std.specs.Prelude.{◌≡◌, ◌⊎◌, ℕ, ◌+◌, ◌<◌, ◌≤◌, List, ◌∷◌, length, Option, None, Some, Result}
use Rattle.std.specs.Prelude.{drop, slice_get}
use Rattle.std.specs.Arc.{arc_value}
use Rattle.std.specs.List.{AllByRecursion as Each, range_with_len}
use Rattle.std.specs.Option.{IsSomeAnd, option_map}
use Rattle.std.specs.declared.result.Result.TheVariants.{Ok, Err}
use Rattle.tsdb_base.specs.declared.ids.FileNumber.{FileNumber}
use Rattle.tsdb_base.specs.declared.ids.Stamp.{Stamp}
use Rattle.tsdb_tasks.specs.Coming.{HaveCome}
use Rattle.tsdb_tasks.specs.Files.{IsOutAs, NewFiles, TellBytes, state_files, told_after_flush, with_files}
use Rattle.tsdb_core.specs.Core.{IsSeen, KeepsJobs, files_of, flushed_below, is_sequence_claimed, limit_of, logged_of}
use Rattle.tsdb_core.specs.Core.{next_of, store_of, working_of}
use Rattle.tsdb_core.specs.Ending.{AreAfterCommit, IsLeastWith, drawn_for, number_for}
use Rattle.tsdb_core.specs.Loans.{KeepsAllLoans, KeepsLoans, LentRight}
use Rattle.tsdb_core.specs.Worlds.{IsWorldOf}
use Rattle.tsdb_core.specs.declared.engine.Core.{Core}
use Rattle.tsdb_core.specs.declared.commit.Commit.{Commit}
use Rattle.tsdb_core.specs.declared.commit.Commit.TheVariants.{Done, Gone, Device}
use Rattle.tsdb_core.specs.declared.commit.CoreFault.{CoreFault}
use Rattle.tsdb_core.specs.declared.commit.CoreFault.TheVariants.{Memory, Full}
use Rattle.tsdb_fileset.specs.Flushes.{IsFlushOf}
use Rattle.tsdb_frames.specs.Calls.{KeepsToSlot}
use Rattle.tsdb_frames.specs.Frames.{faults_of}
use Rattle.tsdb_state.specs.StoredEngine.{built_files}
use Rattle.tsdb_fileset.specs.Jobs.{IsJob}
use Rattle.tsdb_fileset.specs.Taking as taking
use Rattle.tsdb_fileset.specs.FlushJob.{FlushJob}
use Rattle.tsdb_fileset.specs.Files.{KeepsLists, listed_borns}
use Rattle.tsdb_fileset.specs.Places.{OnlyMakesPlaces}
use Rattle.tsdb_base.specs.Lists.{IsWithOne}
use Rattle.tsdb_memory.specs.Changes.{KeepsSeries}
use Rattle.tsdb_memory.specs.Commands.{IsPrepared}
use Rattle.tsdb_memory.specs.Flushes.{IsFlushed}
use Rattle.tsdb_memory.specs.LogState.{LeavesStates, Outside, log_of, memory_of, with_record}
use Rattle.tsdb_model.specs.World.{World}
use Rattle.tsdb_memory.specs.Store.{FrozenPair, MemoryState}
use Rattle.tsdb_base.specs.Causes.{Rose}
use Rattle.tsdb_outside.specs.declared.disk.Disk as disk
use Rattle.tsdb_outside.specs.declared.faults.Counted as counted
use Rattle.tsdb_outside.specs.declared.faults.Failed.{Failed}
use Rattle.tsdb_base.specs.Limits.{end_of_numbers}
use Rattle.tsdb_state.specs.State as state
use Rattle.tsdb_state.specs.State.{Compaction, EngineState}
use Rattle.tsdb_state.specs.Steps.{TakesFlush, committed_flush, ended_flush, failed, flush_record, settled, took_flush}
use Rattle.tsdb_state.specs.Worlds.{KeepsWorld, StandsFor}

-- the flush has the numbers of the job
pub record HasNumbersOf (job : FlushJob) (flush : state.FlushState) : Type 0 where
  pub sequence : flush.sequence ≡ option_map (λ (number : FileNumber). number.0) job.sequence
  pub unsequence : flush.unsequence ≡ option_map (λ (number : FileNumber). number.0) job.unsequence

-- the oldest pair was frozen at this stamp or before it; all others were frozen later
abbrev pub IsDue : ℕ → List FrozenPair → Type 0
IsDue upto frozen = IsSomeAnd (slice_get frozen 0) (λ pair. pair.born ≤ upto)

-- What taking a flush up to a stamp answers: none exactly where no pair is due; full exactly where one is, and two
-- numbers more are too many, with the next number.
abbrev pub IsTakeAnswer : ℕ → ℕ → MemoryState → Result (Option FlushJob) CoreFault → Type 0
IsTakeAnswer upto next store (Ok None) = ¬ IsDue upto store.frozen
IsTakeAnswer upto next store (Ok (Some job)) = IsDue upto store.frozen × (next + 2 ≤ end_of_numbers)
IsTakeAnswer upto next store (Err Memory) = IsDue upto store.frozen × (next + 2 ≤ end_of_numbers)
IsTakeAnswer upto next store (Err (Full counter)) =
    IsDue upto store.frozen × (end_of_numbers < next + 2) × (counter ≡ next)

-- the oldest frozen pair has the born of the job
abbrev pub HasOldestBorn : FlushJob → MemoryState → Type 0
HasOldestBorn job store = IsSomeAnd (slice_get store.frozen 0) (λ pair. pair.born ≡ job.born.0)

-- no number of the job is below this one
abbrev pub IsDrawnFrom : ℕ → FlushJob → Type 0
IsDrawnFrom below job = Each (λ number. below ≤ number) (drawn_for job)

-- the number below which flushes are of pairs that are gone, after a commit: the next one, where it is done
abbrev pub below_after : Commit → ℕ → ℕ → ℕ
below_after Done next below = next
below_after Gone next below = below
below_after Device next below = below

module _ {J F S R P : Type 0} {means : disk.Ghosts J} {counts : counted.Ghosts J} where
  -- The oldest frozen pair is that of the job: it has its born, and no flush was committed since the job drew its
  -- numbers. A job is of the pair that is the oldest when it draws them, and only a commit takes that pair away.
  pub record IsOldestPair (core : Core J F S R P means counts) (job : FlushJob) : Type 0 where
    pub born : HasOldestBorn job (memory_of (logged_of core))
    pub since : IsDrawnFrom (flushed_below core) job

  -- a commit answers gone exactly where the oldest frozen pair is not that of the job
  abbrev pub IsCommitAnswer : Core J F S R P means counts → FlushJob → Commit → Type 0
  IsCommitAnswer core job Done = IsOldestPair core job
  IsCommitAnswer core job Gone = ¬ IsOldestPair core job
  IsCommitAnswer core job Device = IsOldestPair core job

  -- The job is out: it has drawn the numbers of a flush for which the core keeps places and room.
  pub record IsOut (core : Core J F S R P means counts) (job : FlushJob) : Type 0 where
    pub flush : state.FlushState
    pub others : List state.FlushState
    pub flushes : List state.FlushState
    pub compactions : List Compaction
    pub numbers : HasNumbersOf job flush
    pub out : IsWithOne flush others flushes
    pub keeps : KeepsJobs core flushes compactions

  -- memory was taken, and nothing else has changed
  pub record TakesMemory (old new : Core J F S R P means counts) : Type 0 where
    pub logged : IsPrepared (logged_of old) (logged_of new)
    pub memory : memory_of (logged_of new) ≡ memory_of (logged_of old)
    pub lists : KeepsLists (files_of old) (files_of new)
    pub places : OnlyMakesPlaces (files_of old).places (files_of new).places
    pub limit : limit_of new ≡ limit_of old
    pub flushed : flushed_below new ≡ flushed_below old
    pub claimed : is_sequence_claimed new ≡ is_sequence_claimed old

  -- no flush was taken: the core shows the same states, and keeps what it kept for jobs
  pub record IsNotTaken (old new : Core J F S R P means counts) : Type 0 where
    pub next : next_of new ≡ next_of old
    pub jobs : (flushes : List state.FlushState) (compactions : List Compaction) → KeepsJobs old flushes compactions
        → KeepsJobs new flushes compactions
    pub loans : KeepsAllLoans old new
    pub step : (outside : Outside) (engine : EngineState) → IsSeen old outside engine → IsSeen new outside engine

  -- The job of the oldest frozen pair was taken, with the next numbers for its parts that have a point. The pair stays,
  -- and what the job's end needs is kept from now on. It has each series that has a point in the pair and no other, with
  -- its schema as memory has it.
  pub record IsFlushTaken (old new : Core J F S R P means counts) (job : FlushJob) : Type 0 where
    pub is_job : IsJob job
    pub of_memory : taking.IsJobTaken (memory_of (logged_of old)) (next_of old) job
    pub oldest : IsSomeAnd (slice_get (memory_of (logged_of old)).frozen 0)
        (λ pair. (pair.born ≡ job.born.0) × (pair.pair ≡ arc_value job.pair))
    pub numbers : drawn_for job ≡ range_with_len (next_of old) (length (drawn_for job))
    pub some : 0 < length (drawn_for job)
    pub next : next_of new ≡ next_of old + length (drawn_for job)
    pub still : (flushes : List state.FlushState) (compactions : List Compaction) → KeepsJobs old flushes compactions
        → IsOldestPair new job
    pub jobs : (flush : state.FlushState) (flushes : List state.FlushState) (compactions : List Compaction)
        → HasNumbersOf job flush → KeepsJobs old flushes compactions → KeepsJobs new (flush ∷ flushes) compactions
    pub loans : (flush : state.FlushState) (flushes : List state.FlushState) (compactions : List Compaction)
        (lent : List (List LentRight)) → HasNumbersOf job flush → KeepsLoans old flushes compactions lent
        → KeepsLoans new (flush ∷ flushes) compactions lent
    pub step : (outside : Outside) (engine : EngineState) → IsSeen old outside engine
        → (flush : state.FlushState) × IsFlushOf job flush × TakesFlush flush engine
        × IsSeen new outside (took_flush flush engine)

  abbrev pub IsFlushTakenOrNot : Core J F S R P means counts → Core J F S R P means counts
      → Result (Option FlushJob) CoreFault → Type 0
  IsFlushTakenOrNot old new (Ok None) = IsNotTaken old new
  IsFlushTakenOrNot old new (Ok (Some job)) = IsFlushTaken old new job
  IsFlushTakenOrNot old new (Err fault) = IsNotTaken old new

  -- the record of the flush was appended, or could not be
  pub record AppendsFlush (old new : Core J F S R P means counts) (job : FlushJob) (outcome : Result (Unit {0}) Failed)
      : Type 0 where
    pub listed : Option Stamp
    pub least : IsLeastWith listed job (listed_borns (files_of old))
    pub flushed : IsFlushed (logged_of old) (logged_of new) (number_for job.sequence) (number_for job.unsequence) listed
        outcome

  -- How the log ends a flush: its record is behind the others; or the pair was frozen no longer, and nothing is
  -- changed.
  abbrev pub IsLoggedAs : Core J F S R P means counts → Core J F S R P means counts → FlushJob → Commit → Type 0
  IsLoggedAs old new job Done = AppendsFlush old new job (Ok tt)
  IsLoggedAs old new job Gone = logged_of new ≡ logged_of old
  IsLoggedAs old new job Device = (failed : Failed) × AppendsFlush old new job (Err failed)

  -- What each end of a flush leaves: its files are where the commit says, their tokens are kept, and so is what the
  -- other jobs need.
  pub record HasEndedFlush (old new : Core J F S R P means counts) (job : FlushJob) (files : NewFiles) (commit : Commit)
      : Type 0 where
    pub lists : AreAfterCommit commit files (files_of old) (files_of new)
    pub come : HaveCome (drawn_for job) files (files_of old) (files_of new)
    pub store : store_of new ≡ store_of old
    pub jobs : (flush : state.FlushState) (others flushes : List state.FlushState) (compactions : List Compaction)
        → HasNumbersOf job flush → IsWithOne flush others flushes → KeepsJobs old flushes compactions
        → KeepsJobs new others compactions
    pub loans : (flush : state.FlushState) (others flushes : List state.FlushState) (compactions : List Compaction)
        (lent : List (List LentRight)) → HasNumbersOf job flush → IsWithOne flush others flushes
        → KeepsLoans old flushes compactions lent → KeepsLoans new others compactions lent
    pub next : next_of new ≡ next_of old
    pub flushed : flushed_below new ≡ below_after commit (next_of old) (flushed_below old)
    pub limit : limit_of new ≡ limit_of old
    pub claimed : is_sequence_claimed new ≡ is_sequence_claimed old

  -- The state after a commit: done, the files are listed, and the pair is frozen no longer; gone, they are on their way
  -- out; the device failed, they are too, and none is in doubt, or what was, or this record.
  abbrev pub IsSeenAfterCommit : Core J F S R P means counts → Outside → EngineState → state.FlushState
      → List state.FlushState → Commit → Type 0
  IsSeenAfterCommit new outside engine flush others Done =
      IsSeen new (with_record (flush_record flush) outside) (committed_flush flush others engine)
  IsSeenAfterCommit new outside engine flush others Gone =
      IsSeen new outside (ended_flush flush others (built_files flush) engine)
  IsSeenAfterCommit new outside engine flush others Device =
      IsSeen new outside (settled (ended_flush flush others (built_files flush) engine))
      ⊎ (IsSeen new outside (ended_flush flush others (built_files flush) engine)
      ⊎ IsSeen new outside (failed (flush_record flush) (ended_flush flush others (built_files flush) engine)))

  -- What a commit leaves of every state that the core shows, where the files tell their bytes. At each moment a stop
  -- leaves the world of the state, with the new files kept. The record keeps the world, wherever it can be written.
  pub record IsCommit (old new : Core J F S R P means counts) (job : FlushJob) (files : NewFiles) (commit : Commit)
      : Type 0 where
    pub answer : IsCommitAnswer old job commit
    pub ends : HasEndedFlush old new job files commit
    pub step : (outside : Outside) (engine : EngineState) (flush : state.FlushState) (others : List state.FlushState)
        → IsSeen old outside engine → IsOutAs job flush others engine → TellBytes files
        → IsSeenAfterCommit new (with_files flush files outside) engine flush others commit
    pub moments : (outside : Outside) (engine : EngineState) (flush : state.FlushState) (others : List state.FlushState)
        → IsSeen old outside engine → IsOutAs job flush others engine → TellBytes files
        → LeavesStates (logged_of old) (logged_of new) (with_files flush files outside) engine (flush_record flush)
    pub world : (outside : Outside) (engine : EngineState) (flush : state.FlushState) (others : List state.FlushState)
        (world : World) → IsSeen old outside engine → IsOutAs job flush others engine → TellBytes files
        → StandsFor outside.told engine.store world → IsWorldOf new world
    pub keeps : (outside : Outside) (engine : EngineState) (flush : state.FlushState) (others : List state.FlushState)
        → IsSeen old outside engine → IsOutAs job flush others engine → TellBytes files → IsOldestPair old job
        → KeepsWorld (told_after_flush flush files outside.told) engine.store (committed_flush flush others engine).store
    pub left : commit ≡ Done → (memory_of (logged_of new)).frozen ≡ drop 1 (memory_of (logged_of old)).frozen
    pub working : working_of new ≡ working_of old
    pub kept : KeepsSeries (memory_of (logged_of old)) (memory_of (logged_of new))
    pub memory : commit ≡ Device → memory_of (logged_of new) ≡ memory_of (logged_of old)
    pub gone : commit ≡ Gone → logged_of new ≡ logged_of old
    pub slot : KeepsToSlot (log_of (logged_of old)) (log_of (logged_of new))
    pub cause : commit ≡ Device → Rose (faults_of (log_of (logged_of old))) (faults_of (log_of (logged_of new)))
    pub later : faults_of (log_of (logged_of old)) ≤ faults_of (log_of (logged_of new))

  -- What giving a flush up leaves: the files that are there go out, and log and memory stay.
  pub record IsAbandoned (old new : Core J F S R P means counts) (job : FlushJob) (files : NewFiles) : Type 0 where
    pub logged : logged_of new ≡ logged_of old
    pub ends : HasEndedFlush old new job files Gone
    pub step : (outside : Outside) (engine : EngineState) (flush : state.FlushState) (others : List state.FlushState)
        → IsSeen old outside engine → IsOutAs job flush others engine → TellBytes files
        → IsSeen new (with_files flush files outside) (ended_flush flush others (state_files files) engine)
    pub world : (outside : Outside) (engine : EngineState) (flush : state.FlushState) (others : List state.FlushState)
        (world : World) → IsSeen old outside engine → IsOutAs job flush others engine → TellBytes files
        → StandsFor outside.told engine.store world → IsWorldOf new world
