-- What the commands of a core leave.
use Rattle.std.specs.Prelude.{◌≡◌, ◌≤◌, ◌⊎◌, ℕ, List, Option}
use Rattle.tsdb_base.specs.declared.answers.Answer.{Answer}
use Rattle.tsdb_base.specs.declared.answers.Answer.TheVariants.{Done, NoPath, WrongType, Exists, Device, Memory, Full}
use Rattle.tsdb_base.specs.declared.ids.Stamp.{Stamp}
use Rattle.tsdb_base.specs.declared.point.Range.{Range}
use Rattle.tsdb_core.specs.Core.{IsSeen, KeepsJobs, files_of, flushed_below, is_sequence_claimed, limit_of, logged_of}
use Rattle.tsdb_core.specs.Core.{next_of}
use Rattle.tsdb_core.specs.Loans.{KeepsAllLoans}
use Rattle.tsdb_core.specs.declared.engine.Core.{Core}
use Rattle.tsdb_frames.specs.Calls.{KeepsToSlot}
use Rattle.tsdb_frames.specs.Frames.{faults_of}
use Rattle.tsdb_fileset.specs.Files.{listed_borns}
use Rattle.tsdb_log.specs.declared.record.LogRecord.{LogRecord}
use Rattle.tsdb_memory.specs.Answers.{IsRefusal}
use Rattle.tsdb_memory.specs.Changes.{HasDeleted, MemoryAfter}
use Rattle.tsdb_memory.specs.Least.{IsLeastOf}
use Rattle.tsdb_memory.specs.LogState.{LeavesStates, Outside, log_of, memory_of, with_record}
use Rattle.tsdb_base.specs.Causes.{Rose}
use Rattle.tsdb_outside.specs.declared.disk.Disk as disk
use Rattle.tsdb_outside.specs.declared.faults.Counted as counted
use Rattle.tsdb_state.specs.State.{Compaction, EngineState, FlushState}
use Rattle.tsdb_state.specs.Steps.{failed, settled, wrote}

module _ {J F S R P : Type 0} {means : disk.Ghosts J} {counts : counted.Ghosts J} where
  -- The state after a command: done, the record took effect; the device failed, none is in doubt, or what was, or this
  -- record; else the state is as it was.
  abbrev pub IsSeenAfter : Core J F S R P means counts → Outside → EngineState → LogRecord → Answer → Type 0
  IsSeenAfter new outside state item Done = IsSeen new (with_record item outside) (wrote item state)
  IsSeenAfter new outside state item NoPath = IsSeen new outside state
  IsSeenAfter new outside state item WrongType = IsSeen new outside state
  IsSeenAfter new outside state item Exists = IsSeen new outside state
  IsSeenAfter new outside state item Device = IsSeen new outside (settled state)
      ⊎ (IsSeen new outside state ⊎ IsSeen new outside (failed item state))
  IsSeenAfter new outside state item Memory = IsSeen new outside state
  IsSeenAfter new outside state item (Full counter) = IsSeen new outside state

  -- What no command touches: the files, the number of the next one, that at the last flush, the limit of a pair, and
  -- whether the sequence list is claimed. What is kept for jobs and pins stays.
  pub record KeepsFiles (old new : Core J F S R P means counts) : Type 0 where
    pub files : files_of new ≡ files_of old
    pub next : next_of new ≡ next_of old
    pub limit : limit_of new ≡ limit_of old
    pub flushed : flushed_below new ≡ flushed_below old
    pub claimed : is_sequence_claimed new ≡ is_sequence_claimed old
    pub jobs : (flushes : List FlushState) (compactions : List Compaction) → KeepsJobs old flushes compactions
        → KeepsJobs new flushes compactions
    pub loans : KeepsAllLoans old new

  -- What a command leaves of every state that has what it needs. At each moment a stop leaves the world of the state, or
  -- that of the record that was in doubt, or that of this record. A refusal changes nothing, and where memory ends the log
  -- is as it was. The log keeps to its slot.
  pub record IsCoreCommand (old new : Core J F S R P means counts) (item : LogRecord) (Needs : EngineState → Type 0)
      (answer : Answer)
      : Type 0 where
    pub step : (outside : Outside) (state : EngineState) → IsSeen old outside state → Needs state
        → IsSeenAfter new outside state item answer
    pub moments : (outside : Outside) (state : EngineState) → IsSeen old outside state → Needs state
        → LeavesStates (logged_of old) (logged_of new) outside state item
    pub refused : IsRefusal answer → new ≡ old
    pub memory : answer ≡ Memory → log_of (logged_of new) ≡ log_of (logged_of old)
    pub kept : KeepsFiles old new
    pub slot : KeepsToSlot (log_of (logged_of old)) (log_of (logged_of new))
    pub cause : answer ≡ Device → Rose (faults_of (log_of (logged_of old))) (faults_of (log_of (logged_of new)))
    pub later : faults_of (log_of (logged_of old)) ≤ faults_of (log_of (logged_of new))

  -- What a deletion makes of what is in memory, by the least born of the listed files.
  pub record DeletesPoints (path : List ℕ) (range : Range) (old new : Core J F S R P means counts) (answer : Answer)
      : Type 0 where
    pub listed : Option Stamp
    pub least : IsLeastOf listed (listed_borns (files_of old))
    pub memory : MemoryAfter (HasDeleted path range listed) (memory_of (logged_of old)) (memory_of (logged_of new)) answer
