-- What the commit of a flush leaves.
use Rattle.std.specs.Prelude.{◌≡◌, ◌≤◌, List, Option, Result, OnErr, OnOk, drop}
use Rattle.std.specs.List.{AllByRecursion as Each}
use Rattle.tsdb_base.specs.declared.ids.FileNumber.{FileNumber}
use Rattle.tsdb_base.specs.declared.ids.Stamp.{Stamp}
use Rattle.tsdb_frames.specs.Calls.{KeepsToSlot}
use Rattle.tsdb_frames.specs.Frames.{faults_of}
use Rattle.tsdb_state.specs.StoredEngine.{IsKeptWhole, built_files}
use Rattle.tsdb_log.specs.declared.record.LogRecord.TheVariants.{Flushed}
use Rattle.tsdb_memory.specs.Changes.{KeepsSeries}
use Rattle.tsdb_memory.specs.LogState.{IsFaulted, IsSoundLogged, LeavesStates, Outside, log_of, memory_of, framed_room}
use Rattle.tsdb_memory.specs.LogState.{with_record}
use Rattle.tsdb_memory.specs.declared.logged_memory.LoggedMemory.{LoggedMemory}
use Rattle.tsdb_memory.specs.Least.{IsLeastOf}
use Rattle.tsdb_memory.specs.StateOfMemory.{file_borns}
use Rattle.tsdb_outside.specs.Causes.{HasCause}
use Rattle.tsdb_outside.specs.declared.disk.Disk as disk
use Rattle.tsdb_outside.specs.declared.faults.Counted as counted
use Rattle.tsdb_outside.specs.declared.faults.Failed.{Failed}
use Rattle.tsdb_state.specs.State.{EngineState, FlushState}
use Rattle.tsdb_state.specs.Steps.{CommitsFlush, committed_flush, ended_flush, flush_record}

-- The flush can be committed with these files, which are kept; and this is the least stamp at which a file was frozen
-- that is listed then.
pub record CanCommit (sequence unsequence : FileNumber) (listed : Option Stamp) (outside : Outside)
    (state : EngineState) (flush : FlushState) (others : List FlushState)
    : Type 0 where
  pub commits : CommitsFlush outside.told outside.known flush others state
  pub numbers : flush_record flush ≡ Flushed sequence unsequence
  pub kept : Each (IsKeptWhole outside.kept outside.told) (built_files flush)
  pub least : IsLeastOf listed (file_borns (committed_flush flush others state).store)

module _ {J : Type 0} {means : disk.Ghosts J} {counts : counted.Ghosts J} where
  -- The files of a flush that can be committed are listed, and its pair is frozen no longer. Where the append failed they
  -- are on their way out, and the record may be in doubt.
  pub record IsFlushed (old new : LoggedMemory J means counts) (sequence unsequence : FileNumber)
      (listed : Option Stamp)
      (outcome : Result (Unit {0}) Failed)
      : Type 0 where
    pub done : OnOk outcome ((outside : Outside) (state : EngineState) (flush : FlushState) (others : List FlushState)
        → IsSoundLogged old outside state → CanCommit sequence unsequence listed outside state flush others
        → IsSoundLogged new (with_record (flush_record flush) outside) (committed_flush flush others state))
    pub failed : OnErr outcome ((outside : Outside) (state : EngineState) (flush : FlushState)
        (others : List FlushState)
        → IsSoundLogged old outside state → CanCommit sequence unsequence listed outside state flush others
        → IsFaulted new outside (ended_flush flush others (built_files flush) state) (flush_record flush))
    pub moments : (outside : Outside) (state : EngineState) (flush : FlushState) (others : List FlushState)
        → IsSoundLogged old outside state → CanCommit sequence unsequence listed outside state flush others
        → LeavesStates old new outside state (flush_record flush)
    pub pair : OnOk outcome ((memory_of new).frozen ≡ drop 1 (memory_of old).frozen)
    pub no_pair : OnErr outcome ((memory_of new).frozen ≡ (memory_of old).frozen)
    pub working : (memory_of new).working ≡ (memory_of old).working
    pub kept : KeepsSeries (memory_of old) (memory_of new)
    pub memory : OnErr outcome (memory_of new ≡ memory_of old)
    pub room : framed_room old ≤ framed_room new
    pub slot : KeepsToSlot (log_of old) (log_of new)
    pub cause : HasCause (faults_of (log_of old)) (faults_of (log_of new)) outcome
