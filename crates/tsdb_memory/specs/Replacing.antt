-- What the commit of a compaction leaves.
use Rattle.std.specs.Prelude.{◌≡◌, ℕ, ◌+◌, ◌*◌, ◌≤◌, List, Option, Result, OnErr, OnOk, length}
use Rattle.std.specs.List.{AllByRecursion as Each}
use Rattle.tsdb_base.specs.declared.ids.Stamp.{Stamp}
use Rattle.tsdb_frames.specs.Calls.{KeepsToSlot}
use Rattle.tsdb_frames.specs.Frames.{faults_of}
use Rattle.tsdb_state.specs.StoredEngine.{IsKeptWhole}
use Rattle.tsdb_log.specs.declared.record.LogRecord.{LogRecord}
use Rattle.tsdb_log.specs.declared.record.LogRecord.TheVariants.{Create, Delete, Flushed, Freeze, Insert, Replaced}
use Rattle.tsdb_log.specs.declared.record.LogRecord.TheVariants.{Snapshot}
use Rattle.tsdb_memory.specs.Changes.{KeepsSeries}
use Rattle.tsdb_memory.specs.LogState.{IsFaulted, IsSoundLogged, LeavesStates, Outside, log_of, memory_of, framed_room}
use Rattle.tsdb_memory.specs.LogState.{with_record}
use Rattle.tsdb_memory.specs.declared.logged_memory.LoggedMemory.{LoggedMemory}
use Rattle.tsdb_memory.specs.Least.{IsLeastOf}
use Rattle.tsdb_memory.specs.StateOfMemory.{file_borns}
use Rattle.tsdb_outside.specs.Causes.{HasCause}
use Rattle.tsdb_outside.specs.declared.disk.Disk as disk
use Rattle.tsdb_outside.specs.declared.faults.Counted as counted
use Rattle.tsdb_outside.specs.declared.faults.Failed.{Failed}
use Rattle.tsdb_state.specs.State.{Compaction, EngineState, File}
use Rattle.tsdb_state.specs.Steps.{CommitsCompaction, committed, compaction_record, ended}

-- how many bytes the record of so many inputs has with its length and a gate
abbrev pub replacement_bytes : ℕ → ℕ
replacement_bytes inputs = 39 + 8 * inputs

-- the record replaces files, few enough for one frame, and its bytes are no more than these
abbrev pub IsReplacement : ℕ → LogRecord → Type 0
IsReplacement room (Replaced born space place output sequence unsequence) = (length sequence ≤ 100000000)
    × (length unsequence ≤ 100000000) × (replacement_bytes (length sequence + length unsequence) ≤ room)
IsReplacement room (Create path data_type encoding) = ⊥
IsReplacement room (Insert time cells) = ⊥
IsReplacement room (Delete path range) = ⊥
IsReplacement room Freeze = ⊥
IsReplacement room (Flushed sequence unsequence) = ⊥
IsReplacement room (Snapshot snapshot) = ⊥

-- The job can be committed with this record and this output, which is kept; and this is the least stamp at which a file
-- was frozen that is listed then.
pub record CanCommitReplacement (item : LogRecord) (listed : Option Stamp) (outside : Outside) (state : EngineState)
    (job : Compaction) (others : List Compaction) (output : List File) (place : ℕ)
    : Type 0 where
  pub commits : CommitsCompaction outside.told outside.known job others output place state
  pub is_record : compaction_record job output place ≡ item
  pub kept : Each (IsKeptWhole outside.kept outside.told) output
  pub least : IsLeastOf listed (file_borns (committed job others output place state).store)

module _ {J : Type 0} {means : disk.Ghosts J} {counts : counted.Ghosts J} where
  -- The output of a job that can be committed stands at its place, and its inputs are on their way out. Where the
  -- append failed the output is, the lists are as before, and the record may be in doubt.
  pub record IsReplaced (old new : LoggedMemory J means counts) (item : LogRecord) (listed : Option Stamp)
      (outcome : Result (Unit {0}) Failed)
      : Type 0 where
    pub done : OnOk outcome ((outside : Outside) (state : EngineState) (job : Compaction) (others : List Compaction)
        (output : List File) (place : ℕ)
        → IsSoundLogged old outside state → CanCommitReplacement item listed outside state job others output place
        → IsSoundLogged new (with_record item outside) (committed job others output place state))
    pub failed : OnErr outcome ((outside : Outside) (state : EngineState) (job : Compaction) (others : List Compaction)
        (output : List File) (place : ℕ)
        → IsSoundLogged old outside state → CanCommitReplacement item listed outside state job others output place
        → IsFaulted new outside (ended job others output state) item)
    pub memory : OnErr outcome (memory_of new ≡ memory_of old)
    pub moments : (outside : Outside) (state : EngineState) (job : Compaction) (others : List Compaction)
        (output : List File) (place : ℕ)
        → IsSoundLogged old outside state → CanCommitReplacement item listed outside state job others output place
        → LeavesStates old new outside state item
    pub frozen : (memory_of new).frozen ≡ (memory_of old).frozen
    pub working : (memory_of new).working ≡ (memory_of old).working
    pub kept : KeepsSeries (memory_of old) (memory_of new)
    pub room : framed_room old ≤ framed_room new
    pub slot : KeepsToSlot (log_of old) (log_of new)
    pub cause : HasCause (faults_of (log_of old)) (faults_of (log_of new)) outcome
