-- What a change of a user leaves, by its answer.
use Rattle.std.specs.Prelude.{◌≡◌, ◌≤◌, ℕ, ℤ, List, Option, ⊤}
use Rattle.tsdb_base.specs.declared.ids.Stamp.{Stamp}
use Rattle.tsdb_base.specs.declared.point.Range.{Range}
use Rattle.tsdb_log.specs.declared.record.CellRecord.{CellRecord}
use Rattle.tsdb_memory.specs.Least.{IsLeastOf}
use Rattle.tsdb_state.specs.Commands.{KeepsBytes}
use Rattle.tsdb_state.specs.Records.{CanFreeze, CanInsert}
use Rattle.tsdb_base.specs.declared.answers.Answer.{Answer}
use Rattle.tsdb_base.specs.declared.answers.Answer.TheVariants.{Done, NoPath, WrongType, Exists, Device, Memory, Full}
use Rattle.tsdb_frames.specs.Calls.{KeepsToSlot}
use Rattle.tsdb_frames.specs.Frames.{faults_of}
use Rattle.tsdb_log.specs.declared.record.LogRecord.{LogRecord}
use Rattle.tsdb_log.specs.declared.record.LogRecord.TheVariants.{Create, Delete, Insert}
use Rattle.tsdb_memory.specs.Answers.{IsRefusal}
use Rattle.tsdb_memory.specs.Appends.{IsLogKept}
use Rattle.tsdb_memory.specs.LogState.{IsFaulted, IsSoundLogged, LeavesStates, Outside, log_of, memory_of, framed_room}
use Rattle.tsdb_memory.specs.LogState.{with_record}
use Rattle.tsdb_memory.specs.declared.logged_memory.LoggedMemory.{LoggedMemory}
use Rattle.tsdb_model.specs.declared.command.Schema.{Schema}
use Rattle.tsdb_memory.specs.Rows.{ChangesRoom}
use Rattle.tsdb_memory.specs.StateOfMemory.{IsMemoryOf, file_borns}
use Rattle.tsdb_base.specs.Causes.{Rose}
use Rattle.tsdb_outside.specs.declared.disk.Disk as disk
use Rattle.tsdb_outside.specs.declared.faults.Counted as counted
use Rattle.tsdb_state.specs.State.{EngineState, StoreState}
use Rattle.tsdb_state.specs.Steps.{wrote}

-- nothing more is asked of a state
abbrev pub NeedsNothing : EngineState → Type 0
NeedsNothing state = ⊤

-- this is the least stamp at which a listed file was frozen
abbrev pub HasLeast : Option Stamp → EngineState → Type 0
HasLeast listed state = IsLeastOf listed (file_borns state.store)

-- the cells of a row can be put into the working pair, within its limits
abbrev pub CanPut : ℤ → List CellRecord → EngineState → Type 0
CanPut time cells state = CanInsert time cells state.store × KeepsBytes time cells state.store

-- the working pair can be frozen
abbrev pub CanStop : EngineState → Type 0
CanStop state = CanFreeze state.store

-- the record creates a series; deletes points; inserts a row
abbrev pub IsCreateRecord : LogRecord → Type 0
IsCreateRecord item = (schema : Schema) × (item ≡ Create schema.path schema.data_type schema.encoding)

abbrev pub IsDeleteRecord : LogRecord → Type 0
IsDeleteRecord item = (path : List ℕ) × (range : Range) × (item ≡ Delete path range)

abbrev pub IsInsertion : LogRecord → Type 0
IsInsertion item = (time : ℤ) × (cells : List CellRecord) × (item ≡ Insert time cells)

-- the record of a series that is created
abbrev pub create_record : Schema → LogRecord
create_record schema = Create schema.path schema.data_type schema.encoding

module _ {J : Type 0} {means : disk.Ghosts J} {counts : counted.Ghosts J} where
  -- The state after a command: done, the record took effect; the device failed, the record may be in doubt; else the
  -- state is as it was.
  abbrev pub IsAfter : LoggedMemory J means counts → Outside → EngineState → LogRecord → Answer → Type 0
  IsAfter new outside state item Done = IsSoundLogged new (with_record item outside) (wrote item state)
  IsAfter new outside state item NoPath = IsSoundLogged new outside state
  IsAfter new outside state item WrongType = IsSoundLogged new outside state
  IsAfter new outside state item Exists = IsSoundLogged new outside state
  IsAfter new outside state item Device = IsFaulted new outside state item
  IsAfter new outside state item Memory = IsSoundLogged new outside state
  IsAfter new outside state item (Full counter) = IsSoundLogged new outside state

  -- What a command leaves of every sound state that has what it needs. A refusal changes nothing, and the log is
  -- touched only where the command is done or the device fails.
  pub record HasCommandEffect (old new : LoggedMemory J means counts) (item : LogRecord) (Needs : EngineState → Type 0)
      (answer : Answer)
      : Type 0 where
    pub step : (outside : Outside) (state : EngineState) → IsSoundLogged old outside state → Needs state
        → IsAfter new outside state item answer
    pub moments : (outside : Outside) (state : EngineState) → IsSoundLogged old outside state → Needs state
        → LeavesStates old new outside state item
    pub refused : IsRefusal answer → new ≡ old
    pub memory : answer ≡ Memory → IsLogKept old new
    pub room : framed_room old ≤ framed_room new
    pub slot : KeepsToSlot (log_of old) (log_of new)
    pub cause : answer ≡ Device → Rose (faults_of (log_of old)) (faults_of (log_of new))
    pub later : faults_of (log_of old) ≤ faults_of (log_of new)

  -- memory was taken, and nothing else has changed
  pub record IsPrepared (old new : LoggedMemory J means counts) : Type 0 where
    pub log : IsLogKept old new
    pub record_room : framed_room old ≤ framed_room new
    pub room : ChangesRoom (memory_of old) (memory_of new)
    pub same : (state : StoreState) → IsMemoryOf (memory_of old) state → IsMemoryOf (memory_of new) state
