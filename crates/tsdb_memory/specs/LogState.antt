-- Which state of the engine a log with its memory stands for, and what a call that appends a record leaves.
use Rattle.std.specs.Prelude.{◌≡◌, ℕ, ◌⊎◌, [], ◌∷◌, ◌++◌, List, map, IfSome, Option, Some}
use Rattle.std.specs.Vec.{vec_capacity}
use Rattle.std.specs.Option.{option_map}
use Rattle.tsdb_base.specs.declared.ids.FileNumber.{FileNumber}
use Rattle.tsdb_frames.specs.Frames.{IsLog, disk_of, slot_of}
use Rattle.tsdb_frames.specs.declared.frames.Frames.{Frames}
use Rattle.tsdb_state.specs.StoredEngine.{IsStored, LeadsTo, LeavesOneOf}
use Rattle.tsdb_base.specs.Lists.{if_some}
use Rattle.tsdb_log.specs.Spelling.{spelling}
use Rattle.tsdb_log.specs.declared.record.LogRecord.{LogRecord}
use Rattle.tsdb_memory.specs.declared.logged_memory.LoggedMemory.{LoggedMemory}
use Rattle.tsdb_model.specs.State as plain
use Rattle.tsdb_memory.specs.StateOfMemory.{IsMemoryOf}
use Rattle.tsdb_memory.specs.Store.{MemoryState}
use Rattle.tsdb_outside.specs.Files.{StoredFile}
use Rattle.tsdb_outside.specs.Moments.{LeavesOnly}
use Rattle.tsdb_outside.specs.declared.disk.Disk as disk
use Rattle.tsdb_outside.specs.declared.faults.Counted as counted
use Rattle.tsdb_state.specs.Stores.{IsStateOf}
use Rattle.tsdb_state.specs.Records.{names}
use Rattle.tsdb_state.specs.State.{EngineState, KnownFiles, ToldContents}
use Rattle.tsdb_state.specs.Steps.{failed, settled}

-- what an engine has outside of its memory: the acknowledged records of its log, and the files that are kept, with what
-- they tell and what is known of them
pub record Outside : Type 0 where
  pub items : List LogRecord
  pub kept : List StoredFile
  pub told : ToldContents
  pub known : KnownFiles

-- one more record is acknowledged
abbrev pub with_record : LogRecord → Outside → Outside
with_record item outside = record outside { items = outside.items ++ item ∷ [] }

-- the engine is stored
abbrev pub IsStoredIn : Outside → EngineState → Type 0
IsStoredIn outside state = IsStored outside.items outside.kept outside.told outside.known state

-- the numbers of at most two files
abbrev pub two_numbers : Option FileNumber × Option FileNumber → List ℕ
two_numbers files = map (λ (file : FileNumber). file.0) (if_some files.0 ++ if_some files.1)

module _ {J : Type 0} {means : disk.Ghosts J} {counts : counted.Ghosts J} where
  -- the log
  abbrev pub log_of : LoggedMemory J means counts → Frames J means counts
  log_of logged = logged.frames

  -- what is in memory
  abbrev pub memory_of : LoggedMemory J means counts → MemoryState
  memory_of logged = logged.memory

  -- how many bytes of a record have room
  abbrev pub framed_room : LoggedMemory J means counts → ℕ
  framed_room logged = vec_capacity logged.framed

  -- The log has these acknowledged records, with this one in doubt; and it is known which files that one names.
  pub record HasLog (logged : LoggedMemory J means counts) (items : List LogRecord)
      (doubt : Option LogRecord) : Type 0 where
    pub log : IsLog (log_of logged) (map spelling items) (option_map spelling doubt)
    pub named : IfSome doubt (λ item. two_numbers logged.doubted ≡ names item)

  -- The log has the acknowledged records with the one in doubt, memory has its part of the state, and the state is
  -- stored.
  pub record IsSoundLogged (logged : LoggedMemory J means counts) (outside : Outside)
      (state : EngineState) : Type 0 where
    pub memory : IsMemoryOf (memory_of logged) state.store
    pub log : HasLog logged outside.items state.doubt
    pub stored : IsStoredIn outside state

  -- The append of a record failed: none is in doubt, or the one that was, or this one.
  abbrev pub IsFaulted : LoggedMemory J means counts → Outside → EngineState → LogRecord → Type 0
  IsFaulted logged outside state item = IsSoundLogged logged outside (settled state)
      ⊎ (IsSoundLogged logged outside state ⊎ IsSoundLogged logged outside (failed item state))

  -- A stop at any moment of the call leaves the state, or that of the record that was in doubt, or that of the record
  -- of the call.
  abbrev pub LeavesStates : LoggedMemory J means counts → LoggedMemory J means counts → Outside → EngineState
      → LogRecord → Type 0
  LeavesStates old new outside state item = (at after : plain.State) (next : Option plain.State)
      → IsStateOf outside.told state.store at → LeadsTo outside.told state.store state.doubt next
      → LeadsTo outside.told state.store (Some item) (Some after)
      → LeavesOnly (disk_of (log_of old)) (disk_of (log_of new))
      (λ image. LeavesOneOf outside.kept (slot_of (log_of old)) at next image
      ⊎ LeavesOneOf outside.kept (slot_of (log_of old)) at (Some after) image)
