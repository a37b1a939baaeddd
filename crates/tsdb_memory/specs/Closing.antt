-- What a log leaves that is closed.
use Rattle.std.specs.Prelude.{◌≡◌, ◌⊎◌, ℕ, ◌≤◌, List, map, Option, None}
use Rattle.tsdb_frames.specs.Calls.{LeavesAside}
use Rattle.tsdb_frames.specs.Frames.{disk_of, faults_of, slot_of}
use Rattle.tsdb_frames.specs.Slots.{HasRecords}
use Rattle.tsdb_state.specs.StoredEngine.{LeadsTo, LeavesOneOf}
use Rattle.tsdb_log.specs.Spelling.{spelling}
use Rattle.tsdb_log.specs.declared.record.LogRecord.{LogRecord}
use Rattle.tsdb_memory.specs.LogState.{IsSoundLogged, Outside, log_of}
use Rattle.tsdb_memory.specs.declared.logged_memory.LoggedMemory.{LoggedMemory}
use Rattle.tsdb_model.specs.State as plain
use Rattle.tsdb_base.specs.Causes.{Rose}
use Rattle.tsdb_outside.specs.Disk.{Image, DiskState, in_slot}
use Rattle.tsdb_outside.specs.Moments.{LeavesOnly}
use Rattle.tsdb_outside.specs.declared.disk.Disk as disk
use Rattle.tsdb_outside.specs.declared.disk.Slot.{Slot}
use Rattle.tsdb_outside.specs.declared.faults.Counted as counted
use Rattle.tsdb_state.specs.Stores as store
use Rattle.tsdb_state.specs.State.{EngineState}

-- whatever a stop leaves, the slot has exactly these records
abbrev pub LeavesRecords : Slot → DiskState → List LogRecord → Type 0
LeavesRecords slot disk items =
    (image : Image) → disk.may_leave image → HasRecords (map spelling items) (in_slot slot image)

module _ {J : Type 0} {means : disk.Ghosts J} {counts : counted.Ghosts J} where
  -- A stop at any moment of the closing leaves the state, or that of the record in doubt. Unless the journal
  -- failed, it leaves a sound store, and exactly the acknowledged records; where no record is in doubt it leaves these
  -- even so. The slot aside is left alone.
  pub record IsClosed (logged : LoggedMemory J means counts) (disk : DiskState) (faults : ℕ) : Type 0 where
    pub moments : (outside : Outside) (state : EngineState) (at : plain.State) (next : Option plain.State)
        → IsSoundLogged logged outside state → store.IsStateOf outside.told state.store at
        → LeadsTo outside.told state.store state.doubt next
        → LeavesOnly (disk_of (log_of logged)) disk
        (LeavesOneOf outside.kept (slot_of (log_of logged)) at next)
    pub sound : ¬ Rose (faults_of (log_of logged)) faults → (outside : Outside) (state : EngineState) (at : plain.State)
        (files : store.BytesByNumber) → IsSoundLogged logged outside state → store.IsStateOf outside.told state.store at
        → store.HoldsKept outside.kept files → store.IsSound (slot_of (log_of logged)) disk files at
    pub undoubted : (outside : Outside) (state : EngineState) (at : plain.State) (files : store.BytesByNumber)
        → state.doubt ≡ None → IsSoundLogged logged outside state → store.IsStateOf outside.told state.store at
        → store.HoldsKept outside.kept files → store.IsSound (slot_of (log_of logged)) disk files at
    pub records : (outside : Outside) (state : EngineState) → IsSoundLogged logged outside state
        → (¬ Rose (faults_of (log_of logged)) faults) ⊎ (state.doubt ≡ None)
        → LeavesRecords (slot_of (log_of logged)) disk outside.items
    pub aside : LeavesAside (log_of logged) disk
    pub later : faults_of (log_of logged) ≤ faults
