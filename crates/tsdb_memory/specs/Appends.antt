-- What the append of a record leaves of a log.
use Rattle.std.specs.Prelude.{◌≡◌, ◌<◌, ◌⊎◌, [], ◌∷◌, ◌++◌, List, length, map, None, Option, Some, OnErr, OnOk, Result}
use Rattle.std.specs.Option.{option_map}
use Rattle.std.specs.declared.result.Result.TheVariants.{Ok, Err}
use Rattle.tsdb_frames.specs.Calls.{KeepsToSlot}
use Rattle.tsdb_frames.specs.Frames.{disk_of, faults_of, slot_of}
use Rattle.tsdb_frames.specs.Log.{HasRecordsOrOneMore}
use Rattle.tsdb_frames.specs.Slots.{frame_bytes}
use Rattle.tsdb_log.specs.Spelling.{IsRecord, spelling}
use Rattle.tsdb_log.specs.declared.record.LogRecord.{LogRecord}
use Rattle.tsdb_memory.specs.LogState.{HasLog, log_of, framed_room}
use Rattle.tsdb_memory.specs.declared.logged_memory.LoggedMemory.{LoggedMemory}
use Rattle.tsdb_outside.specs.Causes.{HasCause}
use Rattle.tsdb_outside.specs.Disk.{Image, in_slot}
use Rattle.tsdb_outside.specs.Moments.{LeavesFirstThen}
use Rattle.tsdb_outside.specs.declared.disk.Disk as disk
use Rattle.tsdb_outside.specs.declared.faults.Counted as counted
use Rattle.tsdb_outside.specs.declared.faults.Failed.{Failed}
use Rattle.tsdb_outside.specs.declared.faults.StoreFault.{StoreFault}
use Rattle.tsdb_outside.specs.declared.faults.StoreFault.TheVariants as store

module _ {J : Type 0} {means : disk.Ghosts J} {counts : counted.Ghosts J} where
  -- what the slot of the log has of these records and one more, if there is one
  abbrev pub HasItems : LoggedMemory J means counts → List LogRecord → Option LogRecord → Image → Type 0
  HasItems logged items doubt image = HasRecordsOrOneMore (map spelling items) (option_map spelling doubt)
      (in_slot (slot_of (log_of logged)) image)

  -- the log is as it was, and so is what is known of a record in doubt
  pub record IsLogKept (old new : LoggedMemory J means counts) : Type 0 where
    pub log : log_of new ≡ log_of old
    pub doubted : new.doubted ≡ old.doubted

  -- The record is behind the others, and none is in doubt; or it is not, and none is in doubt, or the one that was, or
  -- this one. At each moment a stop leaves the acknowledged ones, or these and one more.
  pub record IsAppended (old new : LoggedMemory J means counts) (item : LogRecord) (outcome : Result (Unit {0}) Failed)
      : Type 0 where
    pub added : OnOk outcome ((items : List LogRecord) (doubt : Option LogRecord) → HasLog old items doubt
        → HasLog new (items ++ item ∷ []) None)
    pub failed : OnErr outcome ((items : List LogRecord) (doubt : Option LogRecord) → HasLog old items doubt
        → HasLog new items None ⊎ (HasLog new items doubt ⊎ HasLog new items (Some item)))
    pub moments : (items : List LogRecord) (doubt : Option LogRecord) → HasLog old items doubt
        → LeavesFirstThen (disk_of (log_of old)) (disk_of (log_of new)) (HasItems old items doubt)
        (HasItems old items (Some item))
    pub slot : KeepsToSlot (log_of old) (log_of new)
    pub cause : HasCause (faults_of (log_of old)) (faults_of (log_of new)) outcome

  -- the append of the record failed; or memory ended before it, which needs that there was no room for its bytes
  abbrev pub HasStopped : LoggedMemory J means counts → LoggedMemory J means counts → LogRecord → StoreFault → Type 0
  HasStopped old new item store.Failed = IsRecord item × IsAppended old new item (Err record {})
  HasStopped old new item store.Memory = IsLogKept old new × (framed_room old < length (frame_bytes (spelling item)))

  -- the record was appended, or not
  abbrev pub HasEnded : {T : Type 0} → LoggedMemory J means counts → LoggedMemory J means counts → LogRecord
      → Result T StoreFault → Type 0
  HasEnded old new item (Ok back) = IsRecord item × IsAppended old new item (Ok tt)
  HasEnded old new item (Err fault) = HasStopped old new item fault
