-- What calls keep of a log, of its own slot and of the slot aside.
use Rattle.std.specs.Prelude.{◌≡◌, ◌⊎◌, ℕ, false, List, [], None, IsSome, Result, OnErr, OnOk}
use Rattle.std.specs.declared.option.Option.{Option}
use Rattle.tsdb_outside.specs.declared.disk.Disk as disk
use Rattle.tsdb_outside.specs.Disk.{DiskState, in_slot}
use Rattle.tsdb_outside.specs.Moments.{IsUntouched, LeavesOnly, other}
use Rattle.tsdb_outside.specs.declared.faults.Counted as counted
use Rattle.tsdb_frames.specs.declared.aside.Aside.TheVariants.{Closed}
use Rattle.tsdb_frames.specs.declared.frames.Frames.{Frames}
use Rattle.tsdb_outside.specs.declared.faults.Failed.{Failed}
use Rattle.tsdb_frames.specs.Asides.{HasRecordsOrNone, LeftInSlot}
use Rattle.tsdb_frames.specs.Frames.{disk_of, slot_of, is_aside_in_doubt, settled_aside, IsAside, IsLog}
use Rattle.tsdb_frames.specs.Slots.{HasRecords}
use Rattle.tsdb_frames.specs.Steps.{LeavesSlot}

module _ {J : Type 0} {means : disk.Ghosts J} {counts : counted.Ghosts J} where
  -- a call leaves the slot of a log alone, and what is known of it
  pub record KeepsLog (old new : Frames J means counts) : Type 0 where
    pub slot : slot_of new ≡ slot_of old
    pub gate : new.gate ≡ old.gate
    pub doubt : new.doubt ≡ old.doubt
    pub first : new.first ≡ old.first
    pub leaves : LeavesSlot (slot_of old) (disk_of old) (disk_of new)

  -- a call leaves the slot aside alone, and what is known of it
  pub record KeepsAside (old new : Frames J means counts) : Type 0 where
    pub slot : slot_of new ≡ slot_of old
    pub aside : new.aside ≡ old.aside
    pub leaves : LeavesSlot (other (slot_of old)) (disk_of old) (disk_of new)

  -- where no gate of the slot aside is in doubt, a stop at any moment leaves that slot as it might have left it before
  abbrev pub LeavesAside : Frames J means counts → DiskState → Type 0
  LeavesAside log disk = is_aside_in_doubt log ≡ false
      → LeavesOnly (disk_of log) disk (IsUntouched (slot_of log) (disk_of log))

  -- A call keeps to the slot of a log: the log stays in it, and the slot aside is left alone, with no gate in doubt
  -- where none was.
  pub record KeepsToSlot (old new : Frames J means counts) : Type 0 where
    pub same : slot_of new ≡ slot_of old
    pub aside : LeavesAside old (disk_of new)
    pub no_doubt : is_aside_in_doubt old ≡ false → is_aside_in_doubt new ≡ false

  -- A call leaves the records of the slot aside, but for a gate in doubt there, which it closes: at each moment the slot
  -- has the records that it had, or none; behind the call it has what it has once the doubt is closed, or is as before.
  pub record SettlesAside (old new : Frames J means counts) (outcome : Result (Unit {0}) Failed) : Type 0 where
    pub settled : OnOk outcome ((records : Option (List (List ℕ))) → IsAside old records
        → IsAside new (settled_aside old records))
    pub failed : OnErr outcome ((records : Option (List (List ℕ))) → IsAside old records
        → IsAside new records ⊎ IsAside new (settled_aside old records))
    pub moments : (records : Option (List (List ℕ))) → IsAside old records → LeavesOnly (disk_of old) (disk_of new)
        (λ image. HasRecordsOrNone records (in_slot (other (slot_of old)) image))

  -- byte 0 of the slot aside is known to be closed
  pub record IsAsideClosed (log : Frames J means counts) : Type 0 where
    pub told : IsSome (disk_of log).seen
    pub state : log.aside ≡ Closed
    pub closed : LeftInSlot (disk_of log) (other (slot_of log)) (HasRecords [])

  -- a call lengthens the slot of a log in which no gate is in doubt, and leaves its records
  pub record Lengthens (old new : Frames J means counts) : Type 0 where
    pub log : (acknowledged : List (List ℕ)) → IsLog old acknowledged None → IsLog new acknowledged None
    pub doubt : new.doubt ≡ old.doubt
    pub moments : (acknowledged : List (List ℕ)) → IsLog old acknowledged None
        → LeavesOnly (disk_of old) (disk_of new) (λ image. HasRecords acknowledged (in_slot (slot_of old) image))
    pub aside : KeepsAside old new
