-- What `Frames` stands for: the log in a slot of its journal.
use Rattle.std.specs.Prelude.{◌≡◌, ℕ, Bool, ◌||◌, List, is_some, IsSome}
use Rattle.std.specs.declared.option.Option.{Option}
use Rattle.tsdb_outside.specs.Disk.{DiskState}
use Rattle.tsdb_outside.specs.declared.disk.Disk as disk
use Rattle.tsdb_outside.specs.Moments.{other}
use Rattle.tsdb_outside.specs.declared.disk.Slot.{Slot}
use Rattle.tsdb_outside.specs.declared.faults.Counted as counted
use Rattle.tsdb_frames.specs.declared.frames.Frames.{Frames}
use Rattle.tsdb_frames.specs.Asides.{IsAsideOn, is_doubted, records_settled}
use Rattle.tsdb_frames.specs.Log.{IsLogOn, first_bytes}

module _ {J : Type 0} {means : disk.Ghosts J} {counts : counted.Ghosts J} where
  -- the journal under a log
  abbrev pub journal_of : Frames J means counts → J
  journal_of log = log.journal

  -- what its disk means
  abbrev pub disk_of : Frames J means counts → DiskState
  disk_of log = means.state log.journal

  -- how often its journal has failed
  abbrev pub faults_of : Frames J means counts → ℕ
  faults_of log = counts.faults log.journal

  -- the slot that a log is in
  abbrev pub slot_of : Frames J means counts → Slot
  slot_of log = log.slot

  -- whether the gate at byte 0 of the slot aside is in doubt
  abbrev pub is_aside_in_doubt : Frames J means counts → Bool
  is_aside_in_doubt log = is_doubted log.aside

  -- whether a gate of the log is in doubt, in either slot
  abbrev pub is_in_doubt : Frames J means counts → Bool
  is_in_doubt log = log.doubt || is_doubted log.aside

  -- The log has acknowledged these records, and this one is in doubt.
  pub record IsLog (log : Frames J means counts) (acknowledged : List (List ℕ))
      (in_doubt : Option (List ℕ)) : Type 0 where
    pub stands : IsLogOn (means.state log.journal) log.slot log.gate acknowledged in_doubt
    pub doubt : log.doubt ≡ is_some in_doubt
    pub first : log.first ≡ first_bytes acknowledged

  -- The slot aside has these records, or no record while its byte 0 is closed; its records may not be known.
  pub record IsAside (log : Frames J means counts) (records : Option (List (List ℕ))) : Type 0 where
    pub told : IsSome (means.state log.journal).seen
    pub stands : IsAsideOn (means.state log.journal) (other log.slot) log.aside records

  -- the records of the slot aside once its byte 0 is not in doubt
  abbrev pub settled_aside : Frames J means counts → Option (List (List ℕ)) → Option (List (List ℕ))
  settled_aside log records = records_settled log.aside records
