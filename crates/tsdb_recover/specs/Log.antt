-- What is known once a log is read and replayed.
use Rattle.std.specs.Prelude.{◌≡◌, ◌≤◌, false, List, map, None, IfSome}
use Rattle.std.specs.List.{All}
use Rattle.tsdb_frames.specs.Frames.{IsLog, disk_of, faults_of, is_in_doubt, slot_of}
use Rattle.tsdb_frames.specs.Log.{IsSettled}
use Rattle.tsdb_frames.specs.Slots.{HasRecords}
use Rattle.tsdb_frames.specs.declared.frames.Frames.{Frames}
use Rattle.tsdb_log.specs.Spelling.{IsRecord, spelling}
use Rattle.tsdb_log.specs.declared.record.LogRecord.{LogRecord}
use Rattle.tsdb_redo.specs.Opening.{IsOpeningOf}
use Rattle.tsdb_redo.specs.declared.opening.Opening.{Opening}
use Rattle.tsdb_outside.specs.Disk.{Keeps}
use Rattle.tsdb_outside.specs.declared.disk.Disk as disk
use Rattle.tsdb_outside.specs.declared.disk.Slot.TheVariants.{A}
use Rattle.tsdb_outside.specs.declared.faults.Counted as counted
use Rattle.tsdb_state.specs.Replays.{Replays}
use Rattle.tsdb_state.specs.Stores.{Recorded, store_steps}

module _ {J : Type 0} {means : disk.Ghosts J} {counts : counted.Ghosts J} where
  -- The log in slot A of a journal is read: it has these records, which lead to a state that the opening shows.
  pub record IsLogRead (journal : J) (log : Frames J means counts) (opening : Opening) : Type 0 where
    pub items : List LogRecord
    pub good : All IsRecord items
    pub recorded : Recorded
    pub replayed : Replays store_steps store_steps.new_store items recorded
    pub shown : IsOpeningOf opening recorded
    -- the slot has these records
    pub records : IfSome (means.state journal).seen (λ image. HasRecords (map spelling items) image.a)
    -- a log of a settled slot has acknowledged them, and no gate is in doubt
    pub acknowledged : IsSettled A (means.state journal)
        → IfSome (means.state journal).seen (λ image. IsLog log (map spelling items) None)
    pub no_doubt : is_in_doubt log ≡ false
    pub slot : slot_of log ≡ A
    -- nothing was written
    pub keeps : Keeps (means.state journal) (disk_of log)
    pub later : counts.faults journal ≤ faults_of log
