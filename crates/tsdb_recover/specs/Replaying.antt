-- The replay of the frames of a log. No public clause speaks of these.
use Rattle.std.specs.Prelude.{◌≡◌, ℕ, List, [], map, IfSome}
use Rattle.std.specs.List.{All}
use Rattle.tsdb_frames.specs.Readers.{IsReading, IsWholeRead}
use Rattle.tsdb_frames.specs.Slots.{payloads_of}
use Rattle.tsdb_frames.specs.declared.fault.ScanFault.{ScanFault}
use Rattle.tsdb_frames.specs.declared.fault.ScanFault.TheVariants as scan
use Rattle.tsdb_frames.specs.declared.reader.FrameReader.{FrameReader}
use Rattle.tsdb_frames.specs.declared.record.Frame.{Frame}
use Rattle.tsdb_log.specs.Spelling.{IsRecord, spelling}
use Rattle.tsdb_log.specs.declared.record.LogRecord.{LogRecord}
use Rattle.tsdb_redo.specs.Opening.{IsOpeningOf}
use Rattle.tsdb_redo.specs.Redone.{IsReplayed, IsWithoutReplay}
use Rattle.tsdb_redo.specs.declared.opening.Opening.{Opening}
use Rattle.tsdb_outside.specs.declared.disk.Disk as disk
use Rattle.tsdb_outside.specs.declared.disk.Slot.TheVariants.{A}
use Rattle.tsdb_outside.specs.declared.faults.Counted as counted
use Rattle.tsdb_recover.specs.declared.fault.OpenFault.{OpenFault}
use Rattle.tsdb_recover.specs.declared.fault.OpenFault.TheVariants as fault
use Rattle.tsdb_recover.specs.declared.fault.Part.TheVariants.{Log}
use Rattle.tsdb_state.specs.Damage.{IsDamaged}
use Rattle.tsdb_state.specs.Replays.{Replays}
use Rattle.tsdb_state.specs.Stores.{Recorded, store_steps}

-- the records of frames lead to this state
pub record AreReplayedTo (frames : List Frame) (recorded : Recorded) : Type 0 where
  pub items : List LogRecord
  pub good : All IsRecord items
  pub payloads : payloads_of frames ≡ map spelling items
  pub replayed : Replays store_steps store_steps.new_store items recorded

-- the records of frames lead to a state that the opening shows
pub record IsReadFrom (frames : List Frame) (opening : Opening) : Type 0 where
  pub recorded : Recorded
  pub replayed : AreReplayedTo frames recorded
  pub shown : IsOpeningOf opening recorded

-- the bytes of a frame are a record, and it was replayed
pub record IsFrameRedone (old new : Opening) (frame : Frame) : Type 0 where
  pub item : LogRecord
  pub good : IsRecord item
  pub bytes : frame.payload ≡ spelling item
  pub redone : IsReplayed old new item

-- the bytes of a frame are those of no record that has a replay in a state that is shown
abbrev pub IsFrameRefused : Opening → Frame → Type 0
IsFrameRefused opening frame = (item : LogRecord) → IsRecord item → frame.payload ≡ spelling item
    → IsWithoutReplay opening item

-- the fault of a log that could not be read on
abbrev pub of_scan : ScanFault → OpenFault
of_scan scan.Failed = fault.Failed
of_scan (scan.Torn at) = fault.Damaged Log at
of_scan scan.Memory = fault.Memory

module _ {J : Type 0} {means : disk.Ghosts J} {counts : counted.Ghosts J} where
  -- Of slot A these frames are read, and their records lead to a state that the opening shows.
  pub record IsReplaying (journal : J) (reader : FrameReader J means counts) (opening : Opening) : Type 0 where
    pub frames : List Frame
    pub reading : IsReading journal A reader frames
    pub read : IsReadFrom frames opening

  -- these frames are all that slot A has
  pub record HasReplayed (journal : J) (reader : FrameReader J means counts) (opening : Opening) : Type 0 where
    pub frames : List Frame
    pub whole : IsWholeRead journal A reader frames
    pub read : IsReadFrom frames opening

  -- of the journal's slot A no frame is read
  abbrev pub IsUnreadLog : J → FrameReader J means counts → Type 0
  IsUnreadLog journal reader = IsReading journal A reader []

  -- where the records of the frames that were read have a replay, the log is damaged at this place
  abbrev pub IsPartRefused : FrameReader J means counts → ℕ → Type 0
  IsPartRefused old at = (journal : J) (frames : List Frame) (opening : Opening) → IsReading journal A old frames
      → IsReadFrom frames opening → IfSome (means.state journal).seen (λ image. IsDamaged store_steps at image.a)

  -- the log is damaged at this place
  abbrev pub IsDamagedLog : FrameReader J means counts → ℕ → Type 0
  IsDamagedLog old at = (journal : J) → IsUnreadLog journal old
      → IfSome (means.state journal).seen (λ image. IsDamaged store_steps at image.a)
