-- What a reader of a slot has read.
use Rattle.std.specs.Prelude.{◌≡◌, ℕ, ◌-◌, ◌^◌, ◌<◌, ◌≤◌, List, [], ◌∷◌, ◌++◌, length, take, drop, IfSome}
use Rattle.tsdb_frames.specs.declared.reader.Next.{Next}
use Rattle.tsdb_frames.specs.declared.reader.Next.TheVariants.{End, Whole, Part}
use Rattle.tsdb_outside.specs.Disk.{Keeps, DiskState, in_slot}
use Rattle.tsdb_outside.specs.declared.disk.Disk as disk
use Rattle.tsdb_outside.specs.declared.disk.Slot.{Slot}
use Rattle.tsdb_outside.specs.declared.faults.Counted as counted
use Rattle.tsdb_frames.specs.Log.{first_bytes}
use Rattle.tsdb_frames.specs.Slots.{HasRecords, IsTorn, IsTornBehind, open_records, payloads_of}
use Rattle.tsdb_frames.specs.Steps.{HasFrames}
use Rattle.tsdb_frames.specs.declared.reader.FrameReader.{FrameReader}
use Rattle.tsdb_frames.specs.declared.record.Frame.{Frame}

module _ {J : Type 0} {means : disk.Ghosts J} {counts : counted.Ghosts J} where
  -- the journal under a reader
  abbrev pub read_journal : FrameReader J means counts → J
  read_journal reader = reader.journal

  -- what its disk means
  abbrev pub disk_read : FrameReader J means counts → DiskState
  disk_read reader = means.state reader.journal

  -- how often its journal has failed
  abbrev pub faults_read : FrameReader J means counts → ℕ
  faults_read reader = counts.faults reader.journal

  -- how many bytes a slot may have behind the frames that were read
  abbrev pub unread_of : FrameReader J means counts → ℕ
  unread_of reader = 2 ^ 63 - reader.at

  -- the bytes of the piece from the next gate on
  abbrev pub left_of : FrameReader J means counts → List ℕ
  left_of reader = drop reader.read reader.piece.items

  -- Of a slot of the journal these frames are read, which are its first, with their places. Nothing was written.
  pub record IsReading (journal : J) (place : Slot) (reader : FrameReader J means counts) (frames : List Frame) : Type 0 where
    pub front : HasFrames frames reader.at
    pub told : IfSome (means.state journal).seen (λ image. take reader.at (in_slot place image) ≡ open_records (payloads_of frames))
    pub first : reader.first ≡ first_bytes (payloads_of frames)
    pub slot : reader.slot ≡ place
    pub keeps : Keeps (means.state journal) (disk_read reader)
    pub later : counts.faults journal ≤ faults_read reader

  -- the slot has these frames, and no others
  pub record IsWholeRead (journal : J) (place : Slot) (reader : FrameReader J means counts) (frames : List Frame) : Type 0 where
    pub reading : IsReading journal place reader frames
    pub records : IfSome (means.state journal).seen (λ image. HasRecords (payloads_of frames) (in_slot place image))

  -- one frame more is read
  abbrev pub ReadsOne : FrameReader J means counts → FrameReader J means counts → Frame → Type 0
  ReadsOne old new frame = (journal : J) (place : Slot) (frames : List Frame) → IsReading journal place old frames
      → IsReading journal place new (frames ++ frame ∷ [])

  -- the frames that were read are all
  abbrev pub EndsReading : FrameReader J means counts → FrameReader J means counts → Type 0
  EndsReading old new = (journal : J) (place : Slot) (frames : List Frame) → IsReading journal place old frames
      → IsWholeRead journal place new frames

  -- the slot is torn behind the frames that were read
  abbrev pub IsTornReading : FrameReader J means counts → ℕ → Type 0
  IsTornReading old at = (journal : J) (place : Slot) (frames : List Frame) → IsReading journal place old frames
      → IfSome (means.state journal).seen (λ image. IsTornBehind (payloads_of frames) at (in_slot place image))

  -- the frames that were read are those that were read before
  abbrev pub StaysReading : FrameReader J means counts → FrameReader J means counts → Type 0
  StaysReading old new = (journal : J) (place : Slot) (frames : List Frame) → IsReading journal place old frames
      → IsReading journal place new frames

  -- all frames are read, where none was read before
  abbrev pub ReadsAll : FrameReader J means counts → FrameReader J means counts → List Frame → Type 0
  ReadsAll old new frames = (journal : J) (place : Slot) → IsReading journal place old [] → IsWholeRead journal place new frames

  -- the slot is torn at this place
  abbrev pub IsTornSlot : FrameReader J means counts → ℕ → Type 0
  IsTornSlot old at = (journal : J) (place : Slot) → IsReading journal place old []
      → IfSome (means.state journal).seen (λ image. IsTorn at (in_slot place image))

  -- nothing was written to the journal
  abbrev pub KeepsJournal : FrameReader J means counts → FrameReader J means counts → Type 0
  KeepsJournal old new = (journal : J) (place : Slot) → IsReading journal place old []
      → Keeps (means.state journal) (disk_read new)

  -- the next gate is there
  abbrev pub HasNextGate : FrameReader J means counts → Type 0
  HasNextGate reader = reader.at < reader.end

  -- the place of the next gate
  abbrev pub gate_of : FrameReader J means counts → ℕ
  gate_of reader = reader.at

  -- how many bytes more the piece may have from the next gate on
  abbrev pub unheld_of : FrameReader J means counts → ℕ
  unheld_of reader = 2 ^ 63 - length (left_of reader)

  -- the bytes of the piece behind the next gate and a length
  abbrev pub begun_of : FrameReader J means counts → List ℕ
  begun_of reader = drop 5 (left_of reader)

  -- the piece has an open gate and no whole frame behind it, or nothing
  abbrev pub IsTornPart : FrameReader J means counts → Type 0
  IsTornPart reader = IsTorn 0 (left_of reader)

  -- what stands behind the frames that were read: no frame, the next one, or none that is whole in the piece
  abbrev pub IsNext : Next → FrameReader J means counts → FrameReader J means counts → Type 0
  IsNext End old new = EndsReading old new × HasNextGate new
  IsNext (Whole frame) old new = ReadsOne old new frame × (unread_of new < unread_of old)
  IsNext Part old new = (new ≡ old) × IsTornPart new

  -- a call stays at the same gate, and writes nothing
  pub record StaysAt (old new : FrameReader J means counts) : Type 0 where
    pub slot : new.slot ≡ old.slot
    pub at : new.at ≡ old.at
    pub first : new.first ≡ old.first
    pub keeps : Keeps (disk_read old) (disk_read new)
    pub later : faults_read old ≤ faults_read new

  -- the slot has no more bytes than are left
  abbrev pub HasAllLeft : FrameReader J means counts → Type 0
  HasAllLeft reader = IfSome (disk_read reader).seen (λ image. drop reader.at (in_slot reader.slot image) ≡ left_of reader)
