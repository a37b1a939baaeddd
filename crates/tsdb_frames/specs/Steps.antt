-- What private calls cite: how far a slot has been read, and what one write leaves.
use Rattle.std.specs.Prelude.{◌≡◌, ℕ, List, [], length}
use Rattle.std.specs.List.{All}
use Rattle.tsdb_outside.specs.Disk.{Image, DiskState, in_slot, overwrite, TornIn, WhereTold}
use Rattle.tsdb_outside.specs.Moments.{LeavesOnly}
use Rattle.tsdb_outside.specs.declared.disk.Slot.{Slot}
use Rattle.tsdb_frames.specs.declared.record.Frame.{Frame}
use Rattle.tsdb_frames.specs.declared.reading.Start.{Start}
use Rattle.tsdb_frames.specs.declared.reading.Start.TheVariants.{Shut, Whole, Broken}
use Rattle.tsdb_frames.specs.Firsts.{HasFirst}
use Rattle.tsdb_frames.specs.Slots.{HasRecords, IsPayload, IsTorn, open_records, payloads_of, ArePlaced}

-- these are records with their places, and this is the place behind them
pub record HasFrames (frames : List Frame) (at : ℕ) : Type 0 where
  pub fit : All IsPayload (payloads_of frames)
  pub place : at ≡ length (open_records (payloads_of frames))
  pub places : ArePlaced frames

-- how bytes begin: with a closed gate, with a whole record, or with an open gate that has none
abbrev pub BeginsAs : Start → List ℕ → Type 0
BeginsAs Shut bytes = HasRecords [] bytes
BeginsAs (Whole frame) bytes = HasFirst frame bytes
BeginsAs Broken bytes = IsTorn 0 bytes

-- what the disk might leave of this slot
pub record IsAsIn (slot : Slot) (disk : DiskState) (image : Image) : Type 0 where
  pub before : Image
  pub left : disk.may_leave before
  pub same : in_slot slot image ≡ in_slot slot before

-- A call leaves this slot alone: reads of it give what they gave, and at each moment a stop leaves there what it might
-- have left before.
pub record LeavesSlot (slot : Slot) (old new : DiskState) : Type 0 where
  pub seen : WhereTold (λ before after. in_slot slot after ≡ in_slot slot before) old.seen new.seen
  pub moments : LeavesOnly old new (IsAsIn slot old)

-- what the disk might leave, after a write of n bytes to one slot that is cut short
pub record IsTornFrom (slot : Slot) (at n : ℕ) (disk : DiskState) (image : Image) : Type 0 where
  pub before : Image
  pub left : disk.may_leave before
  pub torn : TornIn slot at n before image

-- what the disk might leave, with these bytes over those of one slot
pub record IsWrittenFrom (slot : Slot) (at : ℕ) (bytes : List ℕ) (disk : DiskState) (image : Image) : Type 0 where
  pub before : Image
  pub left : disk.may_leave before
  pub written : in_slot slot image ≡ overwrite at bytes (in_slot slot before)
