-- A piece of a slot that was read.
use Rattle.std.specs.Prelude.{◌≡◌, ℕ, ◌+◌, ◌<◌, ◌≤◌, List, length, take, drop}
use Rattle.std.specs.Option.{ForSome}
use Rattle.tsdb_outside.specs.Disk.{DiskState, in_slot}
use Rattle.tsdb_outside.specs.Limits.{FitsSlot}
use Rattle.tsdb_outside.specs.declared.disk.Slot.{Slot}

-- The slot, which has so many bytes at least, has these bytes from the place on; and a gate stands at the place, where
-- it is not 0.
pub record HasPiece (disk : DiskState) (slot : Slot) (at end : ℕ) (left : List ℕ) : Type 0 where
  pub inside : at + length left ≤ end
  pub gate : 1 ≤ at → at < end
  pub long : ForSome disk.seen (λ image. end ≤ length (in_slot slot image))
  pub bytes : ForSome disk.seen (λ image. left ≡ take (length left) (drop at (in_slot slot image)))
  pub limit : FitsSlot end
