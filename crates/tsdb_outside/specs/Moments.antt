-- What a stop leaves at the moments of a call that is made of several calls of a disk.
use Rattle.std.specs.Prelude.{◌≡◌, ◌⊎◌, ℕ, ◌≤◌}
use Rattle.tsdb_outside.specs.Disk.{Image, DiskState, Elapses, in_slot}
use Rattle.tsdb_outside.specs.declared.disk.Slot.{Slot}
use Rattle.tsdb_outside.specs.declared.disk.Slot.TheVariants.{A, B}

-- At each moment of the call a stop leaves what has P.
pub record LeavesOnly (old new : DiskState) (P : Image → Type 0) : Type 0 where
  pub passes : Elapses old new (new.left_since old.moment)
  pub each : (image : Image) → new.left_since old.moment image → P image

-- Until some moment of the call a stop leaves what has P, and from then on what has Q.
pub record TurnsFrom (old new : DiskState) (P Q : Image → Type 0) : Type 0 where
  pub passes : Elapses old new (new.left_since old.moment)
  pub turn : ℕ
  pub begins : old.moment ≤ turn
  pub ends : turn ≤ new.moment
  pub until : (image : Image) → new.left_since old.moment image → P image ⊎ new.left_since turn image
  pub from_then : (image : Image) → new.left_since turn image → Q image

-- a stop leaves what has P, at each moment of the call or until some moment from which on it leaves what has Q
abbrev pub LeavesFirstThen : DiskState → DiskState → (Image → Type 0) → (Image → Type 0) → Type 0
LeavesFirstThen old new P Q = LeavesOnly old new P ⊎ TurnsFrom old new P Q

-- the slot that this one is not
abbrev pub other : Slot → Slot
other A = B
other B = A

-- what the disk might leave of the other slot
pub record IsUntouched (slot : Slot) (disk : DiskState) (image : Image) : Type 0 where
  pub before : Image
  pub left : disk.may_leave before
  pub same : in_slot (other slot) image ≡ in_slot (other slot) before
