-- What a stop leaves at the moments of a call in three stretches.
use Rattle.std.specs.Prelude.{◌⊎◌, ℕ, ◌≤◌}
use Rattle.tsdb_outside.specs.Disk.{Image, DiskState, Elapses}
use Rattle.tsdb_outside.specs.Moments.{LeavesFirstThen}

-- Until one moment of the call a stop leaves what has P, from then until another what has Q, and from then on what has R.
pub record TurnsTwice (old new : DiskState) (P Q R : Image → Type 0) : Type 0 where
  pub passes : Elapses old new (new.left_since old.moment)
  pub turn : ℕ
  pub second : ℕ
  pub begins : old.moment ≤ turn
  pub goes_on : turn ≤ second
  pub ends : second ≤ new.moment
  pub until : (image : Image) → new.left_since old.moment image → P image ⊎ new.left_since turn image
  pub from_then : (image : Image) → new.left_since turn image → Q image ⊎ new.left_since second image
  pub at_last : (image : Image) → new.left_since second image → R image

-- the first stretch alone, the first two, or all three
abbrev pub LeavesInTurn : DiskState → DiskState → (Image → Type 0) → (Image → Type 0) → (Image → Type 0) → Type 0
LeavesInTurn old new P Q R = LeavesFirstThen old new P Q ⊎ TurnsTwice old new P Q R
