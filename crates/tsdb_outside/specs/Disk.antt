-- What a disk means: two slots of bytes under one clock. The rules stand at the head of src/disk.rt.
use Rattle.std.specs.Prelude.{◌≡◌, ◌⊎◌, ℕ, ◌+◌, ◌≤◌, max, List, ◌++◌, length, take, drop, None, Some}
use Rattle.std.specs.declared.option.Option.{Option}
use Rattle.tsdb_outside.specs.declared.disk.Slot.{Slot}
use Rattle.tsdb_outside.specs.declared.disk.Slot.TheVariants.{A, B}

-- the bytes of both slots
pub record Image : Type 0 where
  pub a : List ℕ
  pub b : List ℕ

-- the bytes of one slot
abbrev pub in_slot : Slot → Image → List ℕ
in_slot A image = image.a
in_slot B image = image.b

-- the image with other bytes in one slot
abbrev pub with_slot : Slot → List ℕ → Image → Image
with_slot A bytes image = record { a = bytes; b = image.b }
with_slot B bytes image = record { a = image.a; b = bytes }

-- What a disk means at one moment.
pub record DiskState : Type 1 where
  -- what reads of both slots give, or none where it does not tell
  pub seen : Option Image
  -- what a stop at this moment may leave
  pub may_leave : Image → Type 0
  -- the moment, as a number that never falls
  pub moment : ℕ
  -- what a stop at some moment from that one on may have left, during a call or between two
  pub left_since : ℕ → Image → Type 0

-- a disk that tells nothing: a stop may leave anything
abbrev pub silent_state : DiskState
silent_state = record { seen = None; may_leave = λ _. Unit {0}; moment = 0; left_since = λ _ _. Unit {0} }

-- The laws of a disk.
pub record IsLawful (disk : DiskState) : Type 0 where
  -- a stop may leave what reads give
  pub seen_may_stay : (image : Image) → disk.seen ≡ Some image → disk.may_leave image
  -- a stop at this moment is one since an earlier one
  pub counts_now : (t : ℕ) (image : Image) → t ≤ disk.moment → disk.may_leave image → disk.left_since t image
  -- since this moment there is no other
  pub only_now : (image : Image) → disk.left_since disk.moment image → disk.may_leave image
  -- what a stop since a moment may have left, one since an earlier moment may have left too
  pub since_earlier : (t u : ℕ) (image : Image) → t ≤ u → disk.left_since u image → disk.left_since t image

-- the old bytes with these over them from that place on, and past their end
abbrev pub overwrite : ℕ → List ℕ → List ℕ → List ℕ
overwrite at bytes old = take at old ++ bytes ++ drop (at + length bytes) old

-- one slot is written over, and the other stays
abbrev pub Overwrites : Slot → ℕ → List ℕ → Image → Image → Type 0
Overwrites slot at bytes old new = new ≡ with_slot slot (overwrite at bytes (in_slot slot old)) old

-- after a write of n bytes that a stop cuts short: any bytes in the range and past the old end, the same elsewhere
pub record Torn (at n : ℕ) (old new : List ℕ) : Type 0 where
  pub before : take at new ≡ take at old
  pub after : drop (at + n) new ≡ drop (at + n) old
  pub no_shorter : length old ≤ length new
  pub no_longer : length new ≤ max (length old) (at + n)

-- a write to one slot that a stop cuts short leaves the other slot as it was
pub record TornIn (slot : Slot) (at n : ℕ) (old new : Image) : Type 0 where
  pub here : Torn at n (in_slot slot old) (in_slot slot new)
  pub elsewhere : new ≡ with_slot slot (in_slot slot new) old

-- a relation of two contents where they are told; a disk that tells nothing goes on to tell nothing
abbrev pub WhereTold : {X : Type 0} → (X → X → Type 0) → Option X → Option X → Type 0
WhereTold relation None new = new ≡ None
WhereTold relation (Some old) None = ⊥
WhereTold relation (Some old) (Some new) = relation old new

-- what a stop may leave after a step is what it might have left before it, after that step
abbrev pub FollowsStep : {X : Type 0} → (X → X → Type 0) → (X → Type 0) → (X → Type 0) → Type 0
FollowsStep {X} step old new = (image : X) → new image → (before : X) × old before × step before image

-- a stop leaves nothing that it could not have left before
abbrev pub NothingNew : {X : Type 0} → (X → Type 0) → (X → Type 0) → Type 0
NothingNew {X} old new = (image : X) → new image → old image

-- whatever a stop leaves has these bytes in this slot
abbrev pub Durable : Slot → List ℕ → (Image → Type 0) → Type 0
Durable slot bytes may_leave = (image : Image) → may_leave image → in_slot slot image ≡ bytes

-- Time goes on: what a stop since t may have left was left before, or it has P.
pub record Elapses (old new : DiskState) (P : Image → Type 0) : Type 0 where
  pub later : old.moment ≤ new.moment
  pub nothing_else : (t : ℕ) (image : Image) → t ≤ old.moment → new.left_since t image
      → old.left_since t image ⊎ P image
  pub keeps : (t : ℕ) (image : Image) → t ≤ old.moment → old.left_since t image → new.left_since t image

-- What a call that writes nothing leaves as it was. A stop in it leaves what it may leave behind the call, or before.
pub record Keeps (old new : DiskState) : Type 0 where
  pub seen : new.seen ≡ old.seen
  pub crash : NothingNew old.may_leave new.may_leave
  pub time : Elapses old new new.may_leave

-- What a write of n bytes may do, whether it succeeds or fails.
pub record MayWrite (slot : Slot) (at n : ℕ) (old new : DiskState) : Type 0 where
  pub torn : WhereTold (TornIn slot at n) old.seen new.seen
  pub crash : FollowsStep (TornIn slot at n) old.may_leave new.may_leave
  pub time : Elapses old new new.may_leave
