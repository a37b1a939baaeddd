-- What a disk may leave, and how its time goes on.
use Rattle.std.proofs.Common.{◌≡◌, ℕ, ◌+◌, ◌≤◌, max, List, length, refl, inl, arith}
use Rattle.std.proofs.lemmas.Grind.{common_steps}
use Rattle.tsdb_outside.specs.Disk.{Image, DiskState, Elapses, Keeps, MayWrite, silent_state, Torn, TornIn, overwrite}
use Rattle.tsdb_outside.specs.declared.disk.Slot.{Slot}
use Rattle.tsdb_outside.specs.declared.disk.Slot.TheVariants.{A, B}

-- no time goes by
pub Elapses-same : (state : DiskState) (P : Image → Type 0) → Elapses state state P
Elapses-same state P = record {
  later = omega arith;
  nothing_else = λ t image le left. inl left;
  keeps = λ t image le left. left;
}

-- nothing has changed
pub Keeps-same : (state : DiskState) → Keeps state state
Keeps-same state = record { seen = refl; crash = λ image left. left; time = Elapses-same state state.may_leave }

-- a write that is cut short may leave all as it was
pub Torn-same : (at n : ℕ) (old : List ℕ) → Torn at n old old
Torn-same at n old = record { before = refl; after = refl; no_shorter = omega arith; no_longer = omega arith }

pub TornIn-same : (slot : Slot) (at n : ℕ) (old : Image) → TornIn slot at n old old
TornIn-same A at n old = record { here = Torn-same at n old.a; elsewhere = refl }
TornIn-same B at n old = record { here = Torn-same at n old.b; elsewhere = refl }

-- a disk that tells nothing may be written
pub MayWrite-silent : (slot : Slot) (at n : ℕ) → MayWrite slot at n silent_state silent_state
MayWrite-silent slot at n = record {
  torn = refl;
  crash = λ image left. (image, tt, TornIn-same slot at n image);
  time = Elapses-same silent_state silent_state.may_leave;
}

-- a write that is cut short may leave all as written
pub Torn-overwrite : (at : ℕ) (bytes old : List ℕ) → at ≤ length old
    → Torn at (length bytes) old (overwrite at bytes old)
Torn-overwrite at bytes old within = record {
  before = grind (arith, common_steps);
  after = grind (arith, common_steps);
  no_shorter = grind (arith, common_steps);
  no_longer = grind (arith, common_steps);
}

pub length-overwrite : (at : ℕ) (bytes old : List ℕ) → at ≤ length old
    → length (overwrite at bytes old) ≡ max (length old) (at + length bytes)
length-overwrite at bytes old within = grind (arith, common_steps)
