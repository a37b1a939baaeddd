-- What a write and a sync of one slot leave of a disk: `old` is before them, `mid` between them, `new` behind them.
use Rattle.std.proofs.Common.{◌≡◌, ℕ, ◌+◌, ◌≤◌, List, length, refl, sym, ap, ◌∙◌, inl, inr, ⊎_elim, arith, subst}
use Rattle.std.proofs.lemmas.Bool.{false≢true}
use Rattle.std.specs.Prelude.{Result, Ok, Err, None, Some, IfSome, IsSome, OnOk}
use Rattle.std.specs.declared.option.Option.{Option}
use Rattle.std.specs.Option.{ForSome}
use Rattle.tsdb_base.specs.Causes.{Rose}
use Rattle.tsdb_outside.specs.Causes.{HasCause}
use Rattle.tsdb_outside.specs.Disk.{Image, DiskState, IsLawful, Durable, Elapses, Keeps, MayWrite, Overwrites, TornIn, WhereTold, in_slot, overwrite, with_slot}
use Rattle.tsdb_outside.specs.declared.disk.Slot.{Slot}
use Rattle.tsdb_outside.specs.declared.disk.Slot.TheVariants.{A, B}
use Rattle.tsdb_outside.specs.declared.faults.Failed.{Failed}
use Rattle.tsdb_outside.proofs.DiskLemmas.{TornIn-same, length-overwrite}
use Rattle.tsdb_outside.specs.Moments.{LeavesOnly}
use Rattle.tsdb_frames.specs.Steps.{IsTornFrom, IsWrittenFrom}
use Rattle.tsdb_frames.proofs.MomentLemmas.{leaves_on}

-- what holds in any case holds where a result is `Ok`
pub always_on_ok : {P : Type 0} (result : Result (Unit {0}) Failed) → P → OnOk result P
always_on_ok (Ok value) holds = holds
always_on_ok (Err error) holds = tt

passes_of : (old new : DiskState) → IsLawful new → Elapses old new new.may_leave → Elapses old new (new.left_since old.moment)
passes_of old new laws time = record {
  later = time.later;
  nothing_else = λ t image le left. ⊎_elim (λ earlier. inl earlier) (λ now. inr (laws.counts_now old.moment image time.later now))
      (time.nothing_else t image le left);
  keeps = time.keeps;
}

in_with : (slot : Slot) (bytes : List ℕ) (image : Image) → in_slot slot (with_slot slot bytes image) ≡ bytes
in_with A bytes image = refl
in_with B bytes image = refl

-- the write may be torn
module _ (slot : Slot) (at n : ℕ) (old mid : DiskState) (old_laws : IsLawful old) (mid_laws : IsLawful mid)
    (writes : MayWrite slot at n old mid) where
  pub torn_left : (image : Image) → mid.may_leave image → IsTornFrom slot at n old image
  torn_left image left =
      let from = writes.crash image left in
      record { before = from.0; left = from.1; torn = from.2 }

  pub torn_since : LeavesOnly old mid (IsTornFrom slot at n old)
  torn_since = record {
    passes = passes_of old mid mid_laws writes.time;
    each = λ image left. ⊎_elim
        (λ earlier. record { before = image; left = old_laws.only_now image earlier; torn = TornIn-same slot at n image })
        (λ now. torn_left image now) (writes.time.nothing_else old.moment image (omega arith) left);
  }

-- and it may be behind the sync
module _ (slot : Slot) (at n : ℕ) (old mid new : DiskState) (old_laws : IsLawful old) (mid_laws : IsLawful mid) (laws : IsLawful new)
    (writes : MayWrite slot at n old mid) (keeps : Keeps mid new) where
  pub still_torn : WhereTold (TornIn slot at n) old.seen new.seen
  still_torn = subst (λ (o : Option Image). WhereTold (TornIn slot at n) old.seen o) (sym keeps.seen) writes.torn

  pub still_torn_left : (image : Image) → new.may_leave image → IsTornFrom slot at n old image
  still_torn_left image left = torn_left slot at n old mid old_laws mid_laws writes image (keeps.crash image left)

  still_since : LeavesOnly mid new (IsTornFrom slot at n old)
  still_since = record {
    passes = passes_of mid new laws keeps.time;
    each = λ image left. ⊎_elim
        (λ earlier. torn_left slot at n old mid old_laws mid_laws writes image (mid_laws.only_now image earlier))
        (λ now. still_torn_left image now) (keeps.time.nothing_else mid.moment image (omega arith) left);
  }

  pub still_torn_since : LeavesOnly old new (IsTornFrom slot at n old)
  still_torn_since = leaves_on old mid new laws (IsTornFrom slot at n old) (torn_since slot at n old mid old_laws mid_laws writes) still_since

-- what a sync makes durable is what was written
written_from : (slot : Slot) (at : ℕ) (bytes : List ℕ) (old new : DiskState) → IsLawful old → (before after : Option Image) → old.seen ≡ before
    → WhereTold (Overwrites slot at bytes) before after → IfSome after (λ image. Durable slot (in_slot slot image) new.may_leave)
    → IsSome before → (image : Image) → new.may_leave image → IsWrittenFrom slot at bytes old image
written_from slot at bytes old new laws None after told is durable some image left = absurd (false≢true some)
written_from slot at bytes old new laws (Some before) None told is durable some image left = absurd is
written_from slot at bytes old new laws (Some before) (Some after) told is durable some image left = record {
  before = before;
  left = laws.seen_may_stay before told;
  written = durable image left ∙ ap (λ (i : Image). in_slot slot i) is ∙ in_with slot (overwrite at bytes (in_slot slot before)) before;
}

pub written_if_synced : (slot : Slot) (at : ℕ) (bytes : List ℕ) (old mid new : DiskState) (result : Result (Unit {0}) Failed) → IsLawful old
    → WhereTold (Overwrites slot at bytes) old.seen mid.seen
    → OnOk result (IfSome mid.seen (λ image. Durable slot (in_slot slot image) new.may_leave))
    → OnOk result (IsSome old.seen → (image : Image) → new.may_leave image → IsWrittenFrom slot at bytes old image)
written_if_synced slot at bytes old mid new (Ok value) laws is durable = written_from slot at bytes old new laws old.seen mid.seen refl is durable
written_if_synced slot at bytes old mid new (Err error) laws is durable = tt

-- the slot is as long as what was written needs
pub reaches : (slot : Slot) (at : ℕ) (bytes : List ℕ) (before after : Option Image) → WhereTold (Overwrites slot at bytes) before after
    → ForSome before (λ image. at ≤ length (in_slot slot image)) → ForSome after (λ image. at + length bytes ≤ length (in_slot slot image))
reaches slot at bytes None after is within = λ image told. absurd (none_is_none after image is told) where
  none_is_none : (after : Option Image) (image : Image) → after ≡ None → after ≡ Some image → ⊥
  none_is_none after image is told = grind (arith, is, told)
reaches slot at bytes (Some before) None is within = absurd is
reaches slot at bytes (Some before) (Some after) is within = λ image told.
    let same : after ≡ image = cc in
    let long : length (in_slot slot after) ≡ length (overwrite at bytes (in_slot slot before)) =
    ap (λ (i : Image). length (in_slot slot i)) is ∙ ap (λ (l : List ℕ). length l) (in_with slot (overwrite at bytes (in_slot slot before)) before) in
    subst (λ (i : Image). at + length bytes ≤ length (in_slot slot i)) same
    (omega (arith, long, length-overwrite at bytes (in_slot slot before) (within before refl)))

pub reaches_behind_sync : (slot : Slot) (at : ℕ) (bytes : List ℕ) (old mid new : DiskState) → Keeps mid new
    → WhereTold (Overwrites slot at bytes) old.seen mid.seen → ForSome old.seen (λ image. at ≤ length (in_slot slot image))
    → ForSome new.seen (λ image. at + length bytes ≤ length (in_slot slot image))
reaches_behind_sync slot at bytes old mid new keeps is within =
    subst (λ (o : Option Image). ForSome o (λ image. at + length bytes ≤ length (in_slot slot image))) (sym keeps.seen)
    (reaches slot at bytes old.seen mid.seen is within)

-- one call that may fail behind another
pub cause_of_second : (first mid last : ℕ) (result : Result (Unit {0}) Failed) → first ≤ mid → HasCause mid last result → HasCause first last result
cause_of_second first mid last (Ok value) later cause = record { later = omega (arith, later, cause.later); failed = tt }
cause_of_second first mid last (Err error) later cause = record { later = omega (arith, later, cause.later); failed = omega (arith, later, cause.failed) }

pub cause_of_fault : (first mid last : ℕ) (result : Result (Unit {0}) Failed) → first ≤ mid → mid ≤ last → Rose mid last → HasCause first last result
cause_of_fault first mid last (Ok value) later last_later rose = record { later = omega (arith, later, last_later); failed = tt }
cause_of_fault first mid last (Err error) later last_later rose = record {
  later = omega (arith, later, last_later);
  failed = omega (arith, later, rose);
}

-- a slot that was written is no shorter
pub end_stays : (slot : Slot) (end at n : ℕ) (old new : Option Image) → WhereTold (TornIn slot at n) old new
    → ForSome old (λ image. end ≤ length (in_slot slot image)) → ForSome new (λ image. end ≤ length (in_slot slot image))
end_stays slot end at n None new torn long image is = absurd cc
end_stays slot end at n (Some before) None torn long image is = absurd torn
end_stays slot end at n (Some before) (Some after) torn long image is =
    let same : after ≡ image = cc in
    subst (λ (i : Image). end ≤ length (in_slot slot i)) same (omega (arith, long before refl, torn.here.no_shorter))
