-- What calls that leave a slot alone keep of it, and what a closing of byte 0 does to the slot aside.
use Rattle.std.proofs.Common.{◌≡◌, ◌≢◌, inl, inr, ⊎_elim, ℕ, ◌≤◌, List, [], ◌∷◌, ◌++◌, length, take, drop, take-append-drop, get_or, refl, sym, ◌∙◌, ap, subst, arith, None, Some}
use Rattle.std.proofs.lemmas.Bool.{cases_eq, false≢true, eqb-false, not-true}
use Rattle.std.proofs.lemmas.Bool.Decides.{eqb_tells}
use Rattle.std.specs.Prelude.{IfSome, IsSome, true, false, not, nat_eq}
use Rattle.std.specs.declared.option.Option.{Option}
use Rattle.std.specs.Option.{ForSome}
use Rattle.std.proofs.lemmas.List.Elements.{All-nil}
use Rattle.tsdb_outside.specs.Disk.{Image, DiskState, IsLawful, Keeps, Torn, TornIn, WhereTold, in_slot, overwrite}
use Rattle.tsdb_outside.specs.Moments.{LeavesFirstThen, LeavesOnly, IsUntouched, other}
use Rattle.tsdb_outside.specs.declared.disk.Slot.{Slot}
use Rattle.tsdb_outside.specs.declared.disk.Slot.TheVariants.{A, B}
use Rattle.tsdb_frames.specs.declared.aside.Aside.{Aside}
use Rattle.tsdb_frames.specs.declared.aside.Aside.TheVariants.{Settled, Closed, Unsettled, Doubted}
use Rattle.tsdb_frames.specs.Asides.{HasRecordsIfOpen, HasRecordsOrNone, IsAsideOn, LeftInSlot, records_settled}
use Rattle.tsdb_frames.specs.Log.{HasGateAt, IsLogOn, IsSettled, IsSlotOf}
use Rattle.tsdb_frames.specs.Slots.{IsPayload, HasRecords, frame_bytes}
use Rattle.tsdb_frames.specs.Steps.{IsAsIn, IsTornFrom, IsWrittenFrom, LeavesSlot}
use Rattle.tsdb_frames.proofs.MomentLemmas.{weaker, leaves_on}
use Rattle.tsdb_frames.proofs.SlotLemmas.{record_counts, torn_gate}

pub other_other : (slot : Slot) → other (other slot) ≡ slot
other_other A = refl
other_other B = refl

-- a disk that tells goes on to tell
pub tells_on : (slot : Slot) (old new : DiskState) → LeavesSlot slot old new → IsSome old.seen → IsSome new.seen
tells_on slot old new leaves told = by_cases old.seen new.seen leaves.seen told
  where
    by_cases : (before after : Option Image) → WhereTold (λ b a. in_slot slot a ≡ in_slot slot b) before after → IsSome before → IsSome after
    by_cases None after same told = absurd (false≢true told)
    by_cases (Some image) None same told = absurd same
    by_cases (Some image) (Some now) same told = refl

-- a write to one slot leaves the other alone
torn_as_in : (slot : Slot) (at n : ℕ) (disk : DiskState) (image : Image) → IsTornFrom slot at n disk image → IsAsIn (other slot) disk image
torn_as_in A at n disk image from = record { before = from.before; left = from.left; same = ap (λ (i : Image). i.b) from.torn.elsewhere }
torn_as_in B at n disk image from = record { before = from.before; left = from.left; same = ap (λ (i : Image). i.a) from.torn.elsewhere }

torn_same : (slot : Slot) (at n : ℕ) (before after : Image) → TornIn slot at n before after → in_slot (other slot) after ≡ in_slot (other slot) before
torn_same A at n before after torn = ap (λ (i : Image). i.b) torn.elsewhere
torn_same B at n before after torn = ap (λ (i : Image). i.a) torn.elsewhere

torn_seen : (slot : Slot) (at n : ℕ) (before after : Option Image) → WhereTold (TornIn slot at n) before after
    → WhereTold (λ b a. in_slot (other slot) a ≡ in_slot (other slot) b) before after
torn_seen slot at n None after torn = torn
torn_seen slot at n (Some before) None torn = torn
torn_seen slot at n (Some before) (Some after) torn = torn_same slot at n before after torn

pub write_leaves : (slot : Slot) (at n : ℕ) (old new : DiskState) → WhereTold (TornIn slot at n) old.seen new.seen
    → LeavesOnly old new (IsTornFrom slot at n old) → LeavesSlot (other slot) old new
write_leaves slot at n old new torn leaves = record {
  seen = torn_seen slot at n old.seen new.seen torn;
  moments = weaker old new (IsTornFrom slot at n old) (IsAsIn (other slot) old) (torn_as_in slot at n old) leaves;
}

-- a write to the slot aside leaves this one alone
pub aside_write_leaves : (slot : Slot) (at n : ℕ) (old new : DiskState) → WhereTold (TornIn (other slot) at n) old.seen new.seen
    → LeavesOnly old new (IsTornFrom (other slot) at n old) → LeavesSlot slot old new
aside_write_leaves slot at n old new torn leaves =
    subst (λ (s : Slot). LeavesSlot s old new) (other_other slot) (write_leaves (other slot) at n old new torn leaves)

pub leaves_untouched : (slot : Slot) (old new : DiskState) → LeavesSlot (other slot) old new → LeavesOnly old new (IsUntouched slot old)
leaves_untouched slot old new leaves =
    weaker old new (IsAsIn (other slot) old) (IsUntouched slot old)
    (λ image from. record { before = from.before; left = from.left; same = from.same }) leaves.moments

seen_on : (slot : Slot) (first mid last : Option Image) → WhereTold (λ b a. in_slot slot a ≡ in_slot slot b) first mid
    → WhereTold (λ b a. in_slot slot a ≡ in_slot slot b) mid last → WhereTold (λ b a. in_slot slot a ≡ in_slot slot b) first last
seen_on slot None mid last one two = by_none mid one two
  where
    by_none : (mid : Option Image) → mid ≡ None → WhereTold (λ b a. in_slot slot a ≡ in_slot slot b) mid last → last ≡ None
    by_none None is two = two
    by_none (Some image) is two = absurd cc
seen_on slot (Some image) None last one two = absurd one
seen_on slot (Some image) (Some now) None one two = two
seen_on slot (Some image) (Some now) (Some end) one two = two ∙ one

-- one call and then another
pub leaves_slot_on : (slot : Slot) (old mid new : DiskState) → IsLawful mid → IsLawful new → LeavesSlot slot old mid → LeavesSlot slot mid new
    → LeavesSlot slot old new
leaves_slot_on slot old mid new mid_laws laws first second = record {
  seen = seen_on slot old.seen mid.seen new.seen first.seen second.seen;
  moments = leaves_on old mid new laws (IsAsIn slot old) first.moments
      (weaker mid new (IsAsIn slot mid) (IsAsIn slot old) (λ image from. earlier image from) second.moments);
}
  where
    earlier : (image : Image) → IsAsIn slot mid image → IsAsIn slot old image
    earlier image from =
        let from_first = first.moments.each from.before (mid_laws.counts_now old.moment from.before first.moments.passes.later from.left) in
        record { before = from_first.before; left = from_first.left; same = from.same ∙ from_first.same }

same_seen : (slot : Slot) (seen : Option Image) → WhereTold (λ b a. in_slot slot a ≡ in_slot slot b) seen seen
same_seen slot None = refl
same_seen slot (Some image) = refl

-- no call, and a call that writes nothing
pub idle_leaves : (slot : Slot) (disk : DiskState) → IsLawful disk → LeavesSlot slot disk disk
idle_leaves slot disk laws = record {
  seen = same_seen slot disk.seen;
  moments = record {
    passes = record { later = omega arith; nothing_else = λ t image le left. inl left; keeps = λ t image le left. left };
    each = λ image left. record { before = image; left = laws.only_now image left; same = refl };
  };
}

pub keeps_leaves : (slot : Slot) (old new : DiskState) → IsLawful old → IsLawful new → Keeps old new → LeavesSlot slot old new
keeps_leaves slot old new old_laws laws keeps = record {
  seen = subst (λ (o : Option Image). WhereTold (λ b a. in_slot slot a ≡ in_slot slot b) old.seen o) (sym keeps.seen) (same_seen slot old.seen);
  moments = record {
    passes = record {
      later = keeps.time.later;
      nothing_else = λ t image le left. ⊎_elim (λ earlier. inl earlier) (λ now. inr (laws.counts_now old.moment image keeps.time.later now))
          (keeps.time.nothing_else t image le left);
      keeps = keeps.time.keeps;
    };
    each = λ image left. ⊎_elim
        (λ earlier. record { before = image; left = old_laws.only_now image earlier; same = refl })
        (λ now. record { before = image; left = keeps.crash image now; same = refl })
        (keeps.time.nothing_else old.moment image (omega arith) left);
  };
}

module _ (slot : Slot) (old new : DiskState) (laws : IsLawful new) (leaves : LeavesSlot slot old new) where
  as_in_now : (image : Image) → new.may_leave image → IsAsIn slot old image
  as_in_now image left = leaves.moments.each image (laws.counts_now old.moment image leaves.moments.passes.later left)

  -- what a stop leaves in a slot that was left alone, behind the call and at each moment of it
  pub left_on : (P : List ℕ → Type 0) → LeftInSlot old slot P → LeftInSlot new slot P
  left_on P has image left =
      let from = as_in_now image left in
      subst P (sym from.same) (has from.before from.left)

  pub left_moments : (P : List ℕ → Type 0) → LeftInSlot old slot P → LeavesOnly old new (λ image. P (in_slot slot image))
  left_moments P has =
      weaker old new (IsAsIn slot old) (λ image. P (in_slot slot image))
      (λ image from. subst P (sym from.same) (has from.before from.left)) leaves.moments

  pub log_on : (gate : ℕ) (acknowledged : List (List ℕ)) (in_doubt : Option (List ℕ)) → IsLogOn old slot gate acknowledged in_doubt
      → IsLogOn new slot gate acknowledged in_doubt
  log_on gate acknowledged in_doubt log = record {
    told = tells_on slot old new leaves log.told;
    place = log.place;
    left = left_on (λ bytes. IsSlotOf acknowledged in_doubt bytes) log.left;
  }

  settled_on : (before after : Option Image) → old.seen ≡ before → new.seen ≡ after
      → WhereTold (λ b a. in_slot slot a ≡ in_slot slot b) before after → IsSettled slot old → IsSettled slot new
  settled_on None after was is same settled payloads seen image told has left = absurd cc
  settled_on (Some before) None was is same settled payloads seen image told has left = absurd same
  settled_on (Some before) (Some after) was is same settled payloads seen image told has left =
      let now : after ≡ seen = cc in
      let from = as_in_now image left in
      let there : HasRecords payloads (in_slot slot before) =
      subst (λ (l : List ℕ). HasRecords payloads l) (ap (λ (i : Image). in_slot slot i) (sym now) ∙ same) has in
      subst (λ (l : List ℕ). HasRecords payloads l) (sym from.same) (settled payloads before from.before was there from.left)

  pub aside_on : (aside : Aside) (records : Option (List (List ℕ))) → IsAsideOn old slot aside records → IsAsideOn new slot aside records
  aside_on Settled None stands = settled_on old.seen new.seen refl refl leaves.seen stands
  aside_on Settled (Some payloads) stands = left_on (HasRecords payloads) stands
  aside_on Closed None stands = left_on (HasRecords []) stands
  aside_on Closed (Some payloads) stands = (left_on (HasRecords []) stands.0, stands.1)
  aside_on Unsettled None stands = tt
  aside_on Unsettled (Some payloads) stands = left_on (HasRecordsIfOpen payloads) stands
  aside_on Doubted None stands = tt
  aside_on Doubted (Some payloads) stands = left_on (HasRecordsIfOpen payloads) stands

-- a closed first byte has no records behind it
pub closed_first : (gate : ℕ) (rest bytes : List ℕ) → gate ≢ 1 → bytes ≡ gate ∷ rest → HasRecords [] bytes
closed_first gate rest bytes closed is = record { fit = All-nil IsPayload; gate = gate; rest = rest; split = is; closed = closed }

pub if_open_or_none : (payloads : List (List ℕ)) (bytes : List ℕ) → HasRecordsIfOpen payloads bytes → HasRecordsOrNone (Some payloads) bytes
if_open_or_none payloads bytes has = elim (cases_eq has.gate 1) [
  | inl is_open ↦ inl (subst (λ (l : List ℕ). HasRecords payloads l)
      (ap (λ (g : ℕ). g ∷ has.rest) (sym is_open) ∙ sym has.split) has.records)
  | inr shut ↦ inr (closed_first has.gate has.rest bytes shut has.split)
]

-- what a stop leaves of the slot aside
pub left_or_none : (disk : DiskState) (slot : Slot) (aside : Aside) (records : Option (List (List ℕ))) → IsAsideOn disk slot aside records
    → LeftInSlot disk slot (HasRecordsOrNone records)
left_or_none disk slot Settled None stands image left = tt
left_or_none disk slot Settled (Some payloads) stands image left = inl (stands image left)
left_or_none disk slot Closed None stands image left = tt
left_or_none disk slot Closed (Some payloads) stands image left = inr (stands.0 image left)
left_or_none disk slot Unsettled None stands image left = tt
left_or_none disk slot Unsettled (Some payloads) stands image left = if_open_or_none payloads (in_slot slot image) (stands image left)
left_or_none disk slot Doubted None stands image left = tt
left_or_none disk slot Doubted (Some payloads) stands image left = if_open_or_none payloads (in_slot slot image) (stands image left)

-- once a doubt is closed there are the records from before, or none
pub settled_or_none : (aside : Aside) (records : Option (List (List ℕ))) (bytes : List ℕ) → HasRecordsOrNone (records_settled aside records) bytes
    → HasRecordsOrNone records bytes
settled_or_none Settled records bytes has = has
settled_or_none Closed records bytes has = has
settled_or_none Unsettled records bytes has = has
settled_or_none Doubted None bytes has = tt
settled_or_none Doubted (Some payloads) bytes has = inr (⊎_elim (λ h. h) (λ h. h) has)

-- A closing of byte 0.
torn_first : (payloads : List (List ℕ)) (old new : List ℕ) → HasRecordsIfOpen payloads old → Torn 0 1 old new → HasRecordsIfOpen payloads new
torn_first payloads old new has torn = record {
  gate = get_or new 0 0;
  rest = has.rest;
  split = torn_gate [] has.gate has.rest 0 refl old new has.split torn;
  records = has.records;
}

written_first : (old new : List ℕ) → new ≡ overwrite 0 (0 ∷ []) old → HasRecords [] new
written_first old new is = closed_first 0 (drop 1 old) new (omega arith) is

module _ (slot : Slot) (old new : DiskState) where
  pub closing_fails : (records : Option (List (List ℕ))) → ((image : Image) → new.may_leave image → IsTornFrom slot 0 1 old image)
      → IsAsideOn old slot Unsettled records → IsAsideOn new slot Unsettled records
  closing_fails None torn stands = tt
  closing_fails (Some payloads) torn stands = λ image left.
      let from = torn image left in
      torn_first payloads (in_slot slot from.before) (in_slot slot image) (stands from.before from.left) from.torn.here

  pub closing_moments : (records : Option (List (List ℕ))) → LeavesOnly old new (IsTornFrom slot 0 1 old)
      → IsAsideOn old slot Unsettled records → LeavesOnly old new (λ image. HasRecordsOrNone records (in_slot slot image))
  closing_moments None leaves stands = weaker old new (IsTornFrom slot 0 1 old) (λ image. Unit {0}) (λ image from. tt) leaves
  closing_moments (Some payloads) leaves stands =
      weaker old new (IsTornFrom slot 0 1 old) (λ image. HasRecordsOrNone (Some payloads) (in_slot slot image))
      (λ image from. if_open_or_none payloads (in_slot slot image)
      (torn_first payloads (in_slot slot from.before) (in_slot slot image) (stands from.before from.left) from.torn.here)) leaves

  pub closing_closes : IsSome old.seen
      → (IsSome old.seen → (image : Image) → new.may_leave image → IsWrittenFrom slot 0 (0 ∷ []) old image) → LeftInSlot new slot (HasRecords [])
  closing_closes told written image left =
      let from = written told image left in
      written_first (in_slot slot from.before) (in_slot slot image) from.written

-- a doubt at byte 0 is not settled
pub doubted_is_unsettled : (disk : DiskState) (slot : Slot) (aside : Aside) (records : Option (List (List ℕ))) → aside ≡ Doubted
    → IsAsideOn disk slot aside records → IsAsideOn disk slot Unsettled records
doubted_is_unsettled disk slot Doubted None is stands = tt
doubted_is_unsettled disk slot Doubted (Some payloads) is stands = stands
doubted_is_unsettled disk slot Settled records is stands = absurd cc
doubted_is_unsettled disk slot Closed records is stands = absurd cc
doubted_is_unsettled disk slot Unsettled records is stands = absurd cc

pub unsettled_is_doubted : (disk : DiskState) (slot : Slot) (aside : Aside) (records : Option (List (List ℕ))) → aside ≡ Doubted
    → IsAsideOn disk slot Unsettled records → IsAsideOn disk slot aside records
unsettled_is_doubted disk slot Doubted None is stands = tt
unsettled_is_doubted disk slot Doubted (Some payloads) is stands = stands
unsettled_is_doubted disk slot Settled records is stands = absurd cc
unsettled_is_doubted disk slot Closed records is stands = absurd cc
unsettled_is_doubted disk slot Unsettled records is stands = absurd cc

-- Reading byte 0.
first_of_records : (payloads : List (List ℕ)) (bytes : List ℕ) (byte : ℕ) → HasRecords payloads bytes → take 1 bytes ≡ byte ∷ [] → byte ≢ 1
    → payloads ≡ []
first_of_records [] bytes byte has first shut = refl
first_of_records (p ∷ ps) bytes byte has first shut =
    let same : take 1 bytes ≡ 1 ∷ [] = ap (λ (l : List ℕ). take 1 l) has.split in
    absurd (shut cc)

records_if_open : (payloads : List (List ℕ)) (bytes seen : List ℕ) → HasRecords payloads bytes → HasRecords payloads seen
    → take 1 seen ≡ 1 ∷ [] → HasRecordsIfOpen payloads bytes
records_if_open [] bytes seen has there first =
    let same : take 1 seen ≡ there.gate ∷ [] = ap (λ (l : List ℕ). take 1 l) there.split in
    absurd (there.closed cc)
records_if_open (p ∷ ps) bytes seen has there first =
    record {
      gate = 1;
      rest = drop 1 bytes;
      split = has.split ∙ ap (λ (l : List ℕ). 1 ∷ l) (sym (ap (λ (l : List ℕ). drop 1 l) has.split));
      records = subst (λ (l : List ℕ). HasRecords (p ∷ ps) l)
          (has.split ∙ ap (λ (l : List ℕ). 1 ∷ l) (sym (ap (λ (l : List ℕ). drop 1 l) has.split))) has;
    }

-- a byte that is 1, and one that is not
pub shut_byte : (byte : ℕ) → not (nat_eq byte 1) ≡ true → byte ≢ 1
shut_byte byte closed same = eqb-false byte 1 (not-true (nat_eq byte 1) closed) same

pub open_byte : (byte : ℕ) → not (nat_eq byte 1) ≡ false → byte ≡ 1
open_byte byte closed = elim (eqb_tells byte 1) [
  | inl tells ↦ tells.1
  | inr tells ↦ absurd (false≢true (sym closed ∙ ap not tells.0))
]

module _ (slot : Slot) (disk : DiskState) (laws : IsLawful disk) (aside : Aside) (byte : ℕ) (is : aside ≡ Settled) where
  closed_in_all : (records : Option (List (List ℕ))) (seen : Image) → disk.seen ≡ Some seen → byte ≢ 1 → take 1 (in_slot slot seen) ≡ byte ∷ []
      → IsAsideOn disk slot Settled records → LeftInSlot disk slot (HasRecords [])
  closed_in_all None seen told shut first stands image left =
      let whole : in_slot slot seen ≡ byte ∷ drop 1 (in_slot slot seen) =
      sym (take-append-drop 1 (in_slot slot seen)) ∙ ap (λ (l : List ℕ). l ++ drop 1 (in_slot slot seen)) first in
      stands [] seen image told (closed_first byte (drop 1 (in_slot slot seen)) (in_slot slot seen) shut whole) left
  closed_in_all (Some payloads) seen told shut first stands image left =
      let none = first_of_records payloads (in_slot slot seen) byte (stands seen (laws.seen_may_stay seen told)) first shut in
      subst (λ (l : List (List ℕ)). HasRecords l (in_slot slot image)) none (stands image left)

  open_in_all : (records : Option (List (List ℕ))) (seen : Image) → disk.seen ≡ Some seen → byte ≡ 1 → take 1 (in_slot slot seen) ≡ byte ∷ []
      → IsAsideOn disk slot Settled records → IsAsideOn disk slot Unsettled records
  open_in_all None seen told is_open first stands = tt
  open_in_all (Some payloads) seen told is_open first stands = λ image left.
      records_if_open payloads (in_slot slot image) (in_slot slot seen) (stands image left) (stands seen (laws.seen_may_stay seen told))
      (first ∙ ap (λ (b : ℕ). b ∷ []) is_open)

  -- what byte 0 says where the disk tells it
  pub closed_seen : (seen : Option Image) → disk.seen ≡ seen → IfSome seen (λ image. take 1 (in_slot slot image) ≡ byte ∷ []) → IsSome seen → byte ≢ 1
      → (records : Option (List (List ℕ))) → IsAsideOn disk slot aside records → LeftInSlot disk slot (HasRecords [])
  closed_seen None told first some shut records stands = absurd (false≢true some)
  closed_seen (Some seen) told first some shut records stands =
      closed_in_all records seen told shut first (subst (λ (a : Aside). IsAsideOn disk slot a records) is stands)

  pub open_seen : (seen : Option Image) → disk.seen ≡ seen → IfSome seen (λ image. take 1 (in_slot slot image) ≡ byte ∷ []) → IsSome seen → byte ≡ 1
      → (records : Option (List (List ℕ))) → IsAsideOn disk slot aside records → IsAsideOn disk slot Unsettled records
  open_seen None told first some is_open records stands = absurd (false≢true some)
  open_seen (Some seen) told first some is_open records stands =
      open_in_all records seen told is_open first (subst (λ (a : Aside). IsAsideOn disk slot a records) is stands)

-- A call leaves this slot alone that writes to the other.
pub write_at_other : (slot place : Slot) (at n : ℕ) (old new : DiskState) → place ≡ other slot → WhereTold (TornIn place at n) old.seen new.seen
    → LeavesOnly old new (IsTornFrom place at n old) → LeavesSlot slot old new
write_at_other slot place at n old new is =
    subst (λ (p : Slot). WhereTold (TornIn p at n) old.seen new.seen → LeavesOnly old new (IsTornFrom p at n old) → LeavesSlot slot old new)
    (sym is) (aside_write_leaves slot at n old new)

-- its gate stays in it
pub inside_on : (slot : Slot) (gate end : ℕ) (old new : DiskState) → LeavesSlot slot old new → HasGateAt old slot gate end → HasGateAt new slot gate end
inside_on slot gate end old new leaves within = record {
  inside = within.inside;
  long = longer old.seen new.seen leaves.seen within.long;
  limit = within.limit;
}
  where
    longer : (before after : Option Image) → WhereTold (λ b a. in_slot slot a ≡ in_slot slot b) before after
        → ForSome before (λ image. end ≤ length (in_slot slot image)) → ForSome after (λ image. end ≤ length (in_slot slot image))
    longer None after same long image is = absurd cc
    longer (Some before) None same long image is = absurd same
    longer (Some before) (Some after) same long image is =
        let now : after ≡ image = cc in
        subst (λ (i : Image). end ≤ length (in_slot slot i)) now
        (omega (arith, long before refl, ap (λ (l : List ℕ). length l) same))

-- A closing and a beginning of the slot aside, which the code calls by this name.
module _ (old new : DiskState) (slot place : Slot) (is : place ≡ other slot) where
  pub closing_fails_at : (records : Option (List (List ℕ))) → ((image : Image) → new.may_leave image → IsTornFrom place 0 1 old image)
      → IsAsideOn old (other slot) Unsettled records → IsAsideOn new (other slot) Unsettled records
  closing_fails_at records =
      subst (λ (p : Slot). ((image : Image) → new.may_leave image → IsTornFrom place 0 1 old image)
      → IsAsideOn old p Unsettled records → IsAsideOn new p Unsettled records) is (closing_fails place old new records)

  pub closing_moments_at : (records : Option (List (List ℕ))) → LeavesOnly old new (IsTornFrom place 0 1 old)
      → IsAsideOn old (other slot) Unsettled records → LeavesOnly old new (λ image. HasRecordsOrNone records (in_slot (other slot) image))
  closing_moments_at records =
      subst (λ (p : Slot). LeavesOnly old new (IsTornFrom place 0 1 old)
      → IsAsideOn old p Unsettled records → LeavesOnly old new (λ image. HasRecordsOrNone records (in_slot p image))) is
      (closing_moments place old new records)

  pub closing_closes_at : IsSome old.seen
      → (IsSome old.seen → (image : Image) → new.may_leave image → IsWrittenFrom place 0 (0 ∷ []) old image)
      → LeftInSlot new (other slot) (HasRecords [])
  closing_closes_at told written = subst (λ (p : Slot). LeftInSlot new p (HasRecords [])) is (closing_closes place old new told written)

-- A beginning of the log in the slot aside, which the code calls by this name.
module _ (slot place : Slot) (is : place ≡ other slot) where
  pub empty_at : (disk : DiskState) → IsSome disk.seen → LeftInSlot disk (other slot) (HasRecords []) → IsLogOn disk place 0 [] None
  empty_at disk told closed = record { told = told; place = refl; left = subst (λ (p : Slot). LeftInSlot disk p (HasRecords [])) (sym is) closed }

  pub log_at : (disk : DiskState) (gate : ℕ) (acknowledged : List (List ℕ)) (in_doubt : Option (List ℕ)) → IsLogOn disk place gate acknowledged in_doubt
      → IsLogOn disk (other slot) gate acknowledged in_doubt
  log_at disk gate acknowledged in_doubt = subst (λ (p : Slot). IsLogOn disk place gate acknowledged in_doubt → IsLogOn disk p gate acknowledged in_doubt)
      is (λ log. log)

  pub first_then_at : (old new : DiskState) (P Q : List ℕ → Type 0) → LeavesFirstThen old new (λ image. P (in_slot place image)) (λ image. Q (in_slot place image))
      → LeavesFirstThen old new (λ image. P (in_slot (other slot) image)) (λ image. Q (in_slot (other slot) image))
  first_then_at old new P Q = subst (λ (p : Slot). LeavesFirstThen old new (λ image. P (in_slot place image)) (λ image. Q (in_slot place image))
      → LeavesFirstThen old new (λ image. P (in_slot p image)) (λ image. Q (in_slot p image))) is (λ leaves. leaves)

  pub leaves_at : (old new : DiskState) → LeavesSlot (other place) old new → LeavesSlot slot old new
  leaves_at old new = subst (λ (p : Slot). LeavesSlot (other place) old new → LeavesSlot p old new) (ap other is ∙ other_other slot) (λ leaves. leaves)

-- a record behind a byte 0 in doubt
pub doubted_on : (disk : DiskState) (slot : Slot) (payload : List ℕ) → IsLogOn disk slot 0 [] (Some payload)
    → LeftInSlot disk slot (HasRecordsIfOpen (payload ∷ []))
doubted_on disk slot payload log image left =
    let behind = log.left image left in
    record {
      gate = behind.gate;
      rest = frame_bytes payload ++ behind.rest;
      split = behind.split;
      records = record_counts [] payload (1 ∷ (frame_bytes payload ++ behind.rest)) behind.rest (All-nil IsPayload) behind.fits refl;
    }

-- A look at the slot aside, which the code calls by this name.
module _ (old new : DiskState) (slot place : Slot) (is : place ≡ other slot) (old_laws : IsLawful old) (laws : IsLawful new) (keeps : Keeps old new) where
  pub looked_on : (aside : Aside) (records : Option (List (List ℕ))) → IsAsideOn old (other slot) aside records → IsAsideOn new (other slot) aside records
  looked_on = aside_on (other slot) old new laws (keeps_leaves (other slot) old new old_laws laws keeps)

  pub looked_moments : (aside : Aside) (records : Option (List (List ℕ))) → IsAsideOn old (other slot) aside records
      → LeavesOnly old new (λ image. HasRecordsOrNone records (in_slot (other slot) image))
  looked_moments aside records stands =
      left_moments (other slot) old new laws (keeps_leaves (other slot) old new old_laws laws keeps) (HasRecordsOrNone records)
      (left_or_none old (other slot) aside records stands)

  pub looked_closed : (aside : Aside) (records : Option (List (List ℕ))) → (IsAsideOn old place aside records → LeftInSlot new place (HasRecords []))
      → IsAsideOn old (other slot) aside records → LeftInSlot new (other slot) (HasRecords [])
  looked_closed aside records = subst (λ (p : Slot). (IsAsideOn old place aside records → LeftInSlot new place (HasRecords []))
      → IsAsideOn old p aside records → LeftInSlot new p (HasRecords [])) is (λ closed. closed)

  pub looked_open : (aside : Aside) (records : Option (List (List ℕ))) → (IsAsideOn old place aside records → IsAsideOn new place Unsettled records)
      → IsAsideOn old (other slot) aside records → IsAsideOn new (other slot) Unsettled records
  looked_open aside records = subst (λ (p : Slot). (IsAsideOn old place aside records → IsAsideOn new place Unsettled records)
      → IsAsideOn old p aside records → IsAsideOn new p Unsettled records) is (λ same. same)

-- What a scan knows of the slot aside.
module _ (slot : Slot) (old new : DiskState) (old_laws : IsLawful old) (laws : IsLawful new) (keeps : Keeps old new) (settled : IsSettled slot old) where
  told_now : (seen : Image) → old.seen ≡ Some seen → IsSome new.seen
  told_now seen is = subst (λ (o : Option Image). IsSome o) (sym (keeps.seen ∙ is)) refl

  pub scanned : (seen : Option Image) → old.seen ≡ seen → (Q : Type 0) → (IsSome new.seen → IsSettled slot new → Q) → IfSome seen (λ image. Q)
  scanned None is Q then = tt
  scanned (Some image) is Q then = then (told_now image is)
      (aside_on slot old new laws (keeps_leaves slot old new old_laws laws keeps) Settled None settled)

  pub records_scanned : (seen : Option Image) → old.seen ≡ seen → (Q : List (List ℕ) → Type 0)
      → ((payloads : List (List ℕ)) → IsSome new.seen → LeftInSlot new slot (HasRecords payloads) → Q payloads)
      → IfSome seen (λ image. (payloads : List (List ℕ)) → HasRecords payloads (in_slot slot image) → Q payloads)
  records_scanned None is Q then = tt
  records_scanned (Some image) is Q then = λ payloads has. then payloads (told_now image is)
      (left_on slot old new laws (keeps_leaves slot old new old_laws laws keeps) (HasRecords payloads)
      (λ other_image left. settled payloads image other_image is has left))
