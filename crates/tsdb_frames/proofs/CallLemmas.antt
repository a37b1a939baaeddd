-- What private calls keep of a log, and of the slot aside.
use Rattle.std.proofs.Common.{◌≡◌, ◌≢◌, ◌⊎◌, inl, inr, ℕ, ◌+◌, ◌≤◌, List, [], arith, refl, sym, ◌∙◌, ap, subst, None, Some}
use Rattle.std.proofs.lemmas.Bool.{false≢true}
use Rattle.std.specs.Prelude.{IsOk, Result, Ok, Err, OnErr, OnOk, Bool, true, false, ◌||◌}
use Rattle.std.specs.declared.option.Option.{Option}
use Rattle.tsdb_outside.specs.declared.disk.Disk as disk
use Rattle.tsdb_outside.specs.Disk.{DiskState, IsLawful, MayWrite, in_slot}
use Rattle.tsdb_outside.specs.Moments.{IsUntouched, LeavesOnly, other}
use Rattle.tsdb_outside.specs.declared.disk.Slot.{Slot}
use Rattle.tsdb_outside.specs.declared.faults.Counted as counted
use Rattle.tsdb_outside.specs.declared.faults.Failed.{Failed}
use Rattle.tsdb_frames.specs.declared.frames.Frames.{Frames}
use Rattle.tsdb_frames.specs.declared.aside.Aside.{Aside}
use Rattle.tsdb_frames.specs.declared.aside.Aside.TheVariants.{Settled, Closed, Unsettled, Doubted}
use Rattle.tsdb_frames.specs.Asides.{HasRecordsOrNone, IsAsideOn, LeftInSlot, is_doubted, records_settled}
use Rattle.tsdb_frames.specs.Calls.{IsAsideClosed, KeepsAside, KeepsLog, KeepsToSlot, LeavesAside, Lengthens, SettlesAside}
use Rattle.tsdb_frames.specs.Frames.{IsAside, IsLog, disk_of, is_aside_in_doubt, settled_aside, slot_of}
use Rattle.tsdb_frames.specs.Log.{HasRecordsOrOneMore, IsLogOn}
use Rattle.tsdb_frames.specs.Slots.{HasRecords}
use Rattle.tsdb_frames.specs.Steps.{LeavesSlot}
use Rattle.tsdb_frames.proofs.AsideLemmas.{aside_on, doubted_is_unsettled, idle_leaves, leaves_slot_on, left_moments, left_on, left_or_none, leaves_untouched, log_on, other_other, settled_or_none, tells_on, unsettled_is_doubted, write_leaves}
use Rattle.tsdb_frames.proofs.LogLemmas.{always_on_err, grown_log, grown_moments}
use Rattle.tsdb_frames.proofs.MomentLemmas.{elsewhere_on, leaves_on, weaker}
use Rattle.tsdb_frames.proofs.SlotLemmas.{records_or_one_more}
use Rattle.tsdb_frames.proofs.StepLemmas.{always_on_ok, torn_left, torn_since}

-- from one fact of a result to another
pub on_ok : {T E P Q : Type 0} (result : Result T E) → (P → Q) → OnOk result P → OnOk result Q
on_ok (Ok value) step holds = step holds
on_ok (Err error) step holds = tt

pub on_err : {T E P Q : Type 0} (result : Result T E) → (P → Q) → OnErr result P → OnErr result Q
on_err (Ok value) step holds = tt
on_err (Err error) step holds = step holds

pub on_ok_both : {T E : Type 0} (result : Result T E) (P Q : Type 0) → OnOk result P → OnOk result Q → OnOk result (P × Q)
on_ok_both (Ok value) P Q one two = (one, two)
on_ok_both (Err error) P Q one two = tt

pub on_err_both : {T E : Type 0} (result : Result T E) (P Q : Type 0) → OnErr result P → OnErr result Q → OnErr result (P × Q)
on_err_both (Ok value) P Q one two = tt
on_err_both (Err error) P Q one two = (one, two)

pub err_is_not_ok : {T E : Type 0} (result : Result T E) (error : E) → result ≡ Err error → IsOk result → ⊥
err_is_not_ok (Ok value) error same ok = absurd cc
err_is_not_ok (Err other_error) error same ok = false≢true ok

-- what holds of a slot holds of it by another name
pub moved_moments : (old new : DiskState) (slot place : Slot) → slot ≡ place → (P : List ℕ → Type 0)
    → LeavesOnly old new (λ image. P (in_slot slot image)) → LeavesOnly old new (λ image. P (in_slot place image))
moved_moments old new slot place same P = subst (λ (s : Slot). LeavesOnly old new (λ image. P (in_slot slot image))
    → LeavesOnly old new (λ image. P (in_slot s image))) same (λ leaves. leaves)

-- neither is in doubt
pub first_false : (first second : Bool) → (first || second) ≡ false → first ≡ false
first_false false second none = refl
first_false true second none = absurd (false≢true (sym none))

pub second_false : (first second : Bool) → (first || second) ≡ false → second ≡ false
second_false false second none = none
second_false true second none = absurd (false≢true (sym none))

pub either_same : (one two first second : Bool) → one ≡ first → two ≡ second → (one || two) ≡ (first || second)
either_same one two first second same also = ap (λ (b : Bool). b || two) same ∙ ap (λ (b : Bool). first || b) also

pub first_true : (first second : Bool) → first ≡ true → (first || second) ≡ true
first_true true second is = refl
first_true false second is = absurd (false≢true is)

pub none_doubted : (aside : Aside) → aside ≢ Doubted → is_doubted aside ≡ false
none_doubted Settled other = refl
none_doubted Closed other = refl
none_doubted Unsettled other = refl
none_doubted Doubted other = absurd (other refl)

pub settled_keeps : (aside : Aside) (records : Option (List (List ℕ))) → is_doubted aside ≡ false → records_settled aside records ≡ records
settled_keeps Settled records none = refl
settled_keeps Closed records none = refl
settled_keeps Unsettled records none = refl
settled_keeps Doubted records none = absurd (false≢true (sym none))

pub undoubted_settled : (aside : Aside) (records : Option (List (List ℕ))) → aside ≢ Doubted → records_settled aside records ≡ records
undoubted_settled aside records none = settled_keeps aside records (none_doubted aside none)

-- what the slot aside has once a doubt is closed is what it had, or nothing
pub settled_is : (aside : Aside) (records : Option (List (List ℕ))) → (records_settled aside records ≡ records) ⊎ (records_settled aside records ≡ Some [])
settled_is Settled records = inl refl
settled_is Closed records = inl refl
settled_is Unsettled records = inl refl
settled_is Doubted records = inr refl

module _ {J : Type 0} {means : disk.Ghosts J} {counts : counted.Ghosts J} where
  module _ (old new : Frames J means counts) (laws : IsLawful (disk_of new)) where
    module _ (keeps : KeepsLog old new) where
      pub keeps_log : (acknowledged : List (List ℕ)) (in_doubt : Option (List ℕ)) → IsLog old acknowledged in_doubt
          → IsLog new acknowledged in_doubt
      keeps_log acknowledged in_doubt log = record {
        stands = subst (λ (s : Slot). IsLogOn (disk_of new) s new.gate acknowledged in_doubt) (sym keeps.slot)
            (subst (λ (n : ℕ). IsLogOn (disk_of new) old.slot n acknowledged in_doubt) (sym keeps.gate)
            (log_on old.slot (disk_of old) (disk_of new) laws keeps.leaves old.gate acknowledged in_doubt log.stands));
        doubt = keeps.doubt ∙ log.doubt;
        first = keeps.first ∙ log.first;
      }

      pub keeps_moments : (acknowledged : List (List ℕ)) (in_doubt : Option (List ℕ)) → IsLog old acknowledged in_doubt
          → LeavesOnly (disk_of old) (disk_of new) (λ image. HasRecordsOrOneMore acknowledged in_doubt (in_slot (slot_of old) image))
      keeps_moments acknowledged in_doubt log =
          left_moments old.slot (disk_of old) (disk_of new) laws keeps.leaves (HasRecordsOrOneMore acknowledged in_doubt)
          (λ image left. records_or_one_more acknowledged in_doubt (in_slot old.slot image) (log.stands.left image left))

    module _ (keeps : KeepsAside old new) where
      pub keeps_aside : (records : Option (List (List ℕ))) → IsAside old records → IsAside new records
      keeps_aside records aside = record {
        told = tells_on (other old.slot) (disk_of old) (disk_of new) keeps.leaves aside.told;
        stands = subst (λ (s : Slot). IsAsideOn (disk_of new) (other s) new.aside records) (sym keeps.slot)
            (subst (λ (a : Aside). IsAsideOn (disk_of new) (other old.slot) a records) (sym keeps.aside)
            (aside_on (other old.slot) (disk_of old) (disk_of new) laws keeps.leaves old.aside records aside.stands));
      }

      pub keeps_aside_moments : (records : Option (List (List ℕ))) → IsAside old records
          → LeavesOnly (disk_of old) (disk_of new) (λ image. HasRecordsOrNone records (in_slot (other (slot_of old)) image))
      keeps_aside_moments records aside =
          left_moments (other old.slot) (disk_of old) (disk_of new) laws keeps.leaves (HasRecordsOrNone records)
          (left_or_none (disk_of old) (other old.slot) old.aside records aside.stands)

  -- a byte 0 that is known to be closed has no record behind it
  pub closed_is_aside : (log : Frames J means counts) → IsAsideClosed log → IsAside log (Some [])
  closed_is_aside log closed = record {
    told = closed.told;
    stands = subst (λ (a : Aside). IsAsideOn (disk_of log) (other (slot_of log)) a (Some [])) (sym closed.state) (closed.closed, refl);
  }

  -- a byte 0 in doubt whose closing failed is still in doubt
  pub still_doubted : (old new : Frames J means counts) → old.aside ≡ Doubted → KeepsLog old new → new.aside ≡ old.aside
      → (records : Option (List (List ℕ)))
      → (IsAsideOn (disk_of old) (other (slot_of old)) Unsettled records → IsAsideOn (disk_of new) (other (slot_of new)) Unsettled records)
      → IsAside old records → IsAside new records
  still_doubted old new is keeps same records failed aside = record {
    told = tells_on old.slot (disk_of old) (disk_of new) keeps.leaves aside.told;
    stands = unsettled_is_doubted (disk_of new) (other (slot_of new)) new.aside records (same ∙ is)
        (failed (doubted_is_unsettled (disk_of old) (other (slot_of old)) old.aside records is aside.stands));
  }

  -- no call
  pub idle_aside_moments : (log : Frames J means counts) → IsLawful (disk_of log) → (records : Option (List (List ℕ))) → IsAside log records
      → LeavesOnly (disk_of log) (disk_of log) (λ image. HasRecordsOrNone records (in_slot (other (slot_of log)) image))
  idle_aside_moments log laws records aside =
      left_moments (other (slot_of log)) (disk_of log) (disk_of log) laws (idle_leaves (other (slot_of log)) (disk_of log) laws) (HasRecordsOrNone records)
      (left_or_none (disk_of log) (other (slot_of log)) log.aside records aside.stands)

  -- one call that leaves the slot aside alone, and then another
  pub keeps_aside_on : (old mid new : Frames J means counts) → IsLawful (disk_of mid) → IsLawful (disk_of new) → KeepsAside old mid → KeepsAside mid new
      → KeepsAside old new
  keeps_aside_on old mid new mid_laws laws first second = record {
    slot = second.slot ∙ first.slot;
    aside = second.aside ∙ first.aside;
    leaves = leaves_slot_on (other (slot_of old)) (disk_of old) (disk_of mid) (disk_of new) mid_laws laws first.leaves
        (subst (λ (s : Slot). LeavesSlot (other s) (disk_of mid) (disk_of new)) first.slot second.leaves);
  }

  -- A lengthening: none, one behind another, and a write behind the end.
  pub lengthens_idle : (log : Frames J means counts) → IsLawful (disk_of log) → Lengthens log log
  lengthens_idle log laws = record {
    log = λ acknowledged is_log. is_log;
    doubt = refl;
    moments = λ acknowledged is_log. left_moments (slot_of log) (disk_of log) (disk_of log) laws (idle_leaves (slot_of log) (disk_of log) laws)
        (HasRecords acknowledged) is_log.stands.left;
    aside = record { slot = refl; aside = refl; leaves = idle_leaves (other (slot_of log)) (disk_of log) laws };
  }

  pub lengthens_on : (old mid new : Frames J means counts) → IsLawful (disk_of mid) → IsLawful (disk_of new) → Lengthens old mid → Lengthens mid new
      → Lengthens old new
  lengthens_on old mid new mid_laws laws first second = record {
    log = λ acknowledged is_log. second.log acknowledged (first.log acknowledged is_log);
    doubt = second.doubt ∙ first.doubt;
    moments = λ acknowledged is_log. leaves_on (disk_of old) (disk_of mid) (disk_of new) laws
        (λ image. HasRecords acknowledged (in_slot (slot_of old) image)) (first.moments acknowledged is_log)
        (moved_moments (disk_of mid) (disk_of new) (slot_of mid) (slot_of old) first.aside.slot (HasRecords acknowledged)
        (second.moments acknowledged (first.log acknowledged is_log)));
    aside = keeps_aside_on old mid new mid_laws laws first.aside second.aside;
  }

  pub write_lengthens : (old new : Frames J means counts) → IsLawful (disk_of old) → IsLawful (disk_of new) → new.slot ≡ old.slot → new.gate ≡ old.gate
      → new.doubt ≡ old.doubt → new.first ≡ old.first → new.aside ≡ old.aside → (n : ℕ) → MayWrite old.slot old.end n (disk_of old) (disk_of new)
      → Lengthens old new
  write_lengthens old new old_laws laws slot gate doubt first aside n writes =
      let leaves = torn_since old.slot old.end n (disk_of old) (disk_of new) old_laws laws writes in
      let behind : old.gate + 1 ≤ old.end = omega (arith, old.within.inside) in
      record {
        log = λ acknowledged is_log. record {
          stands = subst (λ (s : Slot). IsLogOn (disk_of new) s new.gate acknowledged None) (sym slot)
              (subst (λ (p : ℕ). IsLogOn (disk_of new) old.slot p acknowledged None) (sym gate)
              (grown_log (disk_of old) (disk_of new) old.slot old.gate acknowledged old.end n behind writes.torn is_log.stands
              (torn_left old.slot old.end n (disk_of old) (disk_of new) old_laws laws writes)));
          doubt = doubt ∙ is_log.doubt;
          first = first ∙ is_log.first;
        };
        doubt = doubt;
        moments = λ acknowledged is_log.
            grown_moments (disk_of old) (disk_of new) old.slot old.gate acknowledged old.end n behind is_log.stands leaves;
        aside = record {
          slot = slot;
          aside = aside;
          leaves = write_leaves old.slot old.end n (disk_of old) (disk_of new) writes.torn leaves;
        };
      }

  -- a call that keeps to the slot of a log, and then one that leaves the slot aside alone
  pub leaves_aside_on : (old mid : Frames J means counts) (new : DiskState) → IsLawful new → KeepsToSlot old mid → LeavesAside mid new
      → LeavesAside old new
  leaves_aside_on old mid new laws first second none =
      elsewhere_on (slot_of old) (disk_of old) (disk_of mid) new (means.lawful mid.journal) laws (first.aside none)
      (subst (λ (s : Slot). LeavesOnly (disk_of mid) new (IsUntouched s (disk_of mid))) first.same (second (first.no_doubt none)))

  -- A call keeps to the slot of a log: it does nothing where no gate of the slot aside is in doubt; it does nothing; it
  -- leaves the slot aside alone; it is one call and then another.
  pub idle_keeps_to_slot : (old new : Frames J means counts) → slot_of new ≡ slot_of old
      → (is_aside_in_doubt old ≡ false → new ≡ old) → KeepsToSlot old new
  idle_keeps_to_slot old new same idle = record {
    same = same;
    aside = λ none. subst (λ (m : Frames J means counts). LeavesOnly (disk_of old) (disk_of m) (IsUntouched (slot_of old) (disk_of old)))
        (sym (idle none)) (leaves_untouched (slot_of old) (disk_of old) (disk_of old)
        (idle_leaves (other (slot_of old)) (disk_of old) (means.lawful old.journal)));
    no_doubt = λ none. ap is_aside_in_doubt (idle none) ∙ none;
  }

  pub same_keeps_to_slot : (old new : Frames J means counts) → new ≡ old → KeepsToSlot old new
  same_keeps_to_slot old new same = idle_keeps_to_slot old new (ap slot_of same) (λ none. same)

  pub aside_keeps_to_slot : (old new : Frames J means counts) → KeepsAside old new → KeepsToSlot old new
  aside_keeps_to_slot old new keeps = record {
    same = keeps.slot;
    aside = λ none. leaves_untouched (slot_of old) (disk_of old) (disk_of new) keeps.leaves;
    no_doubt = λ none. ap is_doubted keeps.aside ∙ none;
  }

  pub keeps_to_slot_on : (old mid new : Frames J means counts) → KeepsToSlot old mid → KeepsToSlot mid new → KeepsToSlot old new
  keeps_to_slot_on old mid new first second = record {
    same = second.same ∙ first.same;
    aside = λ none. leaves_aside_on old mid (disk_of new) (means.lawful new.journal) first second.aside none;
    no_doubt = λ none. second.no_doubt (first.no_doubt none);
  }

  -- what the slot aside has behind a settling, and then behind a call that leaves it alone
  module _ (first mid last : Frames J means counts) (laws : IsLawful (disk_of last)) (same : slot_of mid ≡ slot_of first) where
    pub settled_then : (records : Option (List (List ℕ)))
        → LeavesOnly (disk_of first) (disk_of mid) (λ image. HasRecordsOrNone records (in_slot (other (slot_of first)) image))
        → LeavesOnly (disk_of mid) (disk_of last) (λ image. HasRecordsOrNone (settled_aside first records) (in_slot (other (slot_of mid)) image))
        → LeavesOnly (disk_of first) (disk_of last) (λ image. HasRecordsOrNone records (in_slot (other (slot_of first)) image))
    settled_then records one two =
        leaves_on (disk_of first) (disk_of mid) (disk_of last) laws (λ image. HasRecordsOrNone records (in_slot (other (slot_of first)) image)) one
        (weaker (disk_of mid) (disk_of last) (λ image. HasRecordsOrNone (settled_aside first records) (in_slot (other (slot_of first)) image))
        (λ image. HasRecordsOrNone records (in_slot (other (slot_of first)) image))
        (λ image has. settled_or_none first.aside records (in_slot (other (slot_of first)) image) has)
        (subst (λ (s : Slot). LeavesOnly (disk_of mid) (disk_of last) (λ image. HasRecordsOrNone (settled_aside first records) (in_slot (other s) image)))
        same two))

    -- a settling of the slot aside, and then a call that leaves it alone
    pub settles_then : KeepsAside mid last
        → ((records : Option (List (List ℕ))) → IsAside first records → IsAside mid (settled_aside first records))
        → ((records : Option (List (List ℕ))) → IsAside first records → LeavesOnly (disk_of first) (disk_of mid)
        (λ image. HasRecordsOrNone records (in_slot (other (slot_of first)) image)))
        → (outcome : Result (Unit {0}) Failed) → SettlesAside first last outcome
    settles_then keeps settled moments outcome = record {
      settled = always_on_ok outcome (λ records aside. now records aside);
      failed = always_on_err outcome (λ records aside. inr (now records aside));
      moments = λ records aside. settled_then records (moments records aside)
          (keeps_aside_moments mid last laws keeps (settled_aside first records) (settled records aside));
    }
      where
        now : (records : Option (List (List ℕ))) → IsAside first records → IsAside last (settled_aside first records)
        now records aside = keeps_aside mid last laws keeps (settled_aside first records) (settled records aside)

  -- what the slot aside has behind a fault: the records from before, or none
  pub three_ways : (first now : Frames J means counts) (records : Option (List (List ℕ))) (Third : Type 0) → IsAside now (settled_aside first records)
      → IsAside now records ⊎ (IsAside now (Some []) ⊎ Third)
  three_ways first now records Third aside = elim (settled_is first.aside records) [
    | inl same ↦ inl (subst (λ (r : Option (List (List ℕ))). IsAside now r) same aside)
    | inr none ↦ inr (inl (subst (λ (r : Option (List (List ℕ))). IsAside now r) none aside))
  ]

  -- the slot that a log was in is the slot aside of the log that turned over
  pub left_aside : (old new : Frames J means counts) → IsLawful (disk_of new) → slot_of new ≡ other (slot_of old) → new.aside ≡ Settled
      → LeavesSlot (slot_of old) (disk_of old) (disk_of new) → (acknowledged : List (List ℕ)) → IsLog old acknowledged None
      → IsAside new (Some acknowledged)
  left_aside old new laws turned settled leaves acknowledged log = record {
    told = tells_on (slot_of old) (disk_of old) (disk_of new) leaves log.stands.told;
    stands = subst (λ (a : Aside). IsAsideOn (disk_of new) (other (slot_of new)) a (Some acknowledged)) (sym settled)
        (subst (λ (s : Slot). LeftInSlot (disk_of new) s (HasRecords acknowledged)) (sym (other_other (slot_of old)) ∙ ap other (sym turned))
        (left_on (slot_of old) (disk_of old) (disk_of new) laws leaves (HasRecords acknowledged) log.stands.left));
  }
