-- What the steps of an append and of a settling leave of a log.
use Rattle.std.proofs.Common.{◌≡◌, ℕ, ◌+◌, ◌≤◌, Bool, true, List, [], ◌∷◌, ◌++◌, length, refl, sym, ◌∙◌, ap, subst, arith, length-append, None, Some}
use Rattle.std.specs.Prelude.{IsSome, is_some, Result, Ok, Err, OnErr}
use Rattle.std.specs.declared.option.Option.{Option}
use Rattle.tsdb_outside.specs.Disk.{Image, DiskState, in_slot, overwrite, IsLawful, TornIn, WhereTold}
use Rattle.tsdb_outside.specs.declared.disk.Slot.{Slot}
use Rattle.tsdb_frames.specs.Slots.{with_length, frame_bytes, open_records, HasRecords}
use Rattle.tsdb_frames.specs.Laws.{records_once}
use Rattle.tsdb_frames.specs.Log.{payload_of, IsFrame, IsSlotOf, IsLogOn, IsSettled, HasRecordsOrOneMore}
use Rattle.tsdb_outside.specs.Moments.{LeavesFirstThen, LeavesOnly}
use Rattle.tsdb_frames.specs.Steps.{IsTornFrom, IsWrittenFrom}
use Rattle.tsdb_frames.proofs.RecordLemmas.{open_records_more}
use Rattle.tsdb_frames.proofs.SlotLemmas.{records_or_one_more, behind_torn, beyond_torn, gate_torn, behind_written, gate_closed, gate_opened}
use Rattle.tsdb_frames.proofs.MomentLemmas.{first_then, weaker}

-- what always holds also holds where there is an error
pub always_on_err : {T E P : Type 0} (result : Result T E) → P → OnErr result P
always_on_err (Ok value) holds = tt
always_on_err (Err error) holds = holds

-- a log with no gate in doubt leaves its slot settled
pub log_is_settled : (disk : DiskState) (slot : Slot) (gate : ℕ) (acknowledged : List (List ℕ)) → IsLawful disk
    → IsLogOn disk slot gate acknowledged None → IsSettled slot disk
log_is_settled disk slot gate acknowledged laws log payloads seen image is_seen has left =
    let same = records_once payloads acknowledged (in_slot slot seen) has (log.left seen (laws.seen_may_stay seen is_seen)) in
    subst (λ (l : List (List ℕ)). HasRecords l (in_slot slot image)) (sym same) (log.left image left)

-- a disk that tells goes on to tell
told_on : {X : Type 0} (relation : X → X → Type 0) (old new : Option X) → WhereTold relation old new → IsSome old → IsSome new
told_on relation None new related told = absurd cc
told_on relation (Some x) None related told = absurd related
told_on relation (Some x) (Some y) related told = refl

module _ (old new : DiskState) (slot : Slot) (gate : ℕ) (acknowledged : List (List ℕ)) where
  -- a write of the gate leaves a record in doubt in doubt
  pub gate_leaves : (payload : List ℕ) → IsLogOn old slot gate acknowledged (Some payload)
      → (image : Image) → IsTornFrom slot gate 1 old image → IsSlotOf acknowledged (Some payload) (in_slot slot image)
  gate_leaves payload log image from =
      gate_torn acknowledged gate log.place (in_slot slot from.before) (in_slot slot image) payload (log.left from.before from.left) from.torn.here

  -- a write behind the closed gate leaves nothing in doubt
  pub behind_leaves : (n : ℕ) → IsLogOn old slot gate acknowledged None
      → (image : Image) → IsTornFrom slot (gate + 1) n old image → IsSlotOf acknowledged None (in_slot slot image)
  behind_leaves n log image from =
      behind_torn acknowledged gate log.place (in_slot slot from.before) (in_slot slot image) n (log.left from.before from.left) from.torn.here

  -- nor does one farther behind it
  beyond_leaves : (at n : ℕ) → gate + 1 ≤ at → IsLogOn old slot gate acknowledged None
      → (image : Image) → IsTornFrom slot at n old image → HasRecords acknowledged (in_slot slot image)
  beyond_leaves at n behind log image from =
      beyond_torn acknowledged gate log.place (in_slot slot from.before) (in_slot slot image) at n behind (log.left from.before from.left) from.torn.here

  pub grown_log : (at n : ℕ) → gate + 1 ≤ at → WhereTold (TornIn slot at n) old.seen new.seen → IsLogOn old slot gate acknowledged None
      → ((image : Image) → new.may_leave image → IsTornFrom slot at n old image) → IsLogOn new slot gate acknowledged None
  grown_log at n behind told log torn = record {
    told = told_on (TornIn slot at n) old.seen new.seen told log.told;
    place = log.place;
    left = λ image left. beyond_leaves at n behind log image (torn image left);
  }

  pub grown_moments : (at n : ℕ) → gate + 1 ≤ at → IsLogOn old slot gate acknowledged None → LeavesOnly old new (IsTornFrom slot at n old)
      → LeavesOnly old new (λ image. HasRecords acknowledged (in_slot slot image))
  grown_moments at n behind log leaves =
      weaker old new (IsTornFrom slot at n old) (λ image. HasRecords acknowledged (in_slot slot image)) (beyond_leaves at n behind log) leaves

  module _ (told : WhereTold (TornIn slot gate 1) old.seen new.seen) where
    pub gate_fails : (payload : List ℕ) → IsLogOn old slot gate acknowledged (Some payload)
        → ((image : Image) → new.may_leave image → IsTornFrom slot gate 1 old image) → IsLogOn new slot gate acknowledged (Some payload)
    gate_fails payload log torn = record {
      told = told_on (TornIn slot gate 1) old.seen new.seen told log.told;
      place = log.place;
      left = λ image left. gate_leaves payload log image (torn image left);
    }

    pub gate_closes : (payload : List ℕ) → IsLogOn old slot gate acknowledged (Some payload)
        → (IsSome old.seen → (image : Image) → new.may_leave image → IsWrittenFrom slot gate (0 ∷ []) old image)
        → IsLogOn new slot gate acknowledged None
    gate_closes payload log written = record {
      told = told_on (TornIn slot gate 1) old.seen new.seen told log.told;
      place = log.place;
      left = λ image left. let from = written log.told image left in
          gate_closed acknowledged gate log.place (in_slot slot from.before) (in_slot slot image) payload (log.left from.before from.left) from.written;
    }

    pub gate_opens : (payload : List ℕ) → IsLogOn old slot gate acknowledged (Some payload)
        → (IsSome old.seen → (image : Image) → new.may_leave image → IsWrittenFrom slot gate (1 ∷ []) old image)
        → IsLogOn new slot (gate + length (frame_bytes payload)) (acknowledged ++ (payload ∷ [])) None
    gate_opens payload log written = record {
      told = told_on (TornIn slot gate 1) old.seen new.seen told log.told;
      place = omega (
        arith,
        log.place,
        ap length (open_records_more acknowledged payload),
        length-append (open_records acknowledged) (1 ∷ with_length payload),
        length-append (with_length payload) (0 ∷ []),
      );
      left = λ image left. let from = written log.told image left in
          gate_opened acknowledged gate log.place (in_slot slot from.before) (in_slot slot image) payload (log.left from.before from.left) from.written;
    }

  module _ (n : ℕ) (told : WhereTold (TornIn slot (gate + 1) n) old.seen new.seen) where
    pub behind_fails : IsLogOn old slot gate acknowledged None
        → ((image : Image) → new.may_leave image → IsTornFrom slot (gate + 1) n old image) → IsLogOn new slot gate acknowledged None
    behind_fails log torn = record {
      told = told_on (TornIn slot (gate + 1) n) old.seen new.seen told log.told;
      place = log.place;
      left = λ image left. behind_leaves n log image (torn image left);
    }

    pub behind_done : (framed : List ℕ) → IsFrame framed → IsLogOn old slot gate acknowledged None
        → (IsSome old.seen → (image : Image) → new.may_leave image → IsWrittenFrom slot (gate + 1) framed old image)
        → IsLogOn new slot gate acknowledged (Some (payload_of framed))
    behind_done framed is_frame log written = record {
      told = told_on (TornIn slot (gate + 1) n) old.seen new.seen told log.told;
      place = log.place;
      left = λ image left. let from = written log.told image left in
          behind_written acknowledged gate log.place (in_slot slot from.before) (in_slot slot image) (payload_of framed) is_frame.fits
          (log.left from.before from.left)
          (from.written ∙ ap (λ (l : List ℕ). overwrite (gate + 1) l (in_slot slot from.before)) is_frame.bytes);
    }

  -- the moments of a write of the gate
  pub gate_moments : (payload : List ℕ) → IsLogOn old slot gate acknowledged (Some payload)
      → LeavesOnly old new (IsTornFrom slot gate 1 old)
      → LeavesOnly old new (λ image. HasRecordsOrOneMore acknowledged (Some payload) (in_slot slot image))
  gate_moments payload log leaves =
      weaker old new (IsTornFrom slot gate 1 old) (λ image. HasRecordsOrOneMore acknowledged (Some payload) (in_slot slot image))
      (λ image from. records_or_one_more acknowledged (Some payload) (in_slot slot image) (gate_leaves payload log image from)) leaves

  -- the moments of a write behind the closed gate
  pub staging_moments : (n : ℕ) → IsLogOn old slot gate acknowledged None → LeavesOnly old new (IsTornFrom slot (gate + 1) n old)
      → LeavesOnly old new (λ image. HasRecords acknowledged (in_slot slot image))
  staging_moments n log leaves =
      weaker old new (IsTornFrom slot (gate + 1) n old) (λ image. HasRecords acknowledged (in_slot slot image)) (behind_leaves n log) leaves

-- A settling, where a gate is in doubt.
module _ (old new : DiskState) (slot : Slot) (gate : ℕ) (acknowledged : List (List ℕ)) where
  pub settle_fails : (in_doubt : Option (List ℕ)) (doubt : Bool) → doubt ≡ true → doubt ≡ is_some in_doubt
      → WhereTold (TornIn slot gate 1) old.seen new.seen → IsLogOn old slot gate acknowledged in_doubt
      → ((image : Image) → new.may_leave image → IsTornFrom slot gate 1 old image) → IsLogOn new slot gate acknowledged in_doubt
  settle_fails None doubt is_set same told log torn = absurd cc
  settle_fails (Some payload) doubt is_set same told log torn = gate_fails old new slot gate acknowledged told payload log torn

  pub settle_closes : (in_doubt : Option (List ℕ)) (doubt : Bool) → doubt ≡ true → doubt ≡ is_some in_doubt
      → WhereTold (TornIn slot gate 1) old.seen new.seen → IsLogOn old slot gate acknowledged in_doubt
      → (IsSome old.seen → (image : Image) → new.may_leave image → IsWrittenFrom slot gate (0 ∷ []) old image)
      → IsLogOn new slot gate acknowledged None
  settle_closes None doubt is_set same told log written = absurd cc
  settle_closes (Some payload) doubt is_set same told log written = gate_closes old new slot gate acknowledged told payload log written

  pub settle_moments : (in_doubt : Option (List ℕ)) (doubt : Bool) → doubt ≡ true → doubt ≡ is_some in_doubt
      → IsLogOn old slot gate acknowledged in_doubt → LeavesOnly old new (IsTornFrom slot gate 1 old)
      → LeavesOnly old new (λ image. HasRecordsOrOneMore acknowledged in_doubt (in_slot slot image))
  settle_moments None doubt is_set same log leaves = absurd cc
  settle_moments (Some payload) doubt is_set same log leaves = gate_moments old new slot gate acknowledged payload log leaves

-- An addition: the states at its beginning, behind the write of the frame, and behind that of the gate.
module _ (old staged last : DiskState) (slot : Slot) (gate : ℕ) (framed : List ℕ) (acknowledged : List (List ℕ)) where
  pub added_moments : IsLawful last → IsLogOn old slot gate acknowledged None → IsLogOn staged slot gate acknowledged (Some (payload_of framed))
      → LeavesOnly old staged (IsTornFrom slot (gate + 1) (length framed) old) → LeavesOnly staged last (IsTornFrom slot gate 1 staged)
      → LeavesFirstThen old last (λ image. HasRecords acknowledged (in_slot slot image))
      (λ image. HasRecordsOrOneMore acknowledged (Some (payload_of framed)) (in_slot slot image))
  added_moments laws log staged_log staging opening =
      first_then old staged last laws (λ image. HasRecords acknowledged (in_slot slot image))
      (λ image. HasRecordsOrOneMore acknowledged (Some (payload_of framed)) (in_slot slot image))
      (staging_moments old staged slot gate acknowledged (length framed) log staging)
      (gate_moments staged last slot gate acknowledged (payload_of framed) staged_log opening)

-- the gate behind a record is opened
pub gate_opens_framed : (staged last : DiskState) (slot : Slot) (gate : ℕ) (framed : List ℕ) → IsFrame framed → (acknowledged : List (List ℕ))
    → WhereTold (TornIn slot gate 1) staged.seen last.seen → IsLogOn staged slot gate acknowledged (Some (payload_of framed))
    → (IsSome staged.seen → (image : Image) → last.may_leave image → IsWrittenFrom slot gate (1 ∷ []) staged image)
    → IsLogOn last slot (gate + length framed) (acknowledged ++ (payload_of framed ∷ [])) None
gate_opens_framed staged last slot gate framed is_frame acknowledged told log written =
    subst (λ (n : ℕ). IsLogOn last slot (gate + n) (acknowledged ++ (payload_of framed ∷ [])) None) (sym (ap length is_frame.bytes))
    (gate_opens staged last slot gate acknowledged told (payload_of framed) log written)
