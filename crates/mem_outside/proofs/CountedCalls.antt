-- What a counted call of the journal says of its number: `due` is what its number makes of it, `made` are the numbers then.
use Rattle.std.proofs.Common.{◌≡◌, ℕ, ◌≤◌, Bool, refl, ap, ◌∙◌, inl, inr, arith, subst}
use Rattle.std.specs.Prelude.{◌↔◌, Result, Ok, Err, IsErr, OnOk, OnErr, is_ok}
use Rattle.std.proofs.lemmas.Bool.{false≢true}
use Rattle.tsdb_base.specs.Causes.{Rose}
use Rattle.tsdb_outside.specs.Causes.{HasCause}
use Rattle.tsdb_outside.specs.declared.disk.Slot.{Slot}
use Rattle.tsdb_outside.specs.declared.faults.Failed.{Failed}
use Rattle.mem_outside.specs.declared.calls.Calls.{Calls}
use Rattle.mem_outside.specs.declared.journal.MemJournal.{MemJournal}
use Rattle.mem_outside.specs.Calls.{NextFails, with_call, with_fault}
use Rattle.mem_outside.specs.Record.{SlotState}
use Rattle.mem_outside.specs.RecordedDisk.{RecordsCall, SameRecord}
use Rattle.mem_outside.specs.Journal.{journal_disk, journal_numbers, Succeeds, FailsByNumber, FailsWithoutRoom}

-- a further fault in the call
pub further_fault : (before made now : ℕ) (due : Result (Unit {0}) Failed) (fault : Failed) → HasCause before made due
    → made ≤ now → Rose made now
    → HasCause {T = Unit {0}} before now (Err fault)
further_fault before made now due fault cause later rose = record { later = omega (arith, cause.later, later); failed = omega (arith, cause.later, rose) }

-- a call that fails by its number, and has no room
pub fails_without_room : (slot : Slot) (effect : Bool → SlotState → SlotState) (old new : MemJournal) (made : Calls) (due : Result (Unit {0}) Failed)
    → (IsErr due ↔ NextFails (journal_numbers old)) → OnErr due (made ≡ with_fault (with_call (journal_numbers old)))
    → SameRecord (journal_disk old) (journal_disk new) → journal_numbers new ≡ with_fault made
    → NextFails (journal_numbers old) → FailsByNumber slot effect old new
fails_without_room slot effect old new made (Ok v) fails err same counts next = absurd (false≢true (fails.1 next))
fails_without_room slot effect old new made (Err e) fails err same counts next =
    inr (record { same = same; counts = counts ∙ ap (λ (c : Calls). with_fault c) err })

-- a call that does not fail by its number, and has no room
pub only_without_room : (old new : MemJournal) (made : Calls) (due : Result (Unit {0}) Failed)
    → (IsErr due ↔ NextFails (journal_numbers old)) → OnOk due (made ≡ with_call (journal_numbers old))
    → SameRecord (journal_disk old) (journal_disk new) → journal_numbers new ≡ with_fault made
    → (NextFails (journal_numbers old) → ⊥) → FailsWithoutRoom old new
only_without_room old new made (Ok v) fails ok same counts other =
    record { same = same; counts = counts ∙ ap (λ (c : Calls). with_fault c) ok }
only_without_room old new made (Err e) fails ok same counts other = absurd (other (fails.0 refl))

-- a call that is recorded, and succeeds where its number lets it
pub succeeds_if_due : (slot : Slot) (effect : Bool → SlotState → SlotState) (old new : MemJournal) (due : Result (Unit {0}) Failed) (succeeded : Bool)
    → succeeded ≡ is_ok due → RecordsCall slot (effect succeeded) (journal_disk old) (journal_disk new)
    → OnOk due (journal_numbers new ≡ with_call (journal_numbers old)) → OnOk due (Succeeds slot effect old new)
succeeds_if_due slot effect old new (Ok v) succeeded same call ok = record {
  call = subst (λ (b : Bool). RecordsCall slot (effect b) (journal_disk old) (journal_disk new)) same call;
  counts = ok;
}
succeeds_if_due slot effect old new (Err e) succeeded same call ok = tt

-- a call that is recorded, and fails by its number
pub recorded_as_failed : (slot : Slot) (effect : Bool → SlotState → SlotState) (old new : MemJournal) (due : Result (Unit {0}) Failed) (succeeded : Bool)
    → succeeded ≡ is_ok due → RecordsCall slot (effect succeeded) (journal_disk old) (journal_disk new)
    → (IsErr due ↔ NextFails (journal_numbers old)) → OnErr due (journal_numbers new ≡ with_fault (with_call (journal_numbers old)))
    → NextFails (journal_numbers old) → IsErr due × FailsByNumber slot effect old new
recorded_as_failed slot effect old new (Ok v) succeeded same call fails err next = absurd (false≢true (fails.1 next))
recorded_as_failed slot effect old new (Err e) succeeded same call fails err next = (
  refl,
  inl (record {
    call = subst (λ (b : Bool). RecordsCall slot (effect b) (journal_disk old) (journal_disk new)) same call;
    counts = err;
  }),
)

-- a call that is recorded fails by its number alone
pub fails_by_number_alone : (P : Type 0) (numbers : Calls) (due : Result (Unit {0}) Failed)
    → (IsErr due ↔ NextFails numbers) → (NextFails numbers → ⊥) → OnErr due P
fails_by_number_alone P numbers (Ok v) fails other = tt
fails_by_number_alone P numbers (Err e) fails other = absurd (other (fails.0 refl))
