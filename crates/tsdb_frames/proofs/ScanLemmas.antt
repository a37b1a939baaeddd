-- What a scan knows of a slot that it read: its log, or that it is torn exactly where it is.
use Rattle.std.proofs.Common.{◌≡◌, ◌∙◌, ℕ, List, length, None, Some, refl, subst, sym}
use Rattle.std.specs.Prelude.{IfSome, IsSome}
use Rattle.std.specs.declared.option.Option.{Option}
use Rattle.tsdb_outside.specs.Disk.{Image, Keeps, DiskState, in_slot}
use Rattle.tsdb_outside.specs.declared.disk.Slot.{Slot}
use Rattle.tsdb_frames.specs.Causes.{AnswersTorn}
use Rattle.tsdb_frames.specs.declared.fault.ScanFault.{ScanFault}
use Rattle.tsdb_frames.specs.declared.fault.ScanFault.TheVariants.{Failed, Torn, Memory}
use Rattle.tsdb_frames.specs.Laws.{whole_or_torn, torn_once}
use Rattle.tsdb_frames.specs.Log.{IsLogOn, IsSettled}
use Rattle.tsdb_frames.specs.Slots.{HasRecords, IsTorn, IsTornBehind, open_records}
use Rattle.tsdb_frames.proofs.RecordLemmas.{torn_behind}

module _ (slot : Slot) where
  -- a slot with records up to a closed gate is torn nowhere
  pub whole_each : (payloads : List (List ℕ)) (seen : Option Image) → IfSome seen (λ image. HasRecords payloads (in_slot slot image))
      → IfSome seen (λ image. (at : ℕ) → IsTorn at (in_slot slot image) → ⊥)
  whole_each payloads None records = tt
  whole_each payloads (Some image) records = λ at torn. whole_or_torn payloads at (in_slot slot image) records torn

  -- a slot that is torn behind records is torn
  pub torn_slot : (payloads : List (List ℕ)) (at : ℕ) (seen : Option Image)
      → IfSome seen (λ image. IsTornBehind payloads at (in_slot slot image)) → IfSome seen (λ image. IsTorn at (in_slot slot image))
  torn_slot payloads at None torn = tt
  torn_slot payloads at (Some image) torn = torn_behind payloads at (in_slot slot image) torn

  -- a fault says of the slot what the disk tells of it
  pub torn_told : (fault : ScanFault) (seen : Option Image)
      → ((at : ℕ) → fault ≡ Torn at → IfSome seen (λ image. IsTorn at (in_slot slot image)))
      → IfSome seen (λ image. (at : ℕ) → fault ≡ Torn at → IsTorn at (in_slot slot image))
  torn_told fault None torn = tt
  torn_told fault (Some image) torn = torn

  -- no other place is answered
  pub torn_each : (fault : ScanFault) (seen : Option Image) → IfSome seen (λ image. (at : ℕ) → fault ≡ Torn at → IsTorn at (in_slot slot image))
      → IfSome seen (λ image. (at : ℕ) → IsTorn at (in_slot slot image) → AnswersTorn at fault)
  torn_each fault None torn = tt
  torn_each Failed (Some image) torn = λ at other. tt
  torn_each Memory (Some image) torn = λ at other. tt
  torn_each (Torn place) (Some image) torn = λ at other. torn_once place at (in_slot slot image) (torn place refl) other

  -- the log of the records of a settled slot
  pub whole_log : (payloads : List (List ℕ)) (gate : ℕ) → gate ≡ length (open_records payloads) → (old new : DiskState) → Keeps old new
      → IsSettled slot old → (seen : Option Image) → old.seen ≡ seen → IfSome seen (λ image. HasRecords payloads (in_slot slot image))
      → (Q : Type 0) → (IsLogOn new slot gate payloads None → Q) → IfSome seen (λ image. Q)
  whole_log payloads gate place old new keeps settled None told records Q then = tt
  whole_log payloads gate place old new keeps settled (Some image) told records Q then = then (record {
    told = subst (λ (o : Option Image). IsSome o) (sym (keeps.seen ∙ told)) refl;
    place = place;
    left = λ other left. settled payloads image other told records (keeps.crash other left);
  })
