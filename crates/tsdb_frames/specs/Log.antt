-- The log: records that are acknowledged, and at most one behind them that is in doubt.
use Rattle.std.specs.Prelude.{◌≡◌, ◌⊎◌, ℕ, ◌-◌, ◌<◌, ◌≤◌, List, [], ◌∷◌, ◌++◌, length, take, drop, None, Some, IsSome}
use Rattle.std.specs.declared.option.Option.{Option}
use Rattle.std.specs.List.{All}
use Rattle.std.specs.Option.{ForSome}
use Rattle.tsdb_outside.specs.Disk.{Image, DiskState, in_slot}
use Rattle.tsdb_outside.specs.Limits.{FitsSlot}
use Rattle.tsdb_outside.specs.declared.disk.Slot.{Slot}
use Rattle.tsdb_frames.specs.Slots.{IsPayload, frame_bytes, open_records, HasRecords}

-- the record in what is written of it: behind its length, and before the next gate
abbrev pub payload_of : List ℕ → List ℕ
payload_of framed = drop 4 (take (length framed - 1) framed)

-- these bytes are what is written of a record
pub record IsFrame (framed : List ℕ) : Type 0 where
  pub fits : IsPayload (payload_of framed)
  pub bytes : framed ≡ frame_bytes (payload_of framed)

-- Acknowledged records stand behind open gates, then comes any gate, and behind it a whole record.
pub record HasRecordBehindGate (acknowledged : List (List ℕ)) (payload bytes : List ℕ) : Type 0 where
  pub fit : All IsPayload acknowledged
  pub fits : IsPayload payload
  pub gate : ℕ
  pub rest : List ℕ
  pub split : bytes ≡ open_records acknowledged ++ (gate ∷ (frame_bytes payload ++ rest))

-- a slot with these acknowledged records, and behind them a closed gate or a gate in doubt with its record
abbrev pub IsSlotOf : List (List ℕ) → Option (List ℕ) → List ℕ → Type 0
IsSlotOf acknowledged None bytes = HasRecords acknowledged bytes
IsSlotOf acknowledged (Some payload) bytes = HasRecordBehindGate acknowledged payload bytes

-- the records of a slot are those acknowledged, or these and the one in doubt
abbrev pub HasRecordsOrOneMore : List (List ℕ) → Option (List ℕ) → List ℕ → Type 0
HasRecordsOrOneMore acknowledged None bytes = HasRecords acknowledged bytes
HasRecordsOrOneMore acknowledged (Some payload) bytes =
    HasRecords acknowledged bytes ⊎ HasRecords (acknowledged ++ (payload ∷ [])) bytes

-- A disk that tells its content has this log in a slot: the gate behind the acknowledged records stands at this
-- place, and whatever a stop leaves is such a slot.
pub record IsLogOn (disk : DiskState) (slot : Slot) (gate : ℕ) (acknowledged : List (List ℕ))
    (in_doubt : Option (List ℕ)) : Type 0 where
  pub told : IsSome disk.seen
  pub place : gate ≡ length (open_records acknowledged)
  pub left : (image : Image) → disk.may_leave image → IsSlotOf acknowledged in_doubt (in_slot slot image)

-- there is a gate at this place of the slot, which has so many bytes at least
pub record HasGateAt (disk : DiskState) (slot : Slot) (gate end : ℕ) : Type 0 where
  pub inside : gate < end
  pub long : ForSome disk.seen (λ image. end ≤ length (in_slot slot image))
  pub limit : FitsSlot end

-- the bytes of the first frame: its record behind its length, and the next gate
abbrev pub first_bytes : List (List ℕ) → ℕ
first_bytes [] = 0
first_bytes (payload ∷ payloads) = length (frame_bytes payload)

-- A journal is settled in a slot: whatever a stop leaves begins with what a read gives, up to its first closed gate.
abbrev pub IsSettled : Slot → DiskState → Type 0
IsSettled slot disk = (payloads : List (List ℕ)) (seen image : Image) → disk.seen ≡ Some seen
    → HasRecords payloads (in_slot slot seen) → disk.may_leave image → HasRecords payloads (in_slot slot image)
