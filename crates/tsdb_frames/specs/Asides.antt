-- The slot aside, that a log is not in: which records a stop leaves there.
use Rattle.std.specs.Prelude.{◌≡◌, ◌⊎◌, ℕ, ◌≤◌, Bool, ◌||◌, true, false, List, [], ◌∷◌, None, Some}
use Rattle.std.specs.declared.option.Option.{Option}
use Rattle.tsdb_outside.specs.Disk.{Image, DiskState, in_slot}
use Rattle.tsdb_outside.specs.declared.disk.Slot.{Slot}
use Rattle.tsdb_frames.specs.declared.aside.Aside.{Aside}
use Rattle.tsdb_frames.specs.declared.aside.Aside.TheVariants.{Settled, Closed, Unsettled, Doubted}
use Rattle.tsdb_frames.specs.Log.{IsSettled}
use Rattle.tsdb_frames.specs.Slots.{HasRecords}

-- With an open gate in place of the first byte, these are the records.
pub record HasRecordsIfOpen (payloads : List (List ℕ)) (bytes : List ℕ) : Type 0 where
  pub gate : ℕ
  pub rest : List ℕ
  pub split : bytes ≡ gate ∷ rest
  pub records : HasRecords payloads (1 ∷ rest)

-- whatever a stop leaves in a slot is such
abbrev pub LeftInSlot : DiskState → Slot → (List ℕ → Type 0) → Type 0
LeftInSlot disk slot P = (image : Image) → disk.may_leave image → P (in_slot slot image)

-- What a stop leaves in a slot, by what is known of its byte 0, where its records are these. Where they are not known,
-- the slot is settled, or its byte 0 is closed, or nothing is said.
abbrev pub IsAsideOn : DiskState → Slot → Aside → Option (List (List ℕ)) → Type 0
IsAsideOn disk slot Settled None = IsSettled slot disk
IsAsideOn disk slot Settled (Some payloads) = LeftInSlot disk slot (HasRecords payloads)
IsAsideOn disk slot Closed None = LeftInSlot disk slot (HasRecords [])
IsAsideOn disk slot Closed (Some payloads) = LeftInSlot disk slot (HasRecords []) × (payloads ≡ [])
IsAsideOn disk slot Unsettled None = Unit {0}
IsAsideOn disk slot Unsettled (Some payloads) = LeftInSlot disk slot (HasRecordsIfOpen payloads)
IsAsideOn disk slot Doubted None = Unit {0}
IsAsideOn disk slot Doubted (Some payloads) = LeftInSlot disk slot (HasRecordsIfOpen payloads)

-- whether byte 0 is in doubt
abbrev pub is_doubted : Aside → Bool
is_doubted Settled = false
is_doubted Closed = false
is_doubted Unsettled = false
is_doubted Doubted = true

-- A gate is in doubt, that of the log or that of the slot aside, only where its journal has counted a fault.
abbrev pub IsCounted : Bool → Aside → ℕ → Type 0
IsCounted doubt aside faults = (doubt || is_doubted aside) ≡ true → 1 ≤ faults

-- the records once a byte 0 in doubt is closed
abbrev pub records_settled : Aside → Option (List (List ℕ)) → Option (List (List ℕ))
records_settled Settled records = records
records_settled Closed records = records
records_settled Unsettled records = records
records_settled Doubted records = Some []

-- a slot has these records or none; nothing where they are not known
abbrev pub HasRecordsOrNone : Option (List (List ℕ)) → List ℕ → Type 0
HasRecordsOrNone None bytes = Unit {0}
HasRecordsOrNone (Some payloads) bytes = HasRecords payloads bytes ⊎ HasRecords [] bytes
