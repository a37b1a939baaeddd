-- Two slots with the record of their calls.
use Rattle.std.specs.Prelude.{◌≡◌, ℕ, Bool, max, nat_le, List, [], ◌∷◌, ◌++◌}
use Rattle.std.specs.List.{fold}
use Rattle.tsdb_outside.specs.Disk.{Image, DiskState}
use Rattle.tsdb_outside.specs.declared.disk.Slot.{Slot}
use Rattle.mem_outside.specs.declared.record.Call.{Call}
use Rattle.mem_outside.specs.declared.record.RecordedDisk.{RecordedDisk}
use Rattle.mem_outside.specs.Record.{SlotState, after_kind, seen_after, disk_after}
use Rattle.mem_outside.specs.Slots.{pair_image}

-- what the slots had at first
abbrev pub disk_first : RecordedDisk → Image
disk_first disk = pair_image disk.first

-- the calls since then, the oldest first
abbrev pub disk_calls : RecordedDisk → List Call
disk_calls disk = disk.calls.items

-- the call stands in the row at this place or before it
abbrev pub is_call_until : ℕ → Call → Bool
is_call_until moment call = nat_le call.at moment

-- the greatest place in the row of these calls, or 0
abbrev pub last_of_calls : List Call → ℕ
last_of_calls calls = fold (λ last call. max last call.at) 0 calls

-- what reads give
abbrev pub disk_seen : RecordedDisk → Image
disk_seen disk = seen_after (disk_first disk) (disk_calls disk)

-- what the disk means
abbrev pub disk_state : RecordedDisk → DiskState
disk_state disk = disk_after (disk_first disk) (disk_calls disk)

-- there is one call more, which does this to its slot
pub record RecordsCall (slot : Slot) (effect : SlotState → SlotState) (old new : RecordedDisk) : Type 0 where
  pub call : Call
  pub own : call.slot ≡ slot
  pub does : (s : SlotState) → after_kind call.kind call.succeeded s ≡ effect s
  pub calls : disk_calls new ≡ disk_calls old ++ call ∷ []
  pub first : disk_first new ≡ disk_first old

-- the record is as it was
pub record SameRecord (old new : RecordedDisk) : Type 0 where
  pub calls : disk_calls new ≡ disk_calls old
  pub first : disk_first new ≡ disk_first old
