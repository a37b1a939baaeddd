-- What a record of writes and syncs stands for in one slot, and what a stop may leave of it.
use Rattle.std.specs.Prelude.{◌≡◌, ℕ, ◌-◌, ◌≤◌, min, Bool, true, false, List, [], ◌∷◌, length, take, map, Some}
use Rattle.std.specs.Prelude.{if◌then◌else◌}
use Rattle.std.specs.List.{fold}
use Rattle.tsdb_outside.specs.Disk.{Image, DiskState, overwrite, Torn}
use Rattle.tsdb_outside.specs.declared.disk.Slot.{Slot}
use Rattle.tsdb_outside.specs.declared.disk.Slot.TheVariants.{A, B}
use Rattle.mem_outside.specs.declared.record.Call.{Call}
use Rattle.mem_outside.specs.declared.record.Kind.{Kind}
use Rattle.mem_outside.specs.declared.record.Kind.TheVariants.{Write, Sync}
use Rattle.mem_outside.specs.declared.record.StopKind.{StopKind}
use Rattle.mem_outside.specs.declared.record.StopKind.TheVariants.{Written, Unwritten, Scrambled}

-- a slot: what a read gives, what its last sync made durable, and the writes since then, the newest first
pub record SlotState : Type 0 where
  pub seen : List ℕ
  pub durable : List ℕ
  pub pending : List (ℕ × List ℕ)

-- a slot with these bytes, all of them durable
abbrev pub new_slot : List ℕ → SlotState
new_slot bytes = record { seen = bytes; durable = bytes; pending = [] }

-- after a write, which begins at the end of the slot at the latest; one that failed is pending all the same
abbrev pub after_write : ℕ → List ℕ → Bool → SlotState → SlotState
after_write at bytes succeeded s = record {
  seen = if succeeded then overwrite (min at (length s.seen)) bytes s.seen else s.seen;
  durable = s.durable;
  pending = (min at (length s.seen), bytes) ∷ s.pending;
}

-- after a sync; one that failed makes nothing durable
abbrev pub after_sync : Bool → SlotState → SlotState
after_sync true s = new_slot s.seen
after_sync false s = s

abbrev pub after_kind : Kind → Bool → SlotState → SlotState
after_kind (Write at bytes) succeeded s = after_write at bytes.items succeeded s
after_kind Sync succeeded s = after_sync succeeded s

abbrev pub is_slot : Slot → Slot → Bool
is_slot A A = true
is_slot A B = false
is_slot B A = false
is_slot B B = true

-- a slot after a call, which changes its own slot alone
abbrev pub after_call : Slot → SlotState → Call → SlotState
after_call slot s call = if is_slot slot call.slot then after_kind call.kind call.succeeded s else s

-- a slot after these calls
abbrev pub after_calls : Slot → List ℕ → List Call → SlotState
after_calls slot first calls = fold (after_call slot) (new_slot first) calls

-- bytes that a stop may leave: what is durable, with each write since then cut short somehow
abbrev pub LeavesBytes : List (ℕ × List ℕ) → List ℕ → List ℕ → Type 0
LeavesBytes [] durable bytes = bytes ≡ durable
LeavesBytes (write ∷ older) durable bytes =
    (before : List ℕ) × LeavesBytes older durable before × Torn write.0 (length write.1) before bytes

-- each byte with all of its bits turned over
abbrev pub invert : List ℕ → List ℕ
invert bytes = map (λ byte. 255 - byte) bytes

-- a pending write as a stop of this kind leaves it
abbrev pub apply_pending : StopKind → ℕ × List ℕ → List ℕ → List ℕ
apply_pending Written write bytes = overwrite (min write.0 (length bytes)) write.1 bytes
apply_pending Unwritten write bytes = bytes
apply_pending Scrambled write bytes = overwrite (min write.0 (length bytes)) (invert write.1) bytes

-- what a stop of this kind leaves of the durable bytes and the pending writes
abbrev pub apply_all : StopKind → List (ℕ × List ℕ) → List ℕ → List ℕ
apply_all kind [] durable = durable
apply_all kind (write ∷ older) durable = apply_pending kind write (apply_all kind older durable)

-- both slots after these calls, as reads give them
abbrev pub seen_after : Image → List Call → Image
seen_after first calls = record { a = (after_calls A first.a calls).seen; b = (after_calls B first.b calls).seen }

-- a stop after these calls may leave this
abbrev pub LeavesOf : Image → List Call → Image → Type 0
LeavesOf first calls image =
    LeavesBytes (after_calls A first.a calls).pending (after_calls A first.a calls).durable image.a
    × LeavesBytes (after_calls B first.b calls).pending (after_calls B first.b calls).durable image.b

-- a stop after the first t calls, or after more of them, may have left this
abbrev pub LeftSince : Image → List Call → ℕ → Image → Type 0
LeftSince first calls t image = (k : ℕ) × (t ≤ k) × (k ≤ length calls) × LeavesOf first (take k calls) image

-- what the disk means after these calls
abbrev pub disk_after : Image → List Call → DiskState
disk_after first calls = record {
  seen = Some (seen_after first calls);
  may_leave = LeavesOf first calls;
  moment = length calls;
  left_since = LeftSince first calls;
}

-- what a stop of this kind leaves of one slot after these calls
abbrev pub slot_after_stop : StopKind → Slot → List ℕ → List Call → List ℕ
slot_after_stop kind slot first calls =
    apply_all kind (after_calls slot first calls).pending (after_calls slot first calls).durable

-- what a stop of this kind leaves after these calls
abbrev pub image_after_stop : StopKind → Image → List Call → Image
image_after_stop kind first calls =
    record { a = slot_after_stop kind A first.a calls; b = slot_after_stop kind B first.b calls }
