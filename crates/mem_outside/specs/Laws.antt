-- The disk in memory keeps the laws of a disk.
use Rattle.std.specs.Prelude.{◌≡◌, ℕ, ◌≤◌, min, Bool, true, false, if◌then◌else◌, List, [], ◌∷◌, length, unwrap_or}
use Rattle.std.specs.List.{fold}
use Rattle.std.specs.declared.option.Option.{Option}
use Rattle.std.proofs.Common.{subst, sym, refl, ap, arith}
use Rattle.std.proofs.lemmas.List.{take_all}
use Rattle.tsdb_outside.specs.Disk.{Image, IsLawful}
use Rattle.tsdb_outside.specs.declared.disk.Slot.{Slot}
use Rattle.tsdb_outside.specs.declared.disk.Slot.TheVariants.{A, B}
use Rattle.tsdb_outside.proofs.DiskLemmas.{Torn-same, Torn-overwrite}
use Rattle.mem_outside.specs.declared.record.Call.{Call}
use Rattle.mem_outside.specs.declared.record.Kind.{Kind}
use Rattle.mem_outside.specs.declared.record.Kind.TheVariants.{Write, Sync}
use Rattle.mem_outside.specs.Record.{SlotState, new_slot, after_write, after_kind, is_slot, after_call, after_calls}
use Rattle.mem_outside.specs.Record.{LeavesBytes, seen_after, LeavesOf, LeftSince, disk_after}

-- a fact that each kind of call keeps holds after all of them
kept_by_call : (P : SlotState → Type 0)
    → ((kind : Kind) (succeeded : Bool) (s : SlotState) → P s → P (after_kind kind succeeded s))
    → (slot : Slot) (s : SlotState) (call : Call) → P s → P (after_call slot s call)
kept_by_call P step slot s call holds =
    elim (is_slot slot call.slot) as (λ mine. P (if mine then after_kind call.kind call.succeeded s else s)) [
      | true ↦ step call.kind call.succeeded s holds
      | false ↦ holds
    ]

pub kept_by_calls : (P : SlotState → Type 0)
    → ((kind : Kind) (succeeded : Bool) (s : SlotState) → P s → P (after_kind kind succeeded s))
    → (slot : Slot) (s : SlotState) (calls : List Call) → P s → P (fold (after_call slot) s calls)
kept_by_calls P step slot s [] holds = holds
kept_by_calls P step slot s (call ∷ calls) holds =
    kept_by_calls P step slot (after_call slot s call) calls (kept_by_call P step slot s call holds)

-- a stop may leave what a read gives
abbrev pub SeenMayStay : SlotState → Type 0
SeenMayStay s = LeavesBytes s.pending s.durable s.seen

stays_after_write : (at : ℕ) (bytes : List ℕ) (succeeded : Bool) (s : SlotState) → SeenMayStay s
    → SeenMayStay (after_write at bytes succeeded s)
stays_after_write at bytes true s left =
    (s.seen, left, Torn-overwrite (min at (length s.seen)) bytes s.seen (omega arith))
stays_after_write at bytes false s left =
    (s.seen, left, Torn-same (min at (length s.seen)) (length bytes) s.seen)

stays_after_kind : (kind : Kind) (succeeded : Bool) (s : SlotState) → SeenMayStay s
    → SeenMayStay (after_kind kind succeeded s)
stays_after_kind (Write at bytes) succeeded s left = stays_after_write at bytes.items succeeded s left
stays_after_kind Sync true s left = refl
stays_after_kind Sync false s left = left

pub seen_stays : (slot : Slot) (first : List ℕ) (calls : List Call) → SeenMayStay (after_calls slot first calls)
seen_stays slot first calls = kept_by_calls SeenMayStay stays_after_kind slot (new_slot first) calls refl

-- a stop now is a stop since now, and since now there is no other
left_now : (first : Image) (calls : List Call) (t : ℕ) (image : Image) → t ≤ length calls → LeavesOf first calls image
    → LeftSince first calls t image
left_now first calls t image le left = (
  length calls,
  le,
  omega arith,
  subst (λ l. LeavesOf first l image) (sym (take_all (length calls) calls (omega arith))) left,
)

only_left_now : (first : Image) (calls : List Call) (image : Image) → LeftSince first calls (length calls) image
    → LeavesOf first calls image
only_left_now first calls image left = subst (λ l. LeavesOf first l image) (take_all left.0 calls left.1) left.3

pub state_is_lawful : (first : Image) (calls : List Call) → IsLawful (disk_after first calls)
state_is_lawful first calls = record {
  seen_may_stay = λ image told.
      let same : seen_after first calls ≡ image = ap (λ (o : Option Image). unwrap_or o image) told in
      subst (λ (i : Image). LeavesOf first calls i) same (seen_stays A first.a calls, seen_stays B first.b calls);
  counts_now = left_now first calls;
  only_now = only_left_now first calls;
  since_earlier = λ t u image le left. (left.0, omega (arith, le, left.1), left.2, left.3);
}
