-- What each kind of stop leaves is one of the things that a stop may leave.
use Rattle.std.proofs.Common.{◌≡◌, ℕ, ◌-◌, ◌≤◌, min, Bool, true, false, List, [], ◌∷◌, length, None, Some, refl, sym, arith, subst}
use Rattle.std.specs.Prelude.{if◌then◌else◌, Result, Ok, Err, IfOk, IfSome}
use Rattle.std.specs.declared.option.Option.{Option}
use Rattle.tsdb_base.specs.declared.fault.Memory.{Memory}
use Rattle.std.proofs.lemmas.List.{length-map}
use Rattle.tsdb_outside.specs.Disk.{Image, overwrite, Torn}
use Rattle.tsdb_outside.specs.declared.disk.Slot.{Slot}
use Rattle.tsdb_outside.specs.declared.disk.Slot.TheVariants.{A, B}
use Rattle.tsdb_outside.proofs.DiskLemmas.{Torn-same, Torn-overwrite, length-overwrite}
use Rattle.mem_outside.specs.declared.record.Call.{Call}
use Rattle.mem_outside.specs.declared.record.Kind.{Kind}
use Rattle.mem_outside.specs.declared.record.Kind.TheVariants.{Write, Sync}
use Rattle.mem_outside.specs.declared.record.StopKind.{StopKind}
use Rattle.mem_outside.specs.declared.record.StopKind.TheVariants.{Written, Unwritten, Scrambled}
use Rattle.mem_outside.specs.declared.journal.MemJournal.{MemJournal}
use Rattle.mem_outside.specs.declared.place.MemPlace.{MemPlace}
use Rattle.mem_outside.specs.Journal.{journal_first, journal_calls}
use Rattle.mem_outside.specs.Laws.{kept_by_calls}
use Rattle.std.specs.List.{take_while}
use Rattle.mem_outside.specs.RecordedDisk.{is_call_until}
use Rattle.mem_outside.specs.Place.{place_state, LeftAt, stop_image}
use Rattle.mem_outside.specs.Record.{SlotState, new_slot, after_kind, after_calls, LeavesBytes, invert, apply_all, LeavesOf, slot_after_stop, image_after_stop}

-- without a sync a stop may leave what the last one made durable
leaves_durable : (pending : List (ℕ × List ℕ)) (durable : List ℕ) → LeavesBytes pending durable durable
leaves_durable [] durable = refl
leaves_durable (write ∷ older) durable = (durable, leaves_durable older durable, Torn-same write.0 (length write.1) durable)

-- what this kind of stop leaves is one of the things that a stop may leave, and is no shorter than what a read gives
record Fits (kind : StopKind) (s : SlotState) : Type 0 where
  left : LeavesBytes s.pending s.durable (apply_all kind s.pending s.durable)
  as_long : length s.seen ≤ length (apply_all kind s.pending s.durable)

-- one write more, made with other bytes of the same number
left_by_write : (at : ℕ) (bytes others seen c durable : List ℕ) (older : List (ℕ × List ℕ)) → length others ≡ length bytes
    → LeavesBytes older durable c → length seen ≤ length c
    → LeavesBytes ((min at (length seen), bytes) ∷ older) durable (overwrite (min (min at (length seen)) (length c)) others c)
left_by_write at bytes others seen c durable older same left as_long =
    let start : min (min at (length seen)) (length c) ≡ min at (length seen) = omega arith in
    let torn : Torn (min at (length seen)) (length others) c (overwrite (min at (length seen)) others c) =
    Torn-overwrite (min at (length seen)) others c (omega arith) in
    let cut : Torn (min at (length seen)) (length bytes) c (overwrite (min (min at (length seen)) (length c)) others c) =
    subst (λ n. Torn (min at (length seen)) (length bytes) c (overwrite n others c)) (sym start)
    (subst (λ n. Torn (min at (length seen)) n c (overwrite (min at (length seen)) others c)) same torn) in
    (c, left, cut)

long_after_write : (at : ℕ) (bytes others seen c : List ℕ) (succeeded : Bool) → length others ≡ length bytes → length seen ≤ length c
    → length (if succeeded then overwrite (min at (length seen)) bytes seen else seen)
    ≤ length (overwrite (min (min at (length seen)) (length c)) others c)
long_after_write at bytes others seen c true same as_long =
    omega (arith, length-overwrite (min at (length seen)) bytes seen (omega arith), length-overwrite (min (min at (length seen)) (length c)) others c (omega arith))
long_after_write at bytes others seen c false same as_long =
    omega (arith, length-overwrite (min (min at (length seen)) (length c)) others c (omega arith))

length-invert : (bytes : List ℕ) → length (invert bytes) ≡ length bytes
length-invert bytes = length-map bytes (λ (byte : ℕ). 255 - byte)

written_fits : (kind : Kind) (succeeded : Bool) (s : SlotState) → Fits Written s → Fits Written (after_kind kind succeeded s)
written_fits (Write at bytes) succeeded s fits = record {
  left = left_by_write at bytes.items bytes.items s.seen (apply_all Written s.pending s.durable) s.durable s.pending refl fits.left fits.as_long;
  as_long = long_after_write at bytes.items bytes.items s.seen (apply_all Written s.pending s.durable) succeeded refl fits.as_long;
}
written_fits Sync true s fits = record { left = refl; as_long = omega arith }
written_fits Sync false s fits = fits

scrambled_fits : (kind : Kind) (succeeded : Bool) (s : SlotState) → Fits Scrambled s → Fits Scrambled (after_kind kind succeeded s)
scrambled_fits (Write at bytes) succeeded s fits = record {
  left = left_by_write at bytes.items (invert bytes.items) s.seen (apply_all Scrambled s.pending s.durable) s.durable s.pending (length-invert bytes.items) fits.left fits.as_long;
  as_long = long_after_write at bytes.items (invert bytes.items) s.seen (apply_all Scrambled s.pending s.durable) succeeded (length-invert bytes.items) fits.as_long;
}
scrambled_fits Sync true s fits = record { left = refl; as_long = omega arith }
scrambled_fits Sync false s fits = fits

apply_all-unwritten : (pending : List (ℕ × List ℕ)) (durable : List ℕ) → apply_all Unwritten pending durable ≡ durable
apply_all-unwritten [] durable = refl
apply_all-unwritten (write ∷ older) durable = apply_all-unwritten older durable

slot_left : (kind : StopKind) (slot : Slot) (first : List ℕ) (calls : List Call)
    → LeavesBytes (after_calls slot first calls).pending (after_calls slot first calls).durable (slot_after_stop kind slot first calls)
slot_left Written slot first calls =
    (kept_by_calls (Fits Written) written_fits slot (new_slot first) calls (record { left = refl; as_long = omega arith })).left
slot_left Unwritten slot first calls =
    let s : SlotState = after_calls slot first calls in
    subst (λ bytes. LeavesBytes s.pending s.durable bytes) (sym (apply_all-unwritten s.pending s.durable)) (leaves_durable s.pending s.durable)
slot_left Scrambled slot first calls =
    (kept_by_calls (Fits Scrambled) scrambled_fits slot (new_slot first) calls (record { left = refl; as_long = omega arith })).left

image_left : (kind : StopKind) (first : Image) (calls : List Call) → LeavesOf first calls (image_after_stop kind first calls)
image_left kind first calls = (slot_left kind A first.a calls, slot_left kind B first.b calls)

-- the same of a place whose journal this is
allowed : (kind : StopKind) (journal : Option MemJournal) (k : ℕ) → IfSome (stop_image kind journal k) (LeftAt journal k)
allowed kind None k = tt
allowed kind (Some j) k = image_left kind (journal_first j) (take_while (is_call_until k) (journal_calls j))

pub allowed_after : (kind : StopKind) (journal : Option MemJournal) (k : ℕ) (result : Result MemPlace Memory)
    → IfOk result (λ place. (place_state place).seen ≡ stop_image kind journal k)
    → IfOk result (λ place. IfSome (place_state place).seen (LeftAt journal k))
allowed_after kind journal k (Ok place) seen = subst (λ (o : Option Image). IfSome o (LeftAt journal k)) (sym seen) (allowed kind journal k)
allowed_after kind journal k (Err e) seen = tt
