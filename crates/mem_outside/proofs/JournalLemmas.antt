-- Each counted call of the journal in memory does to its state what a call of a journal may do.
use Rattle.std.proofs.Common.{◌≡◌, ◌⊎◌, ℕ, ◌+◌, ◌≤◌, min, Bool, true, false, List, [], ◌∷◌, ◌++◌, length, take, refl, sym, ap, ◌∙◌, inl, inr, arith, subst}
use Rattle.std.specs.Prelude.{if◌then◌else◌, Some, Result, Ok, Err, OnOk, is_ok}
use Rattle.tsdb_outside.specs.declared.faults.Failed.{Failed}
use Rattle.std.proofs.lemmas.List.{take-append-le, take_all}
use Rattle.std.proofs.lemmas.Bool.{cases_lt}
use Rattle.std.proofs.lemmas.List.Sums.{fold-append}
use Rattle.std.proofs.lemmas.Grind.{common_steps}
use Rattle.tsdb_outside.specs.Disk.{Image, DiskState, in_slot, with_slot, overwrite, Overwrites, Torn, TornIn, WhereTold, FollowsStep, NothingNew, Elapses, Keeps, MayWrite}
use Rattle.tsdb_outside.specs.declared.disk.Slot.{Slot}
use Rattle.tsdb_outside.specs.declared.disk.Slot.TheVariants.{A, B}
use Rattle.tsdb_outside.proofs.DiskLemmas.{Elapses-same, Keeps-same, Torn-same, TornIn-same, Torn-overwrite}
use Rattle.mem_outside.specs.declared.record.Call.{Call}
use Rattle.mem_outside.specs.declared.record.RecordedDisk.{RecordedDisk}
use Rattle.mem_outside.specs.Laws.{SeenMayStay, seen_stays}
use Rattle.mem_outside.specs.Record.{SlotState, new_slot, after_write, after_sync, after_kind, after_call, after_calls, LeavesBytes, seen_after, LeavesOf, LeftSince, disk_after}
use Rattle.mem_outside.specs.RecordedDisk.{disk_seen, disk_first, disk_calls, disk_state, RecordsCall, SameRecord}

-- a call is recorded, or there was no room for it
abbrev pub Ends : Slot → (SlotState → SlotState) → RecordedDisk → RecordedDisk → Type 0
Ends slot effect old new = RecordsCall slot effect old new ⊎ SameRecord old new

-- a call changes its own slot alone
own_slot : (slot : Slot) (s : SlotState) (call : Call) → call.slot ≡ slot → after_call slot s call ≡ after_kind call.kind call.succeeded s
own_slot A s call own = rw own refl
own_slot B s call own = rw own refl

-- the record before the newest call, and with it
module _ (first : Image) (calls : List Call) (call : Call) where
  shorter : (k : ℕ) → k ≤ length calls → take k (calls ++ call ∷ []) ≡ take k calls
  shorter k within = take-append-le k calls (call ∷ []) within

  longer : length (calls ++ call ∷ []) ≡ length calls + 1
  longer = grind (arith, common_steps)

  call_elapses : Elapses (disk_after first calls) (disk_after first (calls ++ call ∷ []))
      (disk_after first (calls ++ call ∷ [])).may_leave
  call_elapses = record {
    later = omega (arith, longer);
    nothing_else = λ t image le left. since t image left;
    keeps = λ t image le left.
        (left.0, left.1, omega (arith, longer, left.2), subst (λ l. LeavesOf first l image) (sym (shorter left.0 left.2)) left.3);
  } where
    since : (t : ℕ) (image : Image) → LeftSince first (calls ++ call ∷ []) t image → LeftSince first calls t image ⊎ LeavesOf first (calls ++ call ∷ []) image
    since t image left = elim (cases_lt (length calls) left.0) [
      | inl over ↦ inr (subst (λ l. LeavesOf first l image) (take_all left.0 (calls ++ call ∷ []) (omega (arith, longer, over))) left.3)
      | inr within ↦ inl (left.0, left.1, within, subst (λ l. LeavesOf first l image) (shorter left.0 within) left.3)
    ]

module _ (first : Image) (calls : List Call) (call : Call) (effect : SlotState → SlotState)
    (does : (s : SlotState) → after_kind call.kind call.succeeded s ≡ effect s) where
  own_after : (slot : Slot) (bytes : List ℕ) → call.slot ≡ slot → after_calls slot bytes (calls ++ call ∷ []) ≡ effect (after_calls slot bytes calls)
  own_after slot bytes own =
      fold-append (after_call slot) (new_slot bytes) calls (call ∷ []) ∙ own_slot slot (after_calls slot bytes calls) call own ∙ does (after_calls slot bytes calls)

  a_stays : (bytes : List ℕ) → call.slot ≡ B → after_calls A bytes (calls ++ call ∷ []) ≡ after_calls A bytes calls
  a_stays bytes own = fold-append (after_call A) (new_slot bytes) calls (call ∷ []) ∙ rw own refl

  b_stays : (bytes : List ℕ) → call.slot ≡ A → after_calls B bytes (calls ++ call ∷ []) ≡ after_calls B bytes calls
  b_stays bytes own = fold-append (after_call B) (new_slot bytes) calls (call ∷ []) ∙ rw own refl

  -- reads of the other slot give the same
  seen_after_call : (slot : Slot) → call.slot ≡ slot
      → seen_after first (calls ++ call ∷ []) ≡ with_slot slot (effect (after_calls slot (in_slot slot first) calls)).seen (seen_after first calls)
  seen_after_call A own = simp (own_after A first.a own, b_stays first.b own)
  seen_after_call B own = simp (own_after B first.b own, a_stays first.a own)

-- the bytes of a slot that the record makes are those that a read gives
in_seen : (slot : Slot) (first : Image) (calls : List Call) → (after_calls slot (in_slot slot first) calls).seen ≡ in_slot slot (seen_after first calls)
in_seen A first calls = refl
in_seen B first calls = refl

-- a write
module _ (first : Image) (calls : List Call) (call : Call) (at : ℕ) (bytes : List ℕ) (succeeded : Bool)
    (does : (s : SlotState) → after_kind call.kind call.succeeded s ≡ after_write at bytes succeeded s) where
  write_seen : (slot : Slot) → call.slot ≡ slot → at ≤ length (in_slot slot (seen_after first calls))
      → seen_after first (calls ++ call ∷ []) ≡ with_slot slot (if succeeded then overwrite at bytes (in_slot slot (seen_after first calls))
      else in_slot slot (seen_after first calls)) (seen_after first calls)
  write_seen slot own within =
      let old : Image = seen_after first calls in
      let start : min at (length (in_slot slot old)) ≡ at = omega arith in
      seen_after_call first calls call (after_write at bytes succeeded) does slot own
      ∙ ap (λ (l : List ℕ). with_slot slot (if succeeded then overwrite (min at (length l)) bytes l else l) old) (in_seen slot first calls)
      ∙ ap (λ (n : ℕ). with_slot slot (if succeeded then overwrite n bytes (in_slot slot old) else in_slot slot old) old) start

  cut_at : (s : SlotState) (before new : List ℕ) → at ≤ length s.seen → Torn (min at (length s.seen)) (length bytes) before new → Torn at (length bytes) before new
  cut_at s before new within torn =
      let start : min at (length s.seen) ≡ at = omega arith in
      subst (λ n. Torn n (length bytes) before new) start torn

  write_follows : (slot : Slot) → call.slot ≡ slot → at ≤ length (in_slot slot (seen_after first calls))
      → FollowsStep (TornIn slot at (length bytes)) (LeavesOf first calls) (LeavesOf first (calls ++ call ∷ []))
  write_follows A own within image left =
      let s : SlotState = after_calls A first.a calls in
      let a : LeavesBytes ((min at (length s.seen), bytes) ∷ s.pending) s.durable image.a =
      subst (λ (t : SlotState). LeavesBytes t.pending t.durable image.a) (own_after first calls call (after_write at bytes succeeded) does A first.a own) left.0 in
      let b : LeavesBytes (after_calls B first.b calls).pending (after_calls B first.b calls).durable image.b =
      subst (λ (t : SlotState). LeavesBytes t.pending t.durable image.b) (b_stays first calls call (after_write at bytes succeeded) does first.b own) left.1 in
      (record { a = a.0; b = image.b }, (a.1, b), record { here = cut_at s a.0 image.a within a.2; elsewhere = refl })
  write_follows B own within image left =
      let s : SlotState = after_calls B first.b calls in
      let b : LeavesBytes ((min at (length s.seen), bytes) ∷ s.pending) s.durable image.b =
      subst (λ (t : SlotState). LeavesBytes t.pending t.durable image.b) (own_after first calls call (after_write at bytes succeeded) does B first.b own) left.1 in
      let a : LeavesBytes (after_calls A first.a calls).pending (after_calls A first.a calls).durable image.a =
      subst (λ (t : SlotState). LeavesBytes t.pending t.durable image.a) (a_stays first calls call (after_write at bytes succeeded) does first.a own) left.0 in
      (record { a = image.a; b = b.0 }, (a, b.1), record { here = cut_at s b.0 image.b within b.2; elsewhere = refl })

  write_torn : (slot : Slot) → call.slot ≡ slot → at ≤ length (in_slot slot (seen_after first calls))
      → TornIn slot at (length bytes) (seen_after first calls) (seen_after first (calls ++ call ∷ []))
  write_torn slot own within =
      subst (λ (i : Image). TornIn slot at (length bytes) (seen_after first calls) i) (sym (write_seen slot own within))
      (torn_in slot (seen_after first calls) (if succeeded then overwrite at bytes (in_slot slot (seen_after first calls)) else in_slot slot (seen_after first calls))
      (torn_if succeeded (in_slot slot (seen_after first calls)) within)) where
        torn_in : (slot : Slot) (old : Image) (new : List ℕ) → Torn at (length bytes) (in_slot slot old) new
            → TornIn slot at (length bytes) old (with_slot slot new old)
        torn_in A old new torn = record { here = torn; elsewhere = refl }
        torn_in B old new torn = record { here = torn; elsewhere = refl }

        torn_if : (d : Bool) (old : List ℕ) → at ≤ length old → Torn at (length bytes) old (if d then overwrite at bytes old else old)
        torn_if true old within = Torn-overwrite at bytes old within
        torn_if false old within = Torn-same at (length bytes) old

-- a sync
module _ (first : Image) (calls : List Call) (call : Call) (succeeded : Bool)
    (does : (s : SlotState) → after_kind call.kind call.succeeded s ≡ after_sync succeeded s) where
  left_before : (d : Bool) (s : SlotState) (bytes : List ℕ) → SeenMayStay s → LeavesBytes (after_sync d s).pending (after_sync d s).durable bytes → LeavesBytes s.pending s.durable bytes
  left_before true s bytes seen left = subst (λ (l : List ℕ). LeavesBytes s.pending s.durable l) (sym left) seen
  left_before false s bytes seen left = left

  sync_nothing_new : (slot : Slot) → call.slot ≡ slot → NothingNew (LeavesOf first calls) (LeavesOf first (calls ++ call ∷ []))
  sync_nothing_new A own image left = (
    left_before succeeded (after_calls A first.a calls) image.a (seen_stays A first.a calls)
        (subst (λ (t : SlotState). LeavesBytes t.pending t.durable image.a) (own_after first calls call (after_sync succeeded) does A first.a own) left.0),
    subst (λ (t : SlotState). LeavesBytes t.pending t.durable image.b) (b_stays first calls call (after_sync succeeded) does first.b own) left.1,
  )
  sync_nothing_new B own image left = (
    subst (λ (t : SlotState). LeavesBytes t.pending t.durable image.a) (a_stays first calls call (after_sync succeeded) does first.a own) left.0,
    left_before succeeded (after_calls B first.b calls) image.b (seen_stays B first.b calls)
        (subst (λ (t : SlotState). LeavesBytes t.pending t.durable image.b) (own_after first calls call (after_sync succeeded) does B first.b own) left.1),
  )

  sync_seen : (slot : Slot) → call.slot ≡ slot → seen_after first (calls ++ call ∷ []) ≡ seen_after first calls
  sync_seen slot own = seen_after_call first calls call (after_sync succeeded) does slot own ∙ same slot succeeded where
    same : (slot : Slot) (d : Bool) → with_slot slot (after_sync d (after_calls slot (in_slot slot first) calls)).seen (seen_after first calls) ≡ seen_after first calls
    same A true = refl
    same A false = refl
    same B true = refl
    same B false = refl

-- what holds of the state after these calls holds of a disk with this record
of_disk : (P : DiskState → Type 0) (disk : RecordedDisk) (first : Image) (calls : List Call) → disk_first disk ≡ first → disk_calls disk ≡ calls
    → P (disk_after first calls) → P (disk_state disk)
of_disk P disk first calls same_first same_calls holds =
    subst (λ (f : Image). P (disk_after f (disk_calls disk))) (sym same_first)
    (subst (λ (l : List Call). P (disk_after first l)) (sym same_calls) holds)

pub write_may : (slot : Slot) (at : ℕ) (bytes : List ℕ) (succeeded : Bool) (old new : RecordedDisk)
    → Ends slot (after_write at bytes succeeded) old new → at ≤ length (in_slot slot (disk_seen old))
    → MayWrite slot at (length bytes) (disk_state old) (disk_state new)
write_may slot at bytes succeeded old new (inl made) within =
    of_disk (MayWrite slot at (length bytes) (disk_state old)) new (disk_first old) (disk_calls old ++ made.call ∷ []) made.first made.calls (record {
      torn = write_torn (disk_first old) (disk_calls old) made.call at bytes succeeded made.does slot made.own within;
      crash = write_follows (disk_first old) (disk_calls old) made.call at bytes succeeded made.does slot made.own within;
      time = call_elapses (disk_first old) (disk_calls old) made.call;
    })
write_may slot at bytes succeeded old new (inr same) within =
    of_disk (MayWrite slot at (length bytes) (disk_state old)) new (disk_first old) (disk_calls old) same.first same.calls (record {
      torn = TornIn-same slot at (length bytes) (disk_seen old);
      crash = λ image left. (image, left, TornIn-same slot at (length bytes) image);
      time = Elapses-same (disk_state old) (disk_state old).may_leave;
    })

pub write_bytes : (slot : Slot) (at : ℕ) (bytes : List ℕ) (old new : RecordedDisk)
    → RecordsCall slot (after_write at bytes true) old new → at ≤ length (in_slot slot (disk_seen old))
    → WhereTold (Overwrites slot at bytes) (disk_state old).seen (disk_state new).seen
write_bytes slot at bytes old new made within =
    of_disk (λ (s : DiskState). WhereTold (Overwrites slot at bytes) (disk_state old).seen s.seen) new (disk_first old) (disk_calls old ++ made.call ∷ [])
    made.first made.calls (write_seen (disk_first old) (disk_calls old) made.call at bytes true made.does slot made.own within)

pub sync_keeps : (slot : Slot) (succeeded : Bool) (old new : RecordedDisk) → Ends slot (after_sync succeeded) old new
    → Keeps (disk_state old) (disk_state new)
sync_keeps slot succeeded old new (inl made) =
    of_disk (Keeps (disk_state old)) new (disk_first old) (disk_calls old ++ made.call ∷ []) made.first made.calls (record {
      seen = ap (λ (i : Image). Some i) (sync_seen (disk_first old) (disk_calls old) made.call succeeded made.does slot made.own);
      crash = sync_nothing_new (disk_first old) (disk_calls old) made.call succeeded made.does slot made.own;
      time = call_elapses (disk_first old) (disk_calls old) made.call;
    })
sync_keeps slot succeeded old new (inr same) =
    of_disk (Keeps (disk_state old)) new (disk_first old) (disk_calls old) same.first same.calls (Keeps-same (disk_state old))

-- what holds of a write that succeeded, at the call that made it
pub bytes_where_ok : (slot : Slot) (at : ℕ) (bytes : List ℕ) (old new : RecordedDisk) (due : Result (Unit {0}) Failed) (succeeded : Bool)
    → succeeded ≡ is_ok due → RecordsCall slot (after_write at bytes succeeded) old new → at ≤ length (in_slot slot (disk_seen old))
    → OnOk due (WhereTold (Overwrites slot at bytes) (disk_state old).seen (disk_state new).seen)
bytes_where_ok slot at bytes old new (Ok v) succeeded same made within =
    write_bytes slot at bytes old new (subst (λ (b : Bool). RecordsCall slot (after_write at bytes b) old new) same made) within
bytes_where_ok slot at bytes old new (Err e) succeeded same made within = tt

-- what holds in any case holds where a result is `Ok`
pub always_where_ok : {P : Type 0} (due : Result (Unit {0}) Failed) → P → OnOk due P
always_where_ok (Ok v) holds = holds
always_where_ok (Err e) holds = tt
