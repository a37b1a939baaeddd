-- What writes behind a gate and of a gate leave of a slot.
use Rattle.std.proofs.Common.{◌≡◌, inl, inr, ℕ, ◌+◌, ◌≤◌, List, [], ◌∷◌, ◌++◌, length, take, drop, get_or, sym, ◌∙◌, ap, arith, append_assoc, length-append, take-append-drop, None, Some}
use Rattle.std.specs.declared.option.Option.{Option}
use Rattle.std.specs.List.{All}
use Rattle.std.proofs.lemmas.Bool.{cases_eq}
use Rattle.std.proofs.lemmas.List.{take_at, take-take, drop_at, drop_more}
use Rattle.std.proofs.lemmas.List.Elements.{All-append, All-cons, All-nil}
use Rattle.tsdb_outside.specs.Disk.{Torn, overwrite}
use Rattle.tsdb_frames.specs.Slots.{IsPayload, with_length, frame_bytes, open_records, HasRecords}
use Rattle.tsdb_frames.specs.Log.{HasRecordBehindGate, IsSlotOf, HasRecordsOrOneMore}
use Rattle.tsdb_frames.proofs.RecordLemmas.{open_records_more}

-- bytes that are parted at a place
module _ (front : List ℕ) (gate : ℕ) (rest : List ℕ) (at : ℕ) (place : at ≡ length front) where
  front_is : take at (front ++ (gate ∷ rest)) ≡ front
  front_is = take_at front (gate ∷ rest) at (sym place)

  regroup : front ++ (gate ∷ rest) ≡ (front ++ (gate ∷ [])) ++ rest
  regroup = sym (append_assoc front (gate ∷ []) rest)

  one_more : length (front ++ (gate ∷ [])) ≡ at + 1
  one_more = omega (arith, place, length-append front (gate ∷ []))

  through_gate : take (at + 1) (front ++ (gate ∷ rest)) ≡ front ++ (gate ∷ [])
  through_gate = ap (λ (l : List ℕ). take (at + 1) l) regroup ∙ take_at (front ++ (gate ∷ [])) rest (at + 1) one_more

  behind_gate : drop (at + 1) (front ++ (gate ∷ rest)) ≡ rest
  behind_gate = ap (λ (l : List ℕ). drop (at + 1) l) regroup ∙ drop_at (front ++ (gate ∷ [])) rest (at + 1) one_more

  -- what is torn behind the gate begins as before
  pub torn_behind : (n : ℕ) (old new : List ℕ) → old ≡ front ++ (gate ∷ rest) → Torn (at + 1) n old new
      → new ≡ front ++ (gate ∷ drop (at + 1) new)
  torn_behind n old new is torn =
      sym (take-append-drop (at + 1) new)
      ∙ ap (λ (l : List ℕ). l ++ drop (at + 1) new) (torn.before ∙ ap (λ (l : List ℕ). take (at + 1) l) is ∙ through_gate)
      ∙ append_assoc front (gate ∷ []) (drop (at + 1) new)

  -- what begins as before up to the gate
  pub same_before : (old new : List ℕ) → old ≡ front ++ (gate ∷ rest) → take (at + 1) new ≡ take (at + 1) old
      → new ≡ front ++ (gate ∷ drop (at + 1) new)
  same_before old new is same =
      sym (take-append-drop (at + 1) new)
      ∙ ap (λ (l : List ℕ). l ++ drop (at + 1) new) (same ∙ ap (λ (l : List ℕ). take (at + 1) l) is ∙ through_gate)
      ∙ append_assoc front (gate ∷ []) (drop (at + 1) new)

  -- where the gate is torn the rest is as before
  pub torn_gate : (old new : List ℕ) → old ≡ front ++ (gate ∷ rest) → Torn at 1 old new
      → new ≡ front ++ (get_or new at 0 ∷ rest)
  torn_gate old new is torn =
      let long : at + 1 ≤ length old = omega (arith, ap length is, length-append front (gate ∷ rest), place) in
      let behind : drop at new ≡ get_or new at 0 ∷ rest =
      drop_more new at 0 (omega (arith, long, torn.no_shorter))
      ∙ ap (λ (l : List ℕ). get_or new at 0 ∷ l) (torn.after ∙ ap (λ (l : List ℕ). drop (at + 1) l) is ∙ behind_gate) in
      sym (take-append-drop at new)
      ∙ ap (λ (l : List ℕ). l ++ drop at new) (torn.before ∙ ap (λ (l : List ℕ). take at l) is ∙ front_is)
      ∙ ap (λ (l : List ℕ). front ++ l) behind

  pub written_behind : (bytes old : List ℕ) → old ≡ front ++ (gate ∷ rest)
      → overwrite (at + 1) bytes old ≡ front ++ (gate ∷ (bytes ++ drop (at + 1 + length bytes) old))
  written_behind bytes old is =
      let back = bytes ++ drop (at + 1 + length bytes) old in
      append_assoc (take (at + 1) old) bytes (drop (at + 1 + length bytes) old)
      ∙ ap (λ (l : List ℕ). l ++ back) (ap (λ (l : List ℕ). take (at + 1) l) is ∙ through_gate)
      ∙ append_assoc front (gate ∷ []) back

  pub written_gate : (value : ℕ) (old : List ℕ) → old ≡ front ++ (gate ∷ rest)
      → overwrite at (value ∷ []) old ≡ front ++ (value ∷ rest)
  written_gate value old is =
      append_assoc (take at old) (value ∷ []) (drop (at + 1) old)
      ∙ ap (λ (l : List ℕ). l ++ ((value ∷ []) ++ drop (at + 1) old)) (ap (λ (l : List ℕ). take at l) is ∙ front_is)
      ∙ ap (λ (l : List ℕ). front ++ (value ∷ l)) (ap (λ (l : List ℕ). drop (at + 1) l) is ∙ behind_gate)

-- the acknowledged records, a gate, the bytes of one more record, and a gate behind it
record_more : (acknowledged : List (List ℕ)) (payload rest : List ℕ)
    → open_records acknowledged ++ (1 ∷ (frame_bytes payload ++ rest)) ≡ open_records (acknowledged ++ (payload ∷ [])) ++ (0 ∷ rest)
record_more acknowledged payload rest =
    ap (λ (l : List ℕ). open_records acknowledged ++ (1 ∷ l)) (append_assoc (with_length payload) (0 ∷ []) rest)
    ∙ sym (append_assoc (open_records acknowledged) (1 ∷ with_length payload) (0 ∷ rest))
    ∙ ap (λ (l : List ℕ). l ++ (0 ∷ rest)) (sym (open_records_more acknowledged payload))

module _ (acknowledged : List (List ℕ)) where
  -- with an open gate before it the record counts
  pub record_counts : (payload bytes : List ℕ) (rest : List ℕ) → All IsPayload acknowledged → IsPayload payload
      → bytes ≡ open_records acknowledged ++ (1 ∷ (frame_bytes payload ++ rest)) → HasRecords (acknowledged ++ (payload ∷ [])) bytes
  record_counts payload bytes rest fit fits is = record {
    fit = All-append IsPayload acknowledged (payload ∷ []) fit (All-cons IsPayload payload [] fits (All-nil IsPayload));
    gate = 0;
    rest = rest;
    split = is ∙ record_more acknowledged payload rest;
    closed = omega arith;
  }

  -- a slot of the log has the acknowledged records, or these and the one in doubt
  pub records_or_one_more : (in_doubt : Option (List ℕ)) (bytes : List ℕ) → IsSlotOf acknowledged in_doubt bytes
      → HasRecordsOrOneMore acknowledged in_doubt bytes
  records_or_one_more None bytes slot = slot
  records_or_one_more (Some payload) bytes slot = elim (cases_eq slot.gate 1) [
    | inl is_open ↦ inr (record_counts payload bytes slot.rest slot.fit slot.fits
        (slot.split ∙ ap (λ (g : ℕ). open_records acknowledged ++ (g ∷ (frame_bytes payload ++ slot.rest))) is_open))
    | inr shut ↦ inl (record {
      fit = slot.fit;
      gate = slot.gate;
      rest = frame_bytes payload ++ slot.rest;
      split = slot.split;
      closed = shut;
    })
  ]

  module _ (at : ℕ) (at_is : at ≡ length (open_records acknowledged)) (old new : List ℕ) where
    -- a write behind the closed gate that is cut short
    pub behind_torn : (n : ℕ) → HasRecords acknowledged old → Torn (at + 1) n old new → HasRecords acknowledged new
    behind_torn n slot torn = record {
      fit = slot.fit;
      gate = slot.gate;
      rest = drop (at + 1) new;
      split = torn_behind (open_records acknowledged) slot.gate slot.rest at at_is n old new slot.split torn;
      closed = slot.closed;
    }

    -- and one farther behind it
    pub beyond_torn : (place n : ℕ) → at + 1 ≤ place → HasRecords acknowledged old → Torn place n old new → HasRecords acknowledged new
    beyond_torn place n behind slot torn = record {
      fit = slot.fit;
      gate = slot.gate;
      rest = drop (at + 1) new;
      split = same_before (open_records acknowledged) slot.gate slot.rest at at_is old new slot.split
          (sym (take-take (at + 1) place new behind) ∙ ap (λ (l : List ℕ). take (at + 1) l) torn.before ∙ take-take (at + 1) place old behind);
      closed = slot.closed;
    }

    -- a write of the gate that is cut short
    pub gate_torn : (payload : List ℕ) → HasRecordBehindGate acknowledged payload old → Torn at 1 old new
        → HasRecordBehindGate acknowledged payload new
    gate_torn payload slot torn = record {
      fit = slot.fit;
      fits = slot.fits;
      gate = get_or new at 0;
      rest = slot.rest;
      split = torn_gate (open_records acknowledged) slot.gate (frame_bytes payload ++ slot.rest) at at_is old new slot.split torn;
    }

    -- a record is written behind the closed gate
    pub behind_written : (payload : List ℕ) → IsPayload payload → HasRecords acknowledged old
        → new ≡ overwrite (at + 1) (frame_bytes payload) old → HasRecordBehindGate acknowledged payload new
    behind_written payload fits slot is = record {
      fit = slot.fit;
      fits = fits;
      gate = slot.gate;
      rest = drop (at + 1 + length (frame_bytes payload)) old;
      split = is ∙ written_behind (open_records acknowledged) slot.gate slot.rest at at_is (frame_bytes payload) old slot.split;
    }

    -- the gate is closed
    pub gate_closed : (payload : List ℕ) → HasRecordBehindGate acknowledged payload old → new ≡ overwrite at (0 ∷ []) old
        → HasRecords acknowledged new
    gate_closed payload slot is = record {
      fit = slot.fit;
      gate = 0;
      rest = frame_bytes payload ++ slot.rest;
      split = is ∙ written_gate (open_records acknowledged) slot.gate (frame_bytes payload ++ slot.rest) at at_is 0 old slot.split;
      closed = omega arith;
    }

    -- the gate is opened
    pub gate_opened : (payload : List ℕ) → HasRecordBehindGate acknowledged payload old → new ≡ overwrite at (1 ∷ []) old
        → HasRecords (acknowledged ++ (payload ∷ [])) new
    gate_opened payload slot is = record_counts payload new slot.rest slot.fit slot.fits
        (is ∙ written_gate (open_records acknowledged) slot.gate (frame_bytes payload ++ slot.rest) at at_is 1 old slot.split)
