-- A log is parted in one way into records that are replayed and what stops the replay. So it is replayed to one state
-- at most, it is damaged at one place at most, and a damaged log has no replay.
use Rattle.std.proofs.Common.{◌≡◌, ◌≢◌, ◌⊎◌, inl, inr, ℕ, ◌≤◌, List, [], ◌∷◌, ◌++◌, length, map, refl, sym, ◌∙◌, ap}
use Rattle.std.proofs.Common.{subst, arith, append_assoc, length-append}
use Rattle.std.specs.List.{All}
use Rattle.std.proofs.lemmas.List.Elements.{All-head, All-tail}
use Rattle.tsdb_base.specs.Fields.{number32}
use Rattle.tsdb_base.specs.FieldLaws.{number32-prefix_free}
use Rattle.tsdb_base.specs.PlainLaws.{same_front}
use Rattle.tsdb_frames.specs.Slots.{IsPayload, open_records, with_length}
use Rattle.tsdb_log.specs.Spelling.{IsRecord, spelling}
use Rattle.tsdb_log.specs.declared.record.LogRecord.{LogRecord}
use Rattle.tsdb_log.proofs.Bodies.{record_rows}
use Rattle.tsdb_state.specs.Damage.{IsDamaged, IsDamagedAtGate, IsTornRest, IsUnreplayable}
use Rattle.tsdb_state.specs.Replays.{IsDeterminate, IsReplayOf, Replays, RecordSteps}

-- two records with one spelling are one
same_item : (a b : LogRecord) → IsRecord a → IsRecord b → spelling a ≡ spelling b → a ≡ b
same_item a b is_a is_b e = (record_rows.free a b [] [] is_a is_b (ap (λ (l : List ℕ). l ++ []) e)).0

-- a length is read back
same_payload : (p q x y : List ℕ) → IsPayload p → IsPayload q → with_length p ++ x ≡ with_length q ++ y
    → (p ≡ q) × (x ≡ y)
same_payload p q x y fits_p fits_q same =
    let numbers : number32 (length p) ++ (p ++ x) ≡ number32 (length q) ++ (q ++ y) =
    sym (append_assoc (number32 (length p)) p x)
    ∙ same
    ∙ append_assoc (number32 (length q)) q y in
    let lengths = number32-prefix_free (length p) (length q) (p ++ x) (q ++ y) fits_p.1 fits_q.1 numbers in
    same_front p q x y lengths.0 lengths.1

behind_same : (rest a b : List ℕ) → rest ≡ 1 ∷ a → rest ≡ 1 ∷ b → a ≡ b
behind_same rest a b x y = cc

-- one record and the next ones
record_first : (p : List ℕ) (ps : List (List ℕ)) (rest : List ℕ)
    → open_records (p ∷ ps) ++ rest ≡ 1 ∷ (with_length p ++ (open_records ps ++ rest))
record_first p ps rest = append_assoc (1 ∷ with_length p) (open_records ps) rest

long_rest : (ps : List (List ℕ)) (rest : List ℕ) → 1 ≤ length rest → 1 ≤ length (open_records ps ++ rest)
long_rest ps rest some = omega (arith, length-append (open_records ps) rest)

no_gate_in_none : (ps : List (List ℕ)) (rest : List ℕ) → 1 ≤ length rest → [] ≡ open_records ps ++ rest → ⊥
no_gate_in_none ps rest some same = absurd (omega (arith, ap length same, long_rest ps rest some))

module _ {S : Type 0} (steps : RecordSteps S) where
  -- no record that has a replay begins here
  abbrev Stops : S → List ℕ → Type 0
  Stops state rest = (item : LogRecord) (next : S) (after : List ℕ) → IsRecord item → IsPayload (spelling item) → 1 ≤
      length after → rest ≡ 1 ∷ (with_length (spelling item) ++ after) → ¬ steps.Leads item state next

  stops_closed : (state : S) (gate : ℕ) (rest : List ℕ) → gate ≢ 1 → Stops state (gate ∷ rest)
  stops_closed state gate rest closed item next after is fits some same leads = closed cc

  stops_torn : (state : S) (rest : List ℕ) → IsTornRest rest → Stops state rest
  stops_torn state rest torn item next after is fits some same leads = torn.broken (spelling item) after (record {
    fits = fits;
    split = behind_same rest torn.behind (with_length (spelling item) ++ after) torn.gate same;
    gate = some;
  })

  stops_unreplayable : (state : S) (rest : List ℕ) → IsUnreplayable steps state rest → Stops state rest
  stops_unreplayable state rest bad item next after is fits some same leads =
      let behind = behind_same rest bad.behind (with_length (spelling item) ++ after) bad.gate same in
      let parts = same_payload bad.payload (spelling item) bad.after after bad.whole.fits fits
      (sym bad.whole.split ∙ behind) in
      bad.none item is parts.0 next leads

  broken_stops : (state : S) (rest : List ℕ) → IsTornRest rest ⊎ IsUnreplayable steps state rest → Stops state rest
  broken_stops state rest (inl torn) = stops_torn state rest torn
  broken_stops state rest (inr bad) = stops_unreplayable state rest bad

  broken_some : (state : S) (rest : List ℕ) → IsTornRest rest ⊎ IsUnreplayable steps state rest → 1 ≤ length rest
  broken_some state rest (inl torn) = omega (arith, ap length torn.gate)
  broken_some state rest (inr bad) = omega (arith, ap length bad.gate)

  broken_open : (state : S) (gate : ℕ) (rest : List ℕ)
      → IsTornRest (gate ∷ rest) ⊎ IsUnreplayable steps state (gate ∷ rest) → gate ≡ 1
  broken_open state gate rest (inl torn) = let e : gate ∷ rest ≡ 1 ∷ torn.behind = torn.gate in cc
  broken_open state gate rest (inr bad) = let e : gate ∷ rest ≡ 1 ∷ bad.behind = bad.gate in cc

  -- The same bytes, as records that are replayed and what stops the replay.
  record IsParted (from : S) (bytes : List ℕ) (items : List LogRecord) (state : S) (rest : List ℕ) : Type 0 where
    good : All IsRecord items
    fit : All IsPayload (map spelling items)
    replayed : Replays steps from items state
    split : bytes ≡ open_records (map spelling items) ++ rest
    some : 1 ≤ length rest
    stops : Stops state rest

  stops_first : (from : S) (bytes : List ℕ) (item : LogRecord) (items : List LogRecord) (s t : S) (r q : List ℕ)
      → IsParted from bytes [] s r → IsParted from bytes (item ∷ items) t q → ⊥
  stops_first from bytes item items s t r q none some =
      none.stops item some.replayed.0 (open_records (map spelling items) ++ q) (All-head IsRecord item items some.good)
      (All-head IsPayload (spelling item) (map spelling items) some.fit) (long_rest (map spelling items) q some.some)
      (sym none.split ∙ some.split ∙ record_first (spelling item) (map spelling items) q)
      (subst (λ st. steps.Leads item st some.replayed.0) (sym none.replayed) some.replayed.1)

  module _ (determinate : IsDeterminate steps) where
    parted_once : (from : S) (bytes : List ℕ) (xs ys : List LogRecord) (s t : S) (r q : List ℕ)
        → IsParted from bytes xs s r → IsParted from bytes ys t q → (xs ≡ ys) × (s ≡ t) × (r ≡ q)
    parted_once from bytes [] [] s t r q one two = (refl, one.replayed ∙ sym two.replayed, sym one.split ∙ two.split)
    parted_once from bytes [] (y ∷ ys) s t r q one two = absurd (stops_first from bytes y ys s t r q one two)
    parted_once from bytes (x ∷ xs) [] s t r q one two = absurd (stops_first from bytes x xs t s q r two one)
    parted_once from bytes (x ∷ xs) (y ∷ ys) s t r q one two =
        let a = open_records (map spelling xs) ++ r in
        let b = open_records (map spelling ys) ++ q in
        let gates : 1 ∷ (with_length (spelling x) ++ a) ≡ 1 ∷ (with_length (spelling y) ++ b) =
        sym (record_first (spelling x) (map spelling xs) r)
        ∙ sym one.split
        ∙ two.split
        ∙ record_first (spelling y) (map spelling ys) q in
        let tails : with_length (spelling x) ++ a ≡ with_length (spelling y) ++ b = cc in
        let parts = same_payload (spelling x) (spelling y) a b
        (All-head IsPayload (spelling x) (map spelling xs) one.fit)
        (All-head IsPayload (spelling y) (map spelling ys) two.fit) tails in
        let item : x ≡ y = same_item x y (All-head IsRecord x xs one.good) (All-head IsRecord y ys two.good) parts.0 in
        let next : two.replayed.0 ≡ one.replayed.0 = determinate x from two.replayed.0 one.replayed.0
        (subst (λ i. steps.Leads i from two.replayed.0) (sym item) two.replayed.1) one.replayed.1 in
        let rest = parted_once one.replayed.0 a xs ys s t r q (record {
          good = All-tail IsRecord x xs one.good;
          fit = All-tail IsPayload (spelling x) (map spelling xs) one.fit;
          replayed = one.replayed.2;
          split = refl;
          some = one.some;
          stops = one.stops;
        })
        (record {
          good = All-tail IsRecord y ys two.good;
          fit = All-tail IsPayload (spelling y) (map spelling ys) two.fit;
          replayed = subst (λ st. Replays steps st ys t) next two.replayed.2;
          split = parts.1;
          some = two.some;
          stops = two.stops;
        }) in
        (ap (λ i. i ∷ xs) item ∙ ap (λ l. y ∷ l) rest.0, rest.1, rest.2)

    parted_replay : (bytes : List ℕ) (state : S) (is : IsReplayOf steps bytes state)
        → IsParted steps.new_store bytes is.items state (is.records.gate ∷ is.records.rest)
    parted_replay bytes state is = record {
      good = is.good;
      fit = is.records.fit;
      replayed = is.replayed;
      split = is.records.split;
      some = omega arith;
      stops = stops_closed state is.records.gate is.records.rest is.records.closed;
    }

    parted_damage : (at : ℕ) (bytes : List ℕ) (is : IsDamagedAtGate steps at bytes)
        → IsParted steps.new_store bytes is.items is.state is.rest
    parted_damage at bytes is = record {
      good = is.good;
      fit = is.fit;
      replayed = is.replayed;
      split = is.split;
      some = broken_some is.state is.rest is.broken;
      stops = broken_stops is.state is.rest is.broken;
    }

    -- a log is replayed to one state
    pub replay_once : (bytes : List ℕ) (s t : S) → IsReplayOf steps bytes s → IsReplayOf steps bytes t → s ≡ t
    replay_once bytes s t one two =
        (parted_once steps.new_store bytes one.items two.items s t (one.records.gate ∷ one.records.rest)
        (two.records.gate ∷ two.records.rest) (parted_replay bytes s one) (parted_replay bytes t two)).1

    -- a log is damaged at one place
    pub damaged_once : (at place : ℕ) (bytes : List ℕ) → IsDamaged steps at bytes → IsDamaged steps place bytes
        → at ≡ place
    damaged_once at place bytes (inl one) (inl two) =
        let same = parted_once steps.new_store bytes one.items two.items one.state two.state one.rest two.rest
        (parted_damage at bytes one) (parted_damage place bytes two) in
        one.place ∙ ap (λ (l : List LogRecord). length (open_records (map spelling l))) same.0 ∙ sym two.place
    damaged_once at place bytes (inl one) (inr two) = absurd (no_gate_in_none (map spelling one.items) one.rest
        (broken_some one.state one.rest one.broken) (sym two.1 ∙ one.split))
    damaged_once at place bytes (inr one) (inl two) = absurd (no_gate_in_none (map spelling two.items) two.rest
        (broken_some two.state two.rest two.broken) (sym one.1 ∙ two.split))
    damaged_once at place bytes (inr one) (inr two) = one.0 ∙ sym two.0

    -- a log that is damaged has no replay
    pub damaged_none : (at : ℕ) (bytes : List ℕ) (state : S) → IsDamaged steps at bytes → IsReplayOf steps bytes state
        → ⊥
    damaged_none at bytes state (inl damaged) is =
        let same = parted_once steps.new_store bytes damaged.items is.items damaged.state state damaged.rest
        (is.records.gate ∷ is.records.rest) (parted_damage at bytes damaged) (parted_replay bytes state is) in
        let rests : damaged.rest ≡ is.records.gate ∷ is.records.rest = same.2 in
        is.records.closed (broken_open damaged.state is.records.gate is.records.rest
        (subst (λ l. IsTornRest l ⊎ IsUnreplayable steps damaged.state l) rests damaged.broken))
    damaged_none at bytes state (inr empty) is = no_gate_in_none (map spelling is.items)
        (is.records.gate ∷ is.records.rest) (omega arith) (sym empty.1 ∙ is.records.split)
