-- A slot has one list of records, or is torn at one place.
use Rattle.std.proofs.Common.{◌≡◌, ◌≢◌, inl, inr, ℕ, ◌≤◌, List, [], ◌∷◌, ◌++◌, length, refl, sym, ◌∙◌, ap, arith}
use Rattle.std.proofs.Common.{append_assoc, length-append}
use Rattle.std.specs.List.{All}
use Rattle.std.proofs.lemmas.List.Elements.{All-head, All-tail}
use Rattle.tsdb_base.specs.Fields.{number32}
use Rattle.tsdb_base.specs.FieldLaws.{number32-prefix_free}
use Rattle.tsdb_base.specs.PlainLaws.{same_front}
use Rattle.tsdb_frames.specs.Slots.{IsPayload, with_length, open_records, HasRecords, BeginsWithPayload, IsTorn}

-- no record begins here: there is no open gate, or no whole record behind it
abbrev Stops : List ℕ → Type 0
Stops rest = (payload after : List ℕ) → IsPayload payload → 1 ≤ length after
    → ¬ (rest ≡ 1 ∷ (with_length payload ++ after))

stops_closed : (gate : ℕ) (rest : List ℕ) → gate ≢ 1 → Stops (gate ∷ rest)
stops_closed gate rest closed payload after fits some same = closed cc

stops_torn : (behind : List ℕ) → ((payload after : List ℕ) → ¬ BeginsWithPayload behind payload after) → Stops (1 ∷ behind)
stops_torn behind broken payload after fits some same =
    broken payload after (record { fits = fits; split = cc; gate = some })

-- one record and the next ones
record_first : (payload : List ℕ) (payloads : List (List ℕ)) (rest : List ℕ)
    → open_records (payload ∷ payloads) ++ rest ≡ 1 ∷ (with_length payload ++ (open_records payloads ++ rest))
record_first payload payloads rest =
    append_assoc (1 ∷ with_length payload) (open_records payloads) rest

long_rest : (payloads : List (List ℕ)) (rest : List ℕ) → 1 ≤ length rest → 1 ≤ length (open_records payloads ++ rest)
long_rest payloads rest some = omega (arith, length-append (open_records payloads) rest)

-- bytes can be parted into records and what stops them in one way alone
same_records : (ps qs : List (List ℕ)) (r s : List ℕ) → All IsPayload ps → All IsPayload qs → 1 ≤ length r
    → 1 ≤ length s → Stops r → Stops s
    → open_records ps ++ r ≡ open_records qs ++ s → (ps ≡ qs) × (r ≡ s)
same_records [] [] r s fit_p fit_q long_r long_s stops_r stops_s same = (refl, same)
same_records [] (q ∷ qs) r s fit_p fit_q long_r long_s stops_r stops_s same =
    absurd (stops_r q (open_records qs ++ s) (All-head IsPayload q qs fit_q) (long_rest qs s long_s)
    (same ∙ record_first q qs s))
same_records (p ∷ ps) [] r s fit_p fit_q long_r long_s stops_r stops_s same =
    absurd (stops_s p (open_records ps ++ r) (All-head IsPayload p ps fit_p) (long_rest ps r long_r)
    (sym same ∙ record_first p ps r))
same_records (p ∷ ps) (q ∷ qs) r s fit_p fit_q long_r long_s stops_r stops_s same =
    let x = open_records ps ++ r in
    let y = open_records qs ++ s in
    let gates : 1 ∷ (with_length p ++ x) ≡ 1 ∷ (with_length q ++ y) =
    sym (record_first p ps r) ∙ same ∙ record_first q qs s in
    let tails : with_length p ++ x ≡ with_length q ++ y = cc in
    let fields : number32 (length p) ++ (p ++ x) ≡ number32 (length q) ++ (q ++ y) =
    sym (append_assoc (number32 (length p)) p x) ∙ tails ∙ append_assoc (number32 (length q)) q y in
    let fits_p = All-head IsPayload p ps fit_p in
    let fits_q = All-head IsPayload q qs fit_q in
    let lengths = number32-prefix_free (length p) (length q) (p ++ x) (q ++ y) fits_p.1 fits_q.1 fields in
    let parts = same_front p q x y lengths.0 lengths.1 in
    let rests = same_records ps qs r s (All-tail IsPayload p ps fit_p) (All-tail IsPayload q qs fit_q) long_r long_s
    stops_r stops_s parts.1 in
    let first : p ≡ q = parts.0 in
    let others : ps ≡ qs = rests.0 in
    (cc, rests.1)

-- a slot has one list of records
pub records_once : (payloads others : List (List ℕ)) (bytes : List ℕ) → HasRecords payloads bytes
    → HasRecords others bytes
    → payloads ≡ others
records_once payloads others bytes one other =
    (same_records payloads others (one.gate ∷ one.rest) (other.gate ∷ other.rest) one.fit other.fit (omega arith)
    (omega arith)
    (stops_closed one.gate one.rest one.closed) (stops_closed other.gate other.rest other.closed)
    (sym one.split ∙ other.split)).0

-- a slot that has records is not torn
pub whole_or_torn : (payloads : List (List ℕ)) (at : ℕ) (bytes : List ℕ) → HasRecords payloads bytes → ¬ IsTorn at bytes
whole_or_torn payloads at bytes whole (inl torn) =
    let same = same_records payloads torn.payloads (whole.gate ∷ whole.rest) (1 ∷ torn.behind) whole.fit torn.fit
    (omega arith) (omega arith)
    (stops_closed whole.gate whole.rest whole.closed) (stops_torn torn.behind torn.broken)
    (sym whole.split ∙ torn.split) in
    let rests : whole.gate ∷ whole.rest ≡ 1 ∷ torn.behind = same.1 in
    whole.closed cc
whole_or_torn payloads at bytes whole (inr empty) =
    absurd (omega (
      arith,
      ap length (sym whole.split ∙ empty.1),
      length-append (open_records payloads) (whole.gate ∷ whole.rest),
    ))

-- and it is torn at one place alone
pub torn_once : (at place : ℕ) (bytes : List ℕ) → IsTorn at bytes → IsTorn place bytes → at ≡ place
torn_once at place bytes (inl torn) (inl other) =
    let same = same_records torn.payloads other.payloads (1 ∷ torn.behind) (1 ∷ other.behind) torn.fit other.fit
    (omega arith) (omega arith)
    (stops_torn torn.behind torn.broken) (stops_torn other.behind other.broken) (sym torn.split ∙ other.split) in
    torn.place ∙ ap (λ (l : List (List ℕ)). length (open_records l)) same.0 ∙ sym other.place
torn_once at place bytes (inl torn) (inr empty) =
    absurd (omega (
      arith,
      ap length (sym torn.split ∙ empty.1),
      length-append (open_records torn.payloads) (1 ∷ torn.behind),
    ))
torn_once at place bytes (inr empty) (inl torn) =
    absurd (omega (
      arith,
      ap length (sym torn.split ∙ empty.1),
      length-append (open_records torn.payloads) (1 ∷ torn.behind),
    ))
torn_once at place bytes (inr empty) (inr other) = empty.0 ∙ sym other.0
