-- Reading the records of a slot, one after another.
use Rattle.std.proofs.Common.{◌≡◌, ◌⊎◌, inl, inr, ℕ, ◌+◌, ◌≤◌, List, [], ◌∷◌, ◌++◌, length, refl, sym, ◌∙◌, ap, arith, length-append, get_or, take, drop, ◌-◌}
use Rattle.std.proofs.lemmas.List.{append-nil, take_all}
use Rattle.std.proofs.lemmas.List.Elements.{All-nil}
use Rattle.std.proofs.lemmas.Grind.{flat_map-append}
use Rattle.tsdb_base.specs.Fields.{number32}
use Rattle.tsdb_frames.specs.declared.record.Frame.{Frame}
use Rattle.tsdb_frames.specs.Slots.{IsPayload, with_length, open_records, BeginsWithPayload, IsTorn, IsTornBehind, payloads_of, ArePlaced}

-- one record more, behind the others
pub open_records_more : (payloads : List (List ℕ)) (payload : List ℕ)
    → open_records (payloads ++ (payload ∷ [])) ≡ open_records payloads ++ (1 ∷ with_length payload)
open_records_more payloads payload =
    flat_map-append (λ (p : List ℕ). 1 ∷ with_length p) payloads (payload ∷ [])
    ∙ ap (λ (l : List ℕ). open_records payloads ++ l) (append-nil (1 ∷ with_length payload))

pub length-with_length : (payload : List ℕ) → length (with_length payload) ≡ 4 + length payload
length-with_length payload = length-append (number32 (length payload)) payload

-- an element of a list with one more at its end is that one, or an element before it
split_last : {X : Type 0} (xs before after : List X) (x y : X) → xs ++ (x ∷ []) ≡ before ++ (y ∷ after)
    → ((before ≡ xs) × (y ≡ x)) ⊎ ((more : List X) × (xs ≡ before ++ (y ∷ more)))
split_last [] [] after x y same = inl (refl, cc)
split_last [] (b ∷ []) after x y same = absurd cc
split_last [] (b ∷ c ∷ before) after x y same = absurd cc
split_last (a ∷ xs) [] after x y same = inr (xs, cc)
split_last (a ∷ xs) (b ∷ before) after x y same =
    let heads : a ≡ b = cc in
    let tails : xs ++ (x ∷ []) ≡ before ++ (y ∷ after) = cc in
    elim (split_last xs before after x y tails) [
      | inl last ↦ let front = last.0 in let back = last.1 in inl (cc, back)
      | inr earlier ↦ let more = earlier.0 in let front = earlier.1 in inr (more, cc)
    ]

pub places_more : (frames : List Frame) (new : Frame) → ArePlaced frames → new.at ≡ length (open_records (payloads_of frames))
    → ArePlaced (frames ++ (new ∷ []))
places_more frames new placed at before after frame same = elim (split_last frames before after new frame same) [
  | inl last ↦ ap (λ (f : Frame). f.at) last.1 ∙ at ∙ ap (λ (l : List Frame). length (open_records (payloads_of l))) (sym last.0)
  | inr earlier ↦ placed before earlier.0 frame earlier.1
]

-- where no record stands behind an open first gate, the slot is torn at 0
pub torn_at_first : (bytes behind : List ℕ) → bytes ≡ 1 ∷ behind → ((payload after : List ℕ) → ¬ BeginsWithPayload behind payload after) → IsTorn 0 bytes
torn_at_first bytes behind is none = inl (record {
  payloads = [];
  fit = All-nil IsPayload;
  behind = behind;
  split = is;
  place = refl;
  broken = none;
})

-- a slot that is torn behind records is torn
pub torn_behind : (payloads : List (List ℕ)) (at : ℕ) (bytes : List ℕ) → IsTornBehind payloads at bytes → IsTorn at bytes
torn_behind payloads at bytes (inl torn) = inl torn.0
torn_behind payloads at bytes (inr empty) = inr (empty.1, empty.2)

-- bytes whose first is a gate are this gate and the rest
pub gate_first : (rest : List ℕ) (n gate : ℕ) → n ≡ length rest → 1 ≤ length rest → get_or rest 0 0 ≡ gate
    → rest ≡ gate ∷ take (n - 1) (drop 1 rest)
gate_first [] n gate long some first = absurd (omega arith)
gate_first (x ∷ rest) n gate long some first =
    let here : x ≡ gate = first in
    let whole : take (n - 1) rest ≡ rest = take_all (n - 1) rest (omega (arith, long)) in
    cc
