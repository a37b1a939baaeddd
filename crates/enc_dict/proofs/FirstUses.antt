-- The different texts of a list, one text more, and what stands at a text's place.
use Rattle.std.proofs.Common.{◌≡◌, ℕ, ◌+◌, ◌<◌, ◌≤◌, Bool, true, false, not, ◌||◌, ◌⊎◌, cond, List, [], ◌∷◌, ◌++◌, length, get_or, refl, sym, ap, ◌∙◌, inl, inr, arith}
use Rattle.std.specs.Prelude.{map, filter, All}
use Rattle.std.specs.List.{list_any, flat_map, AllByRecursion}
use Rattle.std.specs.Str.{bytes_eq}
use Rattle.std.proofs.Common.{one-add}
use Rattle.std.proofs.lemmas.List.{append-nil, map_push}
use Rattle.std.proofs.lemmas.List.Elements.{All-from_recursion, filter-append}
use Rattle.std.proofs.lemmas.List.Concat.{flat_map-append}
use lib.Pointwise.{bytes_decides}
use Rattle.tsdb_base.specs.Plain.{plain_text}
use Rattle.enc_dict.specs.Spelling.{first_uses, place_in}
use Rattle.enc_dict.specs.Steps.{with_text}

-- a test is true or false
pub cases : (b : Bool) → (b ≡ true) ⊎ (b ≡ false)
cases true = inl refl
cases false = inr refl

pub same_text : (a b : List ℕ) → bytes_eq a b ≡ true → a ≡ b
same_text a b e = (bytes_decides a b).0 e

pub text_itself : (a : List ℕ) → bytes_eq a a ≡ true
text_itself a = (bytes_decides a a).1 refl

pub apart_back : (a b : List ℕ) → bytes_eq a b ≡ false → bytes_eq b a ≡ false
apart_back a b apart = elim (cases (bytes_eq b a)) [
  | inl same ↦
      let e : bytes_eq a b ≡ true = ap (bytes_eq a) (same_text b a same) ∙ text_itself a in
      absurd cc
  | inr differs ↦ differs
]

-- the texts that are not this one
abbrev pub others : List ℕ → List (List ℕ) → List (List ℕ)
others text texts = filter (λ other. not (bytes_eq text other)) texts

-- leaving out a text changes nothing for another one
pub any-others : (text u : List ℕ) (texts : List (List ℕ)) → bytes_eq u text ≡ false → list_any (bytes_eq u) (others text texts) ≡ list_any (bytes_eq u) texts
any-others text u [] apart = refl
any-others text u (x ∷ xs) apart = elim (cases (bytes_eq text x)) [
  | inl same ↦
      let x_is : text ≡ x = same_text text x same in
      let not_x : bytes_eq u x ≡ false = ap (bytes_eq u) (sym x_is) ∙ apart in
      rw (same, not_x) (any-others text u xs apart)
  | inr differs ↦ rw differs (ap (λ b. bytes_eq u x || b) (any-others text u xs apart))
]

-- inserting a text commutes with leaving out another one
first_insert : (text t : List ℕ) (ks : List (List ℕ)) → text ∷ others text (with_text ks t) ≡ with_text (text ∷ others text ks) t
first_insert text t ks = elim (cases (bytes_eq t text)) [
  | inl same ↦
      let left_out : bytes_eq text t ≡ true = ap (bytes_eq text) (same_text t text same) ∙ text_itself text in
      elim (cases (list_any (bytes_eq t) ks)) [
        | inl here ↦ rw (same, here) refl
        | inr absent ↦
            let parted : others text (ks ++ t ∷ []) ≡ others text ks ++ others text (t ∷ []) = filter-append (λ other. not (bytes_eq text other)) ks (t ∷ []) in
            let none : others text (t ∷ []) ≡ [] = rw left_out refl in
            let whole : others text (ks ++ t ∷ []) ≡ others text ks = parted ∙ ap (λ (l : List (List ℕ)). others text ks ++ l) none ∙ append-nil (others text ks) in
            rw (same, absent) (ap (λ (l : List (List ℕ)). text ∷ l) whole)
      ]
  | inr differs ↦
      let kept : bytes_eq text t ≡ false = apart_back t text differs in
      let among = any-others text t ks differs in
      elim (cases (list_any (bytes_eq t) ks)) [
        | inl here ↦ rw (differs, among, here) refl
        | inr absent ↦
            let parted : others text (ks ++ t ∷ []) ≡ others text ks ++ others text (t ∷ []) = filter-append (λ other. not (bytes_eq text other)) ks (t ∷ []) in
            let one : others text (t ∷ []) ≡ t ∷ [] = rw kept refl in
            let whole : others text (ks ++ t ∷ []) ≡ others text ks ++ t ∷ [] = parted ∙ ap (λ (l : List (List ℕ)). others text ks ++ l) one in
            rw (differs, among, absent) (ap (λ (l : List (List ℕ)). text ∷ l) whole)
      ]
]

-- the different texts with one text more
pub first_uses_push : (xs : List (List ℕ)) (t : List ℕ) → first_uses (xs ++ t ∷ []) ≡ with_text (first_uses xs) t
unfolding first_uses
first_uses_push [] t = refl
first_uses_push (x ∷ xs) t = ap (λ (ks : List (List ℕ)). x ∷ others x ks) (first_uses_push xs t) ∙ first_insert x t (first_uses xs)

-- each of the texts is among others
abbrev pub AreAmong : List (List ℕ) → List (List ℕ) → Type 0
AreAmong ks us = AllByRecursion (λ u. list_any (bytes_eq u) ks ≡ true) us

still_among : (x : List ℕ) (ks us : List (List ℕ)) → AreAmong ks us → AreAmong (x ∷ others x ks) us
still_among x ks [] h = tt
still_among x ks (u ∷ us) h = (
  elim (cases (bytes_eq u x)) [
    | inl same ↦ rw same refl
    | inr apart ↦ rw apart (any-others x u ks apart ∙ h.0)
  ],
  still_among x ks us h.1,
)

-- each text of a list is among its different texts
pub all_used : (xs : List (List ℕ)) → AreAmong (first_uses xs) xs
unfolding first_uses
all_used [] = tt
all_used (x ∷ xs) = (rw (text_itself x) refl, still_among x (first_uses xs) xs (all_used xs))

pub place_before : (ks : List (List ℕ)) (t u : List ℕ) → list_any (bytes_eq u) ks ≡ true → place_in (ks ++ t ∷ []) u ≡ place_in ks u
place_before [] t u h = absurd cc
place_before (k ∷ ks) t u h = elim (cases (bytes_eq u k)) [
  | inl same ↦ rw same refl
  | inr apart ↦
      let later : list_any (bytes_eq u) ks ≡ true = rw apart at h in
      rw apart (ap (λ (n : ℕ). 1 + n) (place_before ks t u later))
]

pub place_last : (ks : List (List ℕ)) (t : List ℕ) → place_in (ks ++ t ∷ []) t ≡ place_in ks t
place_last [] t = rw (text_itself t) refl
place_last (k ∷ ks) t = elim (cases (bytes_eq t k)) [
  | inl same ↦ rw same refl
  | inr apart ↦ rw apart (ap (λ (n : ℕ). 1 + n) (place_last ks t))
]

place_stays : (ks : List (List ℕ)) (t u : List ℕ) → list_any (bytes_eq u) ks ≡ true → place_in (with_text ks t) u ≡ place_in ks u
place_stays ks t u h = elim (cases (list_any (bytes_eq t) ks)) [ inl here ↦ rw here refl | inr absent ↦ rw absent (place_before ks t u h) ]

pub place_of_new : (ks : List (List ℕ)) (t : List ℕ) → place_in (with_text ks t) t ≡ place_in ks t
place_of_new ks t = elim (cases (list_any (bytes_eq t) ks)) [ inl here ↦ rw here refl | inr absent ↦ rw absent (place_last ks t) ]

places_stay : (ks : List (List ℕ)) (t : List ℕ) (us : List (List ℕ)) → AreAmong ks us → map (place_in (with_text ks t)) us ≡ map (place_in ks) us
places_stay ks t [] h = refl
places_stay ks t (u ∷ us) h =
    let first = place_stays ks t u h.0 in
    let rest = places_stay ks t us h.1 in
    cc

-- the places with one text more
pub places_push : (xs : List (List ℕ)) (t : List ℕ) → map (place_in (first_uses (xs ++ t ∷ []))) (xs ++ t ∷ []) ≡ map (place_in (first_uses xs)) xs ++ place_in (first_uses xs) t ∷ []
places_push xs t =
    let one : map (place_in (with_text (first_uses xs) t)) (xs ++ t ∷ []) ≡ map (place_in (with_text (first_uses xs) t)) xs ++ place_in (with_text (first_uses xs) t) t ∷ [] = map_push (place_in (with_text (first_uses xs) t)) xs t in
    let old = places_stay (first_uses xs) t xs (all_used xs) in
    let new = place_of_new (first_uses xs) t in
    rw first_uses_push (one ∙ rw (old, new) refl)

-- a list's last text is among its different texts
pub last_among : (xs : List (List ℕ)) (w : List ℕ) → list_any (bytes_eq w) (first_uses (xs ++ w ∷ [])) ≡ true
last_among xs w = among_last (first_uses (xs ++ w ∷ [])) xs w (all_used (xs ++ w ∷ []))
  where
    among_last : (ks xs : List (List ℕ)) (w : List ℕ) → AreAmong ks (xs ++ w ∷ []) → list_any (bytes_eq w) ks ≡ true
    among_last ks [] w h = h.0
    among_last ks (x ∷ xs) w h = among_last ks xs w h.1

-- ---- what stands at a place

pub place_within : (ks : List (List ℕ)) (u d : List ℕ) → list_any (bytes_eq u) ks ≡ true → (place_in ks u < length ks) × (get_or ks (place_in ks u) d ≡ u)
place_within [] u d h = absurd cc
place_within (k ∷ ks) u d h = elim (cases (bytes_eq u k)) [
  | inl same ↦ rw same (omega arith, sym (same_text u k same))
  | inr apart ↦
      let later : list_any (bytes_eq u) ks ≡ true = rw apart at h in
      let w = place_within ks u d later in
      rw (apart, one-add) (omega (arith, w.0), w.1)
]

back_by_recursion : (ks us : List (List ℕ)) (d : List ℕ) → AreAmong ks us → map (λ place. get_or ks place d) (map (place_in ks) us) ≡ us
back_by_recursion ks [] d h = refl
back_by_recursion ks (u ∷ us) d h =
    let first = (place_within ks u d h.0).1 in
    let rest = back_by_recursion ks us d h.1 in
    cc

within_by_recursion : (ks us : List (List ℕ)) → AreAmong ks us → AllByRecursion (λ place. place < length ks) (map (place_in ks) us)
within_by_recursion ks [] h = tt
within_by_recursion ks (u ∷ us) h = ((place_within ks u [] h.0).0, within_by_recursion ks us h.1)

-- at the places of a list's texts stand these texts
pub texts_back : (xs : List (List ℕ)) (d : List ℕ) → map (λ place. get_or (first_uses xs) place d) (map (place_in (first_uses xs)) xs) ≡ xs
texts_back xs d = back_by_recursion (first_uses xs) xs d (all_used xs)

-- and the places are places of the different texts
pub places_within : (xs : List (List ℕ)) → All (λ place. place < length (first_uses xs)) (map (place_in (first_uses xs)) xs)
places_within xs = All-from_recursion (λ place. place < length (first_uses xs)) (map (place_in (first_uses xs)) xs) (within_by_recursion (first_uses xs) xs (all_used xs))

-- the texts' bytes with one text more
texts_insert : (ks : List (List ℕ)) (t : List ℕ) → flat_map plain_text (with_text ks t) ≡ cond (not (list_any (bytes_eq t) ks)) (flat_map plain_text ks ++ plain_text t) (flat_map plain_text ks)
texts_insert ks t = elim (cases (list_any (bytes_eq t) ks)) [
  | inl here ↦ rw here refl
  | inr absent ↦ rw absent (flat_map-append plain_text ks (t ∷ []) ∙ ap (λ (l : List ℕ). flat_map plain_text ks ++ l) (append-nil (plain_text t)))
]

-- the bytes of the different texts so far, and the places of the values so far
pub record Numbered (texts places : List ℕ) (xs : List (List ℕ)) : Type 0 where
  pub texts_are : texts ≡ flat_map plain_text (first_uses xs)
  pub places_are : places ≡ map (place_in (first_uses xs)) xs

pub numbered_none : Numbered [] [] []
unfolding first_uses
numbered_none = record { texts_are = refl; places_are = refl }

-- one value more
pub numbered_push : (t : List ℕ) (place : ℕ) (is_new : Bool) (texts new_texts places new_places : List ℕ) (xs : List (List ℕ)) → Numbered texts places xs → place ≡ place_in (first_uses xs) t → is_new ≡ not (list_any (bytes_eq t) (first_uses xs))
    → new_texts ≡ cond is_new (texts ++ plain_text t) texts → new_places ≡ places ++ place ∷ [] → Numbered new_texts new_places (xs ++ t ∷ [])
numbered_push t place is_new texts new_texts places new_places xs old place_e new_e texts_e places_e = record {
  texts_are = texts_e ∙ rw (new_e, old.texts_are) (sym (texts_insert (first_uses xs) t) ∙ ap (flat_map plain_text) (sym (first_uses_push xs t)));
  places_are = places_e ∙ rw (place_e, old.places_are) (sym (places_push xs t));
}

pub filter_le : (p : List ℕ → Bool) (xs : List (List ℕ)) → length (filter p xs) ≤ length xs
filter_le p [] = omega arith
filter_le p (x ∷ xs) =
    let shorter : length (filter p xs) ≤ length xs = filter_le p xs in
    elim (cases (p x)) [ inl passes ↦ rw passes (omega arith) | inr fails ↦ rw fails (omega arith) ]

pub length-first_uses : (xs : List (List ℕ)) → length (first_uses xs) ≤ length xs
unfolding first_uses
length-first_uses [] = omega arith
length-first_uses (x ∷ xs) = omega (arith, filter_le (λ other. not (bytes_eq x other)) (first_uses xs), length-first_uses xs)
