-- Names that differ, found by a set of those before.
use Rattle.std.proofs.Common.{◌≡◌, ℕ, ◌+◌, ◌<◌, Bool, true, false, List, [], length, get_or, take, Some, cond, true≢false, inl, inr, sym, ap, ◌∙◌, arith}
use Rattle.std.specs.Prelude.{nat_eq, slice_get, ◌||◌}
use Rattle.std.specs.List.{IsDistinct, list_any}
use Rattle.std.specs.Cmp.Lexicographic.{bytes_decides, nat_list_eq_equiv, pointwise}
use Rattle.std.proofs.Math.Bool.{or-false, or-true}
use Rattle.std.proofs.lemmas.Bool.{cases_lt}
use Rattle.std.proofs.lemmas.List.{get_or-take, length-take}
use Rattle.std.proofs.lemmas.Option.{slice_get_within, slice_get-get_or, get_or_from_slice_get}
use Rattle.std.proofs.lemmas.Map.Keys.{apart_from_distinct, IsDistinct-push}
use Rattle.std.proofs.lemmas.List.Folds.{list_any_more, Any-from_list_any}
use Rattle.tsdb_model.specs.Commands.{AreDifferent}
use Rattle.tsdb_script.proofs.WordLists.{next}

-- two names are equal
abbrev pub same : List ℕ → List ℕ → Bool
same = pointwise nat_eq

pub apart : (names : List (List ℕ)) (i j : ℕ) (name : List ℕ) → IsDistinct same names → i < j → slice_get names i ≡ Some name → slice_get names j ≡ Some name → ⊥
apart names i j name distinct lt ei ej =
    let differ = apart_from_distinct same names i j name distinct lt (slice_get_within names j name ej) in
    let both = rw (get_or_from_slice_get names i name name ei, get_or_from_slice_get names j name name ej) at differ in
    true≢false (sym (nat_list_eq_equiv.refl name) ∙ both)

-- names no two of which are equal
pub different : (names : List (List ℕ)) → IsDistinct same names → AreDifferent names
different names distinct = λ i j name ei ej.
    elim (cases_lt i j) [
      | inl lt ↦ absurd (apart names i j name distinct lt ei ej)
      | inr ge ↦ elim (cases_lt j i) [
        | inl lt ↦ absurd (apart names j i name distinct lt ej ei)
        | inr le ↦ omega arith
      ]
    ]

-- one name more, which is equal to none before it
pub distinct_next : (names : List (List ℕ)) (i : ℕ) (x : List ℕ) → i < length names → x ≡ get_or names i x → IsDistinct same (take i names) → list_any (same x) (take i names) ≡ false → IsDistinct same (take (i + 1) names)
distinct_next names i x lt e distinct none = rw (next names i x lt e) (IsDistinct-push nat_list_eq_equiv (take i names) x distinct none)

-- a name that is equal to one before it
pub repeated : (names : List (List ℕ)) (i : ℕ) (x : List ℕ) → slice_get names i ≡ Some x → list_any (same x) (take i names) ≡ true → AreDifferent names → ⊥
repeated names i x stands e all =
    let found = Any-from_list_any (same x) (take i names) e in
    let before : found.0 < i = omega (arith, found.2, length-take i names) in
    let within : found.0 < length names = omega (arith, found.2, length-take i names) in
    let there = slice_get-get_or names found.0 found.1 within ∙ ap Some (sym (get_or-take i names found.0 found.1 before) ∙ found.3) in
    let name : x ≡ found.1 = (bytes_decides x found.1).0 found.4 in
    let place : found.0 ≡ i = all found.0 i x (there ∙ ap Some (sym name)) stands in
    omega (arith, before, place)

either : (a b : Bool) → cond b true a ≡ (a || b)
either a true = sym (or-true a)
either a false = sym (or-false a)

-- the names before one more
pub seen_next : (names : List (List ℕ)) (i : ℕ) (x q : List ℕ) (old new : Bool) → i < length names → x ≡ get_or names i x → new ≡ cond (same x q) true old
    → old ≡ list_any (same q) (take i names) → new ≡ list_any (same q) (take (i + 1) names)
seen_next names i x q old new lt e grown seen =
    rw (list_any_more (same q) names i x lt, ← e, grown, seen, nat_list_eq_equiv.symm x q) (either (list_any (same q) (take i names)) (same q x))

pub none_distinct : IsDistinct same []
unfolding IsDistinct
none_distinct = tt
