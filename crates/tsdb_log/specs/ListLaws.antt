-- Rows of fields one behind another, as many as was said before.
use Rattle.std.proofs.Common.{◌≡◌, ℕ, zero, suc, ◌+◌, ◌<◌, ◌≤◌, List, [], ◌∷◌, ◌++◌, length, refl, sym, ap, subst, ◌∙◌, arith}
use Rattle.std.specs.List.{flat_map, AllByRecursion}
use Rattle.std.proofs.lemmas.List.Elements.{recursion_from_All, All-from_recursion}
use Rattle.tsdb_base.specs.Plain.{AreValues}
use Rattle.tsdb_log.specs.Places.{ReachesField}
use Rattle.tsdb_log.specs.Spelling.{joined_fields}
use Rattle.tsdb_log.specs.Steps.{IsMissingField}
use Rattle.tsdb_log.specs.Rows.{both, AreBoth, IsRowForm}
use Rattle.tsdb_log.specs.RowLaws.{regroup, bytes_length, row_of_both, no_first, no_second}

-- so many, by recursion
abbrev pub AreList : {A : Type 0} → (A → Type 0) → ℕ → List A → Type 0
AreList Is zero [] = Unit {0}
AreList Is zero (x ∷ xs) = ⊥
AreList Is (suc n) [] = ⊥
AreList Is (suc n) (x ∷ xs) = Is x × AreList Is n xs

list_of_recursion : {A : Type 0} (Is : A → Type 0) (n : ℕ) (xs : List A) → length xs ≡ n → AllByRecursion Is xs → AreList Is n xs
list_of_recursion Is zero [] e all = tt
list_of_recursion Is zero (x ∷ xs) e all = absurd (omega arith)
list_of_recursion Is (suc n) [] e all = absurd (omega arith)
list_of_recursion Is (suc n) (x ∷ xs) e all = (all.0, list_of_recursion Is n xs (omega arith) all.1)

recursion_of_list : {A : Type 0} (Is : A → Type 0) (n : ℕ) (xs : List A) → AreList Is n xs → (length xs ≡ n) × AllByRecursion Is xs
recursion_of_list Is zero [] is = (refl, tt)
recursion_of_list Is zero (x ∷ xs) is = absurd is
recursion_of_list Is (suc n) [] is = absurd is
recursion_of_list Is (suc n) (x ∷ xs) is =
    let rest = recursion_of_list Is n xs is.1 in
    let size : length xs ≡ n = rest.0 in
    (omega arith, (is.0, rest.1))

pub list_of_values : {A : Type 0} (Is : A → Type 0) (n : ℕ) (xs : List A) → AreValues Is n xs → AreList Is n xs
list_of_values Is n xs are = list_of_recursion Is n xs are.0 (recursion_from_All Is xs are.1)

pub values_of_list : {A : Type 0} (Is : A → Type 0) (n : ℕ) (xs : List A) → AreList Is n xs → AreValues Is n xs
values_of_list Is n xs is = let r = recursion_of_list Is n xs is in (r.0, All-from_recursion Is xs r.1)

-- a list that is not empty is a first row and the others
abbrev Others : {A : Type 0} → (A → Type 0) → ℕ → A → List A → Type 0
Others Is n first others = AreList Is n others

record FirstAndOthers {A : Type 0} (fields : A → List (List ℕ)) (Is : A → Type 0) (n : ℕ) (whole : List A) : Type 0 where
  first : A
  others : List A
  is : Is first × AreList Is n others
  same : whole ≡ first ∷ others

part : {A : Type 0} (fields : A → List (List ℕ)) (Is : A → Type 0) (n : ℕ) (whole : List A) → AreList Is (suc n) whole → FirstAndOthers fields Is n whole
part fields Is n [] is = absurd is
part fields Is n (x ∷ xs) is = record { first = x; others = xs; is = is; same = refl }

reaches_of_both : {A : Type 0} (fields : A → List (List ℕ)) (Is : A → Type 0) (n : ℕ) (bytes : List ℕ) (j : ℕ)
    → ReachesField (flat_map fields) (AreList Is (suc n)) bytes j → ReachesField (both fields (flat_map fields))
    (AreBoth Is (Others Is n)) bytes j
reaches_of_both {A} fields Is n bytes j r =
    let p = part fields Is n r.whole r.is in
    record {
      whole = (p.first, p.others);
      is = p.is;
      first = r.first;
      more = r.more;
      rest = r.rest;
      begins = sym (ap (λ (l : List A). flat_map fields l) p.same) ∙ r.begins;
      splits = r.splits;
      place = r.place;
    }

reaches_of_list : {A : Type 0} (fields : A → List (List ℕ)) (Is : A → Type 0) (n : ℕ) (bytes : List ℕ) (j : ℕ)
    → ReachesField (both fields (flat_map fields)) (AreBoth Is (Others Is n)) bytes j → ReachesField (flat_map fields)
    (AreList Is (suc n)) bytes j
reaches_of_list fields Is n bytes j r = record {
  whole = r.whole.0 ∷ r.whole.1;
  is = r.is;
  first = r.first;
  more = r.more;
  rest = r.rest;
  begins = r.begins;
  splits = r.splits;
  place = r.place;
}

longer : {A : Type 0} (fields : A → List (List ℕ)) (Is : A → Type 0) → IsRowForm fields Is → (n : ℕ) → IsRowForm (flat_map fields) (AreList Is n) → IsRowForm (flat_map fields) (AreList Is (suc n))
longer {A} fields Is row n shorter = record {
  free = λ xs ys x y is_x is_y e.
      let p = part fields Is n xs is_x in
      let q = part fields Is n ys is_y in
      let bytes = ap (λ (l : List A). joined_fields (flat_map fields l) ++ x) p.same in
      let bytes2 = ap (λ (l : List A). joined_fields (flat_map fields l) ++ y) q.same in
      let same = rows.free (p.first, p.others) (q.first, q.others) x y p.is q.is (sym bytes ∙ e ∙ bytes2) in
      let whole = ap (λ (w : A × List A). w.0 ∷ w.1) same.0 in
      (p.same ∙ whole ∙ sym q.same, same.1);
  full = λ xs behind j is r.
      let p = part fields Is n xs is in
      let there = subst (λ (l : List A). ReachesField (flat_map fields) (AreList Is (suc n))
      (joined_fields (flat_map fields l) ++ behind) j) p.same r in
      let le = rows.full (p.first, p.others) behind j p.is (reaches_of_both fields Is n (joined_fields (flat_map fields (p.first ∷ p.others)) ++ behind) j there) in
      let size = ap (λ (l : List A). length (joined_fields (flat_map fields l))) p.same in
      omega arith;
} where
  rows : IsRowForm (both fields (flat_map fields)) (AreBoth Is (Others Is n))
  rows = row_of_both fields (flat_map fields) Is (Others Is n) row (λ a is. shorter)

pub row_of_list : {A : Type 0} (fields : A → List (List ℕ)) (Is : A → Type 0) → IsRowForm fields Is → (n : ℕ) → IsRowForm (flat_map fields) (AreList Is n)
row_of_list {A} fields Is row zero = record {
  free = λ xs ys x y is_x is_y e. same_none xs ys x y is_x is_y e;
  full = λ xs behind j is r. none_far j xs behind is r;
} where
  same_none : (xs ys : List A) (x y : List ℕ) → AreList Is zero xs → AreList Is zero ys → joined_fields (flat_map fields xs) ++ x ≡ joined_fields (flat_map fields ys) ++ y → (xs ≡ ys) × (x ≡ y)
  same_none [] [] x y is_x is_y e = (refl, e)
  same_none [] (v ∷ vs) x y is_x is_y e = absurd is_y
  same_none (u ∷ us) ys x y is_x is_y e = absurd is_x

  nothing : (whole : List A) (first more : List (List ℕ)) → AreList Is zero whole → flat_map fields whole ≡ first ++ more → first ≡ []
  nothing [] [] more is e = refl
  nothing [] (f ∷ fs) more is e = absurd cc
  nothing (x ∷ xs) first more is e = absurd is

  none_far : (j : ℕ) (xs : List A) (behind : List ℕ) → AreList Is zero xs → ReachesField (flat_map fields)
      (AreList Is zero) (joined_fields (flat_map fields xs) ++ behind) j
      → j ≤ length (joined_fields (flat_map fields xs))
  none_far j xs behind is r =
      let none = nothing r.whole r.first r.more r.is r.begins in
      let size = ap (λ (l : List (List ℕ)). length (joined_fields l)) none in
      let place = r.place in
      omega arith
row_of_list fields Is row (suc n) = longer fields Is row n (row_of_list fields Is row n)

-- what hinders a first row and the others hinders the list
no_list : {A : Type 0} (fields : A → List (List ℕ)) (Is : A → Type 0) (n start : ℕ) (bytes : List ℕ) (at : ℕ)
    → IsMissingField (both fields (flat_map fields)) (AreBoth Is (Others Is n)) start bytes at
    → IsMissingField (flat_map fields) (AreList Is (suc n)) start bytes at
no_list {A} fields Is n start bytes at m = record {
  none = λ xs behind is e.
      let p = part fields Is n xs is in
      m.none (p.first, p.others) behind p.is (e ∙ ap (λ (l : List A). joined_fields (flat_map fields l) ++ behind) p.same);
  count = m.count;
  place = m.place;
  furthest = record {
    reached = reaches_of_list fields Is n bytes m.count m.furthest.reached;
    none_beyond = λ j r. m.furthest.none_beyond j (reaches_of_both fields Is n bytes j r);
  };
}

pub copies : {A : Type 0} (Is : A → Type 0) (a : A) → Is a → (n : ℕ) → (xs : List A) × AreList Is n xs
copies Is a is zero = ([], tt)
copies Is a is (suc n) = let rest = copies Is a is n in (a ∷ rest.0, (is, rest.1))

-- behind some rows the next one is missing
pub no_more_rows : {A : Type 0} (fields : A → List (List ℕ)) (Is : A → Type 0) (row : IsRowForm fields Is) (so_far : List A) (n start middle : ℕ) (bytes behind : List ℕ) (at : ℕ)
    → AllByRecursion Is so_far → length so_far < n → bytes ≡ joined_fields (flat_map fields so_far) ++ behind → middle ≡ start + length (joined_fields (flat_map fields so_far))
    → IsMissingField fields Is middle behind at → IsMissingField (flat_map fields) (AreList Is n) start bytes at
no_more_rows fields Is row so_far zero start middle bytes behind at all lt found there m = absurd (omega arith)
no_more_rows {A} fields Is row [] (suc n) start middle bytes behind at all lt found there m =
    let same : middle ≡ start = omega arith in
    let here = subst (λ (l : List ℕ). IsMissingField fields Is middle l at) (sym found) m in
    let moved = subst (λ (k : ℕ). IsMissingField fields Is k bytes at) same here in
    no_list fields Is n start bytes at (no_first fields (flat_map fields) Is (Others Is n) start bytes at (λ a is. copies Is a is n) moved)
no_more_rows {A} fields Is row (c ∷ cs) (suc n) start middle bytes behind at all lt found there m =
    let shorter : length cs < n = omega arith in
    let size = bytes_length (fields c) (flat_map fields cs) in
    let place : middle ≡ (start + length (joined_fields (fields c))) + length (joined_fields (flat_map fields cs)) = omega arith in
    let others = no_more_rows fields Is row cs n (start + length (joined_fields (fields c))) middle (joined_fields (flat_map fields cs) ++ behind) behind at all.1 shorter refl place m in
    no_list fields Is n start bytes at
    (no_second fields (flat_map fields) Is (Others Is n) row c start (start + length (joined_fields (fields c))) bytes (joined_fields (flat_map fields cs) ++ behind) at all.0
    (found ∙ regroup (fields c) (flat_map fields cs) behind) refl others)
