-- How often the numbers of outgoing files stand in a list, once some of the files have left.
use Rattle.std.proofs.Common.{◌≡◌, ℕ, ◌+◌, ◌≤◌, ◌==◌, Bool, true, false, cond, not, List, [], ◌∷◌, length}
use Rattle.std.proofs.Common.{inl, inr, refl, sym, ap, ◌∙◌, arith, nat_eq}
use Rattle.std.specs.Prelude.{◌||◌}
use Rattle.std.specs.Cmp.{unsigned_Decides}
use Rattle.std.specs.List.{AllByRecursion as Each, filter}
use Rattle.std.proofs.lemmas.Bool.{false≢true}
use Rattle.std.proofs.lemmas.Bool.Decides.{nat_tests}
use Rattle.tsdb_fileset.specs.declared.files.Outgoing.{Outgoing}
use Rattle.tsdb_fileset.specs.Files.{outgoing_numbers}
use Rattle.tsdb_fileset.specs.Places.{is_one_of}
use Rattle.tsdb_base.specs.Lists.{Among, count}

-- the two tests for equal numbers
pub same_test : (n x : ℕ) → nat_eq n x ≡ (x == n)
same_test n x = grind (arith, nat_tests)

-- a number that stands in a list is counted
pub counted : (n : ℕ) (xs : List ℕ) → is_one_of xs n ≡ true → 1 ≤ count n xs
counted n [] is = absurd (false≢true is)
counted n (x ∷ xs) is = by (nat_eq n x) refl (counted n xs)
  where
    by : (b : Bool) → nat_eq n x ≡ b → (is_one_of xs n ≡ true → 1 ≤ count n xs) → 1 ≤ count n (x ∷ xs)
    by true e rest = let one = ap {B = ℕ} (λ b. cond b 1 0) (sym (same_test n x) ∙ e) in omega (arith, one)
    by false e rest =
        let later = rest (ap (λ b. b || is_one_of xs n) (sym e) ∙ is) in
        omega (arith, later)

-- one that is not counted does not stand in it
pub not_there : (n : ℕ) (xs : List ℕ) → count n xs ≡ 0 → is_one_of xs n ≡ false
not_there n xs none = by (is_one_of xs n) refl
  where
    by : (b : Bool) → is_one_of xs n ≡ b → is_one_of xs n ≡ false
    by true e = let some = counted n xs e in absurd (omega (arith, some, none))
    by false e = e

-- a filter leaves no more
pub count_fewer : (n : ℕ) (test : Outgoing → Bool) (files : List Outgoing)
    → count n (outgoing_numbers (filter test files)) ≤ count n (outgoing_numbers files)
count_fewer n test [] = omega arith
count_fewer n test (file ∷ files) = by (test file) (count_fewer n test files)
  where
    by : (b : Bool) → count n (outgoing_numbers (filter test files)) ≤ count n (outgoing_numbers files)
        → count n (outgoing_numbers (cond b (file ∷ filter test files) (filter test files)))
        ≤ count n (outgoing_numbers (file ∷ files))
    by true fewer = omega (arith, fewer)
    by false fewer = omega (arith, fewer)

pub length_fewer : (test : Outgoing → Bool) (files : List Outgoing)
    → length (outgoing_numbers (filter test files)) ≤ length files
length_fewer test [] = omega arith
length_fewer test (file ∷ files) = by (test file) (length_fewer test files)
  where
    by : (b : Bool) → length (outgoing_numbers (filter test files)) ≤ length files
        → length (outgoing_numbers (cond b (file ∷ filter test files) (filter test files))) ≤ length (file ∷ files)
    by true fewer = omega (arith, fewer)
    by false fewer = omega (arith, fewer)

-- the files of these numbers leave, and all others stay
pub count_left : (n : ℕ) (gone : List ℕ) (files : List Outgoing)
    → count n (outgoing_numbers (filter (λ file. not (is_one_of gone file.number.0)) files))
    ≡ cond (is_one_of gone n) 0 (count n (outgoing_numbers files))
count_left n gone [] = by (is_one_of gone n)
  where
    by : (b : Bool) → ◌≡◌ {A = ℕ} 0 (cond b 0 0)
    by true = refl
    by false = refl
count_left n gone (file ∷ files) =
    by (file.number.0 == n) refl (is_one_of gone n) (is_one_of gone file.number.0) refl refl
    (count_left n gone files)
  where
    left : List Outgoing
    left = filter (λ file. not (is_one_of gone file.number.0)) files

    by : (same : Bool) → (file.number.0 == n) ≡ same → (a b : Bool) → is_one_of gone n ≡ a
        → is_one_of gone file.number.0 ≡ b
        → count n (outgoing_numbers left) ≡ cond (is_one_of gone n) 0 (count n (outgoing_numbers files))
        → count n (outgoing_numbers (cond (not b) (file ∷ left) left))
        ≡ cond a 0 (count n (outgoing_numbers (file ∷ files)))
    by same is true true e f rest = rest ∙ ap (λ a. cond a 0 (count n (outgoing_numbers files))) e
    by same is false false e f rest =
        ap (λ m. cond (file.number.0 == n) 1 0 + m)
        (rest ∙ ap (λ a. cond a 0 (count n (outgoing_numbers files))) e)
    by true is true false e f rest =
        absurd (false≢true (sym f ∙ ap (is_one_of gone) ((unsigned_Decides file.number.0 n).0 is) ∙ e))
    by true is false true e f rest =
        absurd (false≢true (sym e ∙ ap (is_one_of gone) (sym ((unsigned_Decides file.number.0 n).0 is)) ∙ f))
    by false is false true e f rest =
        let now = rest ∙ ap (λ a. cond a 0 (count n (outgoing_numbers files))) e in
        let none = ap {B = ℕ} (λ b. cond b 1 0) is in
        omega (arith, now, none)
    by false is true false e f rest =
        let now = rest ∙ ap (λ a. cond a 0 (count n (outgoing_numbers files))) e in
        let none = ap {B = ℕ} (λ b. cond b 1 0) is in
        omega (arith, now, none)

pub among_counted : (file : Outgoing) (files : List Outgoing) → Among file files
    → 1 ≤ count file.number.0 (outgoing_numbers files)
among_counted file [] among = absurd among
among_counted file (other ∷ files) (inl is) =
    let one = ap {B = ℕ} (λ b. cond b 1 0)
    ((unsigned_Decides other.number.0 file.number.0).1 (ap (λ f. f.number.0) is)) in
    omega (arith, one)
among_counted file (other ∷ files) (inr among) = let rest = among_counted file files among in omega (arith, rest)

-- two tests that agree on the elements
pub filter_agrees : {X : Type 0} (p q : X → Bool) (xs : List X) → Each (λ x. p x ≡ q x) xs → filter p xs ≡ filter q xs
filter_agrees p q [] same = refl
filter_agrees p q (x ∷ xs) same = λ i.
    cond (same.0 i) (x ∷ filter_agrees p q xs same.1 i) (filter_agrees p q xs same.1 i)
