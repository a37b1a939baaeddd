-- The greatest number in a store, and the next one.
use Rattle.std.proofs.Common.{◌≡◌, ◌⊎◌, ◌∙◌, ℕ, suc, ◌+◌, ◌-◌, ◌<◌, ◌≤◌, max, List, [], ◌∷◌, ◌++◌, get_or, length}
use Rattle.std.proofs.Common.{Option, None, Some, IfSome}
use Rattle.std.proofs.Common.{inl, inr, refl, sym, ap, subst, arith, rules}
use Rattle.std.proofs.lemmas.List.Elements.{All-head, All-tail, Contains-append_cases, Contains-append_right}
use Rattle.std.proofs.lemmas.List.Elements.{Contains-push_cases}
use Rattle.std.specs.Prelude.{◌↔◌, Contains, slice_get}
use Rattle.std.specs.List.{All, AllByRecursion as Each}
use Rattle.std.specs.List.Sorted.{IsStrictlyIncreasing}
use Rattle.tsdb_base.specs.declared.ids.FileNumber.{FileNumber}
use Rattle.tsdb_redo.specs.Opening.{greatest, next_number}
use Rattle.tsdb_outside.specs.Files.{IsFileNumber, StoredFile, stored_file_numbers, plain_numbers}
use Rattle.tsdb_recover.specs.OpenedStore.{IsNextNumber}
use Rattle.tsdb_recover.specs.Taking.{IsGreatestNumber}
use Rattle.tsdb_recover.specs.StoredFiles.{AreStored, HasFileNumber}
use Rattle.tsdb_base.specs.Limits.{end_of_numbers}

pub only : (m n : ℕ) → Contains (m ∷ []) n → m ≡ n
only m n there = by (Contains-push_cases [] m n there)
  where
    by : Contains [] n ⊎ (m ≡ n) → m ≡ n
    by (inl none) = absurd (omega (arith, none.1))
    by (inr same) = same

here : (m : ℕ) (ms : List ℕ) → Contains (m ∷ ms) m
here m ms = search rules

greatest_least : (numbers : List ℕ) (m : ℕ) → ((n : ℕ) → Contains numbers n → n ≤ m) → greatest numbers ≤ m
greatest_least [] m all = omega arith
greatest_least (x ∷ xs) m all =
    let first = all x (here x xs) in
    let rest = greatest_least xs m (λ n there. all n (Contains-append_right (x ∷ []) xs n there)) in
    omega (arith, first, rest)

greatest_above : (numbers : List ℕ) (n : ℕ) → Contains numbers n → n ≤ greatest numbers
greatest_above [] n there = absurd (omega (arith, there.1))
greatest_above (x ∷ xs) n there = by (Contains-append_cases (x ∷ []) xs n there) (greatest_above xs n)
  where
    by : Contains (x ∷ []) n ⊎ Contains xs n → (Contains xs n → n ≤ greatest xs) → n ≤ max x (greatest xs)
    by (inl one) rest = let same = only x n one in omega (arith, same)
    by (inr more) rest = let less = rest more in omega (arith, less)

greatest_both : (xs ys : List ℕ) → greatest (xs ++ ys) ≡ max (greatest xs) (greatest ys)
greatest_both [] ys = omega arith
greatest_both (x ∷ xs) ys = let rest = greatest_both xs ys in omega (arith, rest)

-- the next number, as the call counts it and as it is said
pub said_number : (last : Option FileNumber) (stored : List StoredFile) (named : List ℕ) (next : ℕ)
    → IsGreatestNumber last (stored_file_numbers stored) → next ≡ next_number last named → IsNextNumber next stored named
said_number None stored named next is next_is =
    next_is ∙ ap (λ numbers. greatest (numbers ++ named) + 1) (sym is)
said_number (Some last) stored named next is next_is =
    let most = greatest_least (stored_file_numbers stored) last.0 is.1 in
    let least = greatest_above (stored_file_numbers stored) last.0 is.0 in
    let both = greatest_both (stored_file_numbers stored) named in
    omega (arith, next_is, most, least, both)

-- ---- of a list that rises the last is the greatest

last_at : (x : FileNumber) (list : List FileNumber) → IsStrictlyIncreasing (plain_numbers (x ∷ list))
    → IsGreatestNumber (slice_get (x ∷ list) (length list)) (plain_numbers (x ∷ list))
last_at x [] rises = (here x.0 [], λ n there. omega (arith, only x.0 n there))
last_at x (y ∷ list) rises =
    by (slice_get (y ∷ list) (length list))
    (last_at y list (λ k within.
    let e : suc k + 1 ≡ suc (k + 1) = omega arith in
    subst (λ n. get_or (plain_numbers (y ∷ list)) k 0 < get_or (plain_numbers (x ∷ y ∷ list)) n 0) e
    (rises (suc k) (omega (arith, within)))))
    (rises 0 (omega arith))
  where
    by : (last : Option FileNumber) → IsGreatestNumber last (plain_numbers (y ∷ list)) → x.0 < y.0
        → IsGreatestNumber last (plain_numbers (x ∷ y ∷ list))
    by None none less = absurd cc
    by (Some last) is less = (
      Contains-append_right (x.0 ∷ []) (plain_numbers (y ∷ list)) last.0 is.0,
      λ n there. cases n (Contains-append_cases (x.0 ∷ []) (plain_numbers (y ∷ list)) n there),
    )
      where
        cases : (n : ℕ) → Contains (x.0 ∷ []) n ⊎ Contains (plain_numbers (y ∷ list)) n → n ≤ last.0
        cases n (inl one) =
            let same = only x.0 n one in
            let above = is.1 y.0 (here y.0 (plain_numbers list)) in
            omega (arith, same, above, less)
        cases n (inr more) = is.1 n more

pub last_greatest : (list : List FileNumber) (last : Option FileNumber) → last ≡ slice_get list (length list - 1)
    → IsStrictlyIncreasing (plain_numbers list) → IsGreatestNumber last (plain_numbers list)
last_greatest [] last is rises = subst (λ l. IsGreatestNumber l []) (sym is) refl
last_greatest (x ∷ list) last is rises =
    let at : length list ≡ length (x ∷ list) - 1 = omega arith in
    subst (λ l. IsGreatestNumber l (plain_numbers (x ∷ list))) (sym is)
    (subst (λ n. IsGreatestNumber (slice_get (x ∷ list) n) (plain_numbers (x ∷ list))) at (last_at x list rises))

-- ---- the numbers of the store are those of its list

pub all_numbers : (numbers : List ℕ) (n : ℕ) → All IsFileNumber numbers → Contains numbers n → IsFileNumber n
all_numbers [] n all there = absurd (omega (arith, there.1))
all_numbers (x ∷ xs) n all there =
    by (Contains-append_cases (x ∷ []) xs n there) (all_numbers xs n (All-tail IsFileNumber x xs all))
  where
    by : Contains (x ∷ []) n ⊎ Contains xs n → (Contains xs n → IsFileNumber n) → IsFileNumber n
    by (inl one) rest = subst IsFileNumber (only x n one) (All-head IsFileNumber x xs all)
    by (inr more) rest = rest more

pub stored_numbers : (files : List StoredFile) (n : ℕ) → Each HasFileNumber files → Contains (stored_file_numbers files) n
    → IsFileNumber n
stored_numbers [] n all there = absurd (omega (arith, there.1))
stored_numbers (f ∷ fs) n all there =
    by (Contains-append_cases (f.number ∷ []) (stored_file_numbers fs) n there) (stored_numbers fs n all.1)
  where
    by : Contains (f.number ∷ []) n ⊎ Contains (stored_file_numbers fs) n → (Contains (stored_file_numbers fs) n → IsFileNumber n)
        → IsFileNumber n
    by (inl one) rest = subst IsFileNumber (only f.number n one) all.0
    by (inr more) rest = rest more

-- the list of a store has the numbers of its files
abbrev pub IsListOf : List StoredFile → List ℕ → Type 0
IsListOf files list = (n : ℕ) → IsFileNumber n → (Contains list n ↔ Contains (stored_file_numbers files) n)

pub stored_greatest : (last : Option FileNumber) (list : List ℕ) (stored : List StoredFile) → IsGreatestNumber last list
    → IsListOf stored list → All IsFileNumber list → AreStored stored → IsGreatestNumber last (stored_file_numbers stored)
stored_greatest None list [] is exact all are = refl
stored_greatest None list (f ∷ fs) is exact all are =
    let there = (exact f.number are.each.0).1 (here f.number (stored_file_numbers fs)) in
    absurd (nothing (subst (λ l. Contains l f.number) is there))
  where
    nothing : Contains [] f.number → ⊥
    nothing there = omega (arith, there.1)
stored_greatest (Some last) list stored is exact all are = (
  (exact last.0 (all_numbers list last.0 all is.0)).0 is.0,
  λ n there. is.1 n ((exact n (stored_numbers stored n are.each there)).1 there),
)

pub below_end : (last : Option FileNumber) (list : List ℕ) → IsGreatestNumber last list → All IsFileNumber list
    → IfSome last (λ number. number.0 < end_of_numbers)
below_end None list is all = tt
below_end (Some last) list is all = omega (arith, (all_numbers list last.0 all is.0).high)
