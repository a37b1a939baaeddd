-- How many of the first pages, and of the first sources, are due.
use Rattle.std.proofs.Common.{◌≡◌, ℕ, zero, suc, ◌+◌, ◌<◌, ◌≤◌, Bool, true, cond, List, [], ◌∷◌, ◌++◌, length, take, get_or, sym, ap, ◌∙◌, arith}
use Rattle.std.specs.Prelude.{sum_by}
use Rattle.std.proofs.lemmas.List.{take_more}
use Rattle.std.proofs.lemmas.List.Sums.{sum_by-take-le, sum_by_push}
use Rattle.tsdb_base.specs.declared.point.Range.{Range}
use Rattle.tsdb_streams.specs.Lanes.{count_due, is_due, is_passed}
use Rattle.tsdb_index.specs.declared.index.PageEntry.{PageEntry}

due_next : (range : Range) (flags : List Bool) (pages : List PageEntry) (i : ℕ) (page : PageEntry) → i < length pages → page ≡ get_or pages i page
    → count_due range flags (take (suc i) pages) ≡ count_due range flags (take i pages) + cond (is_due range (is_passed flags i) page) 1 0
due_next range flags [] i page low is = absurd (omega (arith, low))
due_next range [] (p ∷ pages) zero page low is = rw is (omega arith)
due_next range (flag ∷ flags) (p ∷ pages) zero page low is = first flags
  where
    first : (rest : List Bool) → cond (is_due range flag p) 1 0 + count_due range rest [] ≡ 0 + cond (is_due range flag page) 1 0
    first [] = rw is (omega arith)
    first (f ∷ rest) = rw is (omega arith)
due_next range [] (p ∷ pages) (suc i) page low is =
    let rest = due_next range [] pages i page (omega (arith, low)) is in
    omega (arith, rest)
due_next range (flag ∷ flags) (p ∷ pages) (suc i) page low is =
    let rest = due_next range flags pages i page (omega (arith, low)) is in
    omega (arith, rest)

due_take : (range : Range) (flags : List Bool) (pages : List PageEntry) (i : ℕ) → count_due range flags (take i pages) ≤ count_due range flags pages
due_take range flags [] zero = omega arith
due_take range flags [] (suc i) = omega arith
due_take range [] (p ∷ pages) zero = omega arith
due_take range (flag ∷ flags) (p ∷ pages) zero = omega arith
due_take range [] (p ∷ pages) (suc i) = let rest = due_take range [] pages i in omega (arith, rest)
due_take range (flag ∷ flags) (p ∷ pages) (suc i) = let rest = due_take range flags pages i in omega (arith, rest)

-- one page more
pub count_push : (range : Range) (flags : List Bool) (pages : List PageEntry) (i : ℕ) (page : PageEntry) (was now : ℕ) → i < length pages → page ≡ get_or pages i page → was ≤ count_due range flags (take i pages)
    → is_due range (is_passed flags i) page ≡ true → now ≤ was + 1 → now ≤ count_due range flags (take (i + 1) pages)
count_push range flags pages i page was now low is so_far due more =
    let step : i + 1 ≡ suc i = omega arith in
    let next : count_due range flags (take (i + 1) pages) ≡ count_due range flags (take i pages) + 1 =
    ap (λ n. count_due range flags (take n pages)) step ∙ due_next range flags pages i page low is ∙ ap (λ b. count_due range flags (take i pages) + cond b 1 0) due in
    omega (arith, so_far, more, next)

-- a page that is not due
pub count_skip : (range : Range) (flags : List Bool) (pages : List PageEntry) (i : ℕ) (page : PageEntry) (was : ℕ) → i < length pages → page ≡ get_or pages i page → was ≤ count_due range flags (take i pages)
    → was ≤ count_due range flags (take (i + 1) pages)
count_skip range flags pages i page was low is so_far =
    let step : i + 1 ≡ suc i = omega arith in
    let next : count_due range flags (take (i + 1) pages) ≡ count_due range flags (take i pages) + cond (is_due range (is_passed flags i) page) 1 0 =
    ap (λ n. count_due range flags (take n pages)) step ∙ due_next range flags pages i page low is in
    omega (arith, so_far, next)

pub count_end : (range : Range) (flags : List Bool) (pages : List PageEntry) (i : ℕ) (was : ℕ) → was ≤ count_due range flags (take i pages) → was ≤ count_due range flags pages
count_end range flags pages i was so_far = let all = due_take range flags pages i in omega (arith, so_far, all)

-- one source more
pub sum_push : {X : Type 0} (f : X → ℕ) (xs : List X) (i : ℕ) (x : X) (was now n : ℕ) → i < length xs → x ≡ get_or xs i x → was ≤ sum_by f (take i xs) → n ≤ f x → now ≤ was + n → now ≤ sum_by f (take (i + 1) xs)
sum_push f xs i x was now n low is so_far one more =
    let next : sum_by f (take (i + 1) xs) ≡ sum_by f (take i xs) + f x = ap (sum_by f) (take_more xs i x low ∙ ap (λ z. take i xs ++ z ∷ []) (sym is)) ∙ sum_by_push f (take i xs) x in
    omega (arith, so_far, one, more, next)

pub sum_end : {X : Type 0} (f : X → ℕ) (xs : List X) (i was : ℕ) → was ≤ sum_by f (take i xs) → was ≤ sum_by f xs
sum_end f xs i was so_far = let all = sum_by-take-le f xs i in omega (arith, so_far, all)
