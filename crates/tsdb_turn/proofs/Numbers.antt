-- Where as many passes as there are numbers have numbers below, and no number twice, each number stands once.
use Rattle.std.proofs.Common.{◌≡◌, ℕ, zero, suc, ◌+◌, ◌<◌, ◌≤◌, ◌==◌, cond, List, [], ◌∷◌, length, map, All, refl, ap, eq-eqb, ne_eqb, arith}
use mathlib.Core.Logic.{dite}
use native.Mathlib.Decide.{ℕ_discrete}
use Rattle.tsdb_turn.specs.Passes.{PassState}
use Rattle.tsdb_turn.specs.Rule.{total, times}
use Rattle.tsdb_turn.specs.Steps.{pass_known}

-- how many passes have the number
abbrev pub passes_at : {T : Type 0} → ℕ → List (PassState T) → ℕ
passes_at n passes = total (λ pass. cond (pass.number == n) 1 0) passes

pub times-known : {T : Type 0} (n : ℕ) (passes : List (PassState T)) → times n (map pass_known passes) ≡ passes_at n passes
times-known n [] = refl
times-known n (p ∷ ps) = ap (λ (k : ℕ). cond {A = ℕ} (p.number == n) 1 0 + k) (times-known n ps)

-- the sum of f at all numbers below n
abbrev pub sum_below : (ℕ → ℕ) → ℕ → ℕ
sum_below f zero = 0
sum_below f (suc n) = f n + sum_below f n

sum_zero : (n : ℕ) → sum_below (λ _. 0) n ≡ 0
sum_zero zero = refl
sum_zero (suc n) = let h = sum_zero n in omega arith

sum_plus : (f g : ℕ → ℕ) (n : ℕ) → sum_below (λ k. f k + g k) n ≡ sum_below f n + sum_below g n
sum_plus f g zero = refl
sum_plus f g (suc n) = let h = sum_plus f g n in omega arith

-- 1 at the number a, and else 0
abbrev is_at : ℕ → ℕ → ℕ
is_at a k = cond (a == k) 1 0

sum_above : (a n : ℕ) → n ≤ a → sum_below (is_at a) n ≡ 0
sum_above a zero high = refl
sum_above a (suc n) high =
    let h = sum_above a n (omega arith) in
    let other : is_at a n ≡ 0 = ap (λ b. cond {A = ℕ} b 1 0) (ne_eqb a n (λ e. absurd (omega arith))) in
    omega arith

sum_at : (a n : ℕ) → a < n → sum_below (is_at a) n ≡ 1
sum_at a zero low = absurd (omega arith)
sum_at a (suc n) low =
    dite (ℕ_discrete a n)
    (λ e. let rest = sum_above a n (omega arith) in
    let here : is_at a n ≡ 1 = ap (λ b. cond {A = ℕ} b 1 0) (eq-eqb a n e) in omega arith)
    (λ ne. let rest = sum_at a n (omega arith) in
    let other : is_at a n ≡ 0 = ap (λ b. cond {A = ℕ} b 1 0) (ne_eqb a n ne) in omega arith)

-- all passes have numbers below, so the numbers below count all
pub count_all : {T : Type 0} (seats : ℕ) (passes : List (PassState T)) → All (λ p. p.number < seats) passes → sum_below (λ n. passes_at n passes) seats ≡ length passes
count_all seats [] below = sum_zero seats
count_all seats (p ∷ ps) below =
    let rest = count_all seats ps (λ k d low. below (suc k) d (omega arith)) in
    let one = sum_at p.number seats (below 0 p (omega arith)) in
    let both = sum_plus (is_at p.number) (λ n. passes_at n ps) seats in
    omega arith

below_count : (f : ℕ → ℕ) (n : ℕ) → ((k : ℕ) → f k ≤ 1) → sum_below f n ≤ n
below_count f zero few = omega arith
below_count f (suc n) few = let h = below_count f n few in let one = few n in omega arith

-- a number at which f is 0 is missing in the sum
pub each_one : (f : ℕ → ℕ) (n k : ℕ) → ((j : ℕ) → f j ≤ 1) → k < n → sum_below f n + 1 ≤ n + f k
each_one f zero k few low = absurd (omega arith)
each_one f (suc n) k few low =
    dite (ℕ_discrete k n)
    (λ e. let h = below_count f n few in let same : f k ≡ f n = ap f e in omega arith)
    (λ ne. let h = each_one f n k few (omega arith) in let one = few n in omega arith)
