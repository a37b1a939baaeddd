-- Sums over lists of which one place changes, and numbers modulo 2^64.
use Rattle.std.proofs.Common.{◌≡◌, ◌≢◌, ℕ, zero, suc, ◌+◌, ◌*◌, ◌/◌, ◌%◌, ◌≤◌, List, [], ◌∷◌, ◌++◌, set, sym, refl, ap, ◌∙◌, div-add-mod', arith}
use native.Mathlib.Nat.{mul-add-mod_self_right}
use mathlib.Core.Option.{some, some-injective, some-ne-none}
use lib.ListN.{get_elem?}
use Rattle.tsdb_turn.specs.Rule.{total}

module _ {A : Type 0} (f : A → ℕ) where
  pub total-append : (xs ys : List A) → total f (xs ++ ys) ≡ total f xs + total f ys
  total-append [] ys = omega arith
  total-append (x ∷ xs) ys = let h = total-append xs ys in omega arith

  pub total-set : (xs : List A) (i : ℕ) (x y : A) → get_elem? xs i ≡ some x → total f (set xs i y) + f x ≡ total f xs + f y
  total-set [] i x y at = absurd (some-ne-none x (sym at))
  total-set (z ∷ zs) zero x y at = let e : f z ≡ f x = ap f (some-injective z x at) in omega arith
  total-set (z ∷ zs) (suc i) x y at = let h = total-set zs i x y at in omega arith

  pub le-total : (xs : List A) (i : ℕ) (x : A) → get_elem? xs i ≡ some x → f x ≤ total f xs
  le-total [] i x at = absurd (some-ne-none x (sym at))
  le-total (z ∷ zs) zero x at = let e : f z ≡ f x = ap f (some-injective z x at) in omega arith
  le-total (z ∷ zs) (suc i) x at = let h = le-total zs i x at in omega arith

  -- two places add up to no more than all
  pub two-le-total : (xs : List A) (i j : ℕ) (x y : A) → i ≢ j → get_elem? xs i ≡ some x → get_elem? xs j ≡ some y → f x + f y ≤ total f xs
  two-le-total [] i j x y apart at there = absurd (some-ne-none x (sym at))
  two-le-total (z ∷ zs) zero zero x y apart at there = absurd (apart refl)
  two-le-total (z ∷ zs) zero (suc j) x y apart at there = let e : f z ≡ f x = ap f (some-injective z x at) in let h = le-total zs j y there in omega arith
  two-le-total (z ∷ zs) (suc i) zero x y apart at there = let e : f z ≡ f y = ap f (some-injective z y there) in let h = le-total zs i x at in omega arith
  two-le-total (z ∷ zs) (suc i) (suc j) x y apart at there = let h = two-le-total zs i j x y (λ e. apart (ap suc e)) at there in omega arith

-- where f is at most g at each place, so are the sums
pub total-mono : {A : Type 0} (f g : A → ℕ) (xs : List A) → ((i : ℕ) (x : A) → get_elem? xs i ≡ some x → f x ≤ g x) → total f xs ≤ total g xs
total-mono f g [] h = omega arith
total-mono f g (x ∷ xs) h = let a : f x ≤ g x = h 0 x refl in let b : total f xs ≤ total g xs = total-mono f g xs (λ i y at. h (suc i) y at) in omega arith

-- one more, modulo m
pub mod-next : (n m : ℕ) → (n % m + 1) % m ≡ (n + 1) % m
mod-next n m =
    let e : n / m * m + (n % m + 1) ≡ n + 1 = let d = div-add-mod' n m in omega arith in
    sym (mul-add-mod_self_right (n / m) m (n % m + 1)) ∙ ap (λ (k : ℕ). k % m) e
