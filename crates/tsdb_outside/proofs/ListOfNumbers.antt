-- A sorted list of numbers of which those are kept that a file may have.
use Rattle.std.proofs.Common.{◌≡◌, ◌↔◌, ℕ, zero, suc, ◌+◌, ◌^◌, ◌<◌, ◌≤◌, List, ◌∷◌, [], Bool, true, false, cond, ◌⊎◌, inl, inr, ⊎_elim, IsTrue, filter, refl, sym, ap, ◌∙◌, subst, arith, rules}
use Rattle.std.specs.Prelude.{All, Contains}
use Rattle.std.proofs.lemmas.List.Elements.{filter_passes, All-weaker}
use Rattle.tsdb_outside.specs.Files.{IsFileNumber, is_number}

Contains-head : {X : Type 0} (x : X) (xs : List X) → Contains (x ∷ xs) x
Contains-head x xs = (0, omega arith, refl)

Contains-tail : {X : Type 0} (x y : X) (xs : List X) → Contains xs y → Contains (x ∷ xs) y
Contains-tail x y xs (k, l, e) = (suc k, omega arith, e)

Contains-nil : {X : Type 0} (y : X) → Contains [] y → ⊥
Contains-nil y (k, l, e) = omega arith

Contains-cases : {X : Type 0} (x y : X) (xs : List X) → Contains (x ∷ xs) y → (x ≡ y) ⊎ Contains xs y
Contains-cases x y xs (zero, l, e) = inl e
Contains-cases x y xs (suc k, l, e) = inr (k, omega arith, e)

pub Contains-filter : {X : Type 0} (p : X → Bool) (xs : List X) (x : X) → Contains xs x → p x ≡ true → Contains (filter p xs) x
Contains-filter p [] x h e = absurd (Contains-nil x h)
Contains-filter p (y ∷ ys) x h e = ⊎_elim
    (λ (here : y ≡ x). let f : p y ≡ true = ap p here ∙ e in rw f (subst (λ z. Contains (y ∷ filter p ys) z) here (Contains-head y (filter p ys))))
    (λ there. later (p y) (Contains-filter p ys x there e))
    (Contains-cases y x ys h)
  where
    later : (b : Bool) → Contains (filter p ys) x → Contains (cond b (y ∷ filter p ys) (filter p ys)) x
    later true k = Contains-tail y x (filter p ys) k
    later false k = k

pub Contains-from_filter : {X : Type 0} (p : X → Bool) (xs : List X) (x : X) → Contains (filter p xs) x → Contains xs x
Contains-from_filter p [] x h = absurd (Contains-nil x h)
Contains-from_filter p (y ∷ ys) x h = step (p y) (λ k. Contains-from_filter p ys x k) h
  where
    step : (b : Bool) → (Contains (filter p ys) x → Contains ys x) → Contains (cond b (y ∷ filter p ys) (filter p ys)) x → Contains (y ∷ ys) x
    step true rest k = ⊎_elim (λ (here : y ≡ x). subst (λ z. Contains (y ∷ ys) z) here (Contains-head y ys)) (λ there. Contains-tail y x ys (rest there)) (Contains-cases y x (filter p ys) k)
    step false rest k = Contains-tail y x ys (rest k)

number-from_test : (n : ℕ) → is_number n ≡ true → IsFileNumber n
number-from_test n e = grind arith

test-from_number : (n : ℕ) → IsFileNumber n → is_number n ≡ true
test-from_number n is = grind (arith, is.low, is.high)

pub all_are_numbers : (ns : List ℕ) → All IsFileNumber (filter is_number ns)
all_are_numbers ns = All-weaker (λ n. is_number n ≡ true) IsFileNumber (λ n e. number-from_test n e) (filter is_number ns) (filter_passes is_number ns)

pub are_there : (ns : List ℕ) (n : ℕ) → IsFileNumber n → Contains ns n → Contains (filter is_number ns) n
are_there ns n is h = Contains-filter is_number ns n h (test-from_number n is)
