-- Elements of lists: some that has a property, and tests of all.
use Rattle.std.proofs.Common.{◌≡◌, ◌⊎◌, inl, inr, ⊎_elim, ℕ, zero, suc, ◌<◌, Bool, true, false, List, [], ◌∷◌, ◌++◌}
use Rattle.std.proofs.Common.{map, length, get_or}
use Rattle.std.proofs.Common.{refl, sym, ap, subst, ◌∙◌, arith}
use Rattle.std.specs.Prelude.{◌&&◌, Any}
use Rattle.std.specs.List.{list_all}
use Rattle.tsdb_base.specs.Lists.{Among}

-- an element of the list has the property
pub record Some {X : Type 0} (P : X → Type 0) (xs : List X) : Type 0 where
  pub element : X
  pub among : Among element xs
  pub holds : P element

any_head : {X : Type 0} (P : X → Type 0) (x : X) (xs : List X) → P x → Any P (x ∷ xs)
any_head P x xs h = (0, x, omega arith, refl, h)

any_tail : {X : Type 0} (P : X → Type 0) (x : X) (xs : List X) → Any P xs → Any P (x ∷ xs)
any_tail P x xs (k, y, within, is, h) = (suc k, y, omega (arith, within), is, h)

pub any_of : {X : Type 0} (P : X → Type 0) (xs : List X) → Some P xs → Any P xs
any_of {X} P xs some = by xs some.element some.among some.holds
  where
    by : (xs : List X) (x : X) → Among x xs → P x → Any P xs
    by [] x among h = absurd among
    by (y ∷ xs) x (inl is) h = any_head P y xs (subst P (sym is) h)
    by (y ∷ xs) x (inr among) h = any_tail P y xs (by xs x among h)

pub some_of : {X : Type 0} (P : X → Type 0) (xs : List X) → Any P xs → Some P xs
some_of P [] (k, y, within, is, h) = absurd (omega (arith, within))
some_of P (x ∷ xs) (zero, y, within, is, h) = record { element = y; among = inl is; holds = h }
some_of P (x ∷ xs) (suc k, y, within, is, h) =
    let found = some_of P xs (k, y, omega (arith, within), is, h) in
    record { element = found.element; among = inr found.among; holds = found.holds }

-- the elements, and one more behind them
pub either_push : {X : Type 0} (xs : List X) (y x : X) → Among x (xs ++ y ∷ []) → Among x xs ⊎ (y ≡ x)
either_push [] y x (inl is) = inr is
either_push [] y x (inr among) = absurd among
either_push (z ∷ xs) y x (inl is) = inl (inl is)
either_push (z ∷ xs) y x (inr among) = ⊎_elim (λ h. inl (inr h)) (λ h. inr h) (either_push xs y x among)

pub among_get : {X : Type 0} (xs : List X) (i : ℕ) (d : X) → i < length xs → Among (get_or xs i d) xs
among_get [] i d within = absurd (omega (arith, within))
among_get (x ∷ xs) zero d within = inl refl
among_get (x ∷ xs) (suc i) d within = inr (among_get xs i d (omega (arith, within)))

-- tests

pub all_pass : {X : Type 0} (test : X → Bool) (xs : List X) → ((x : X) → Among x xs → test x ≡ true)
    → list_all test xs ≡ true
all_pass test [] each = refl
all_pass test (x ∷ xs) each =
    ap (λ b. b && list_all test xs) (each x (inl refl)) ∙ all_pass test xs (λ y among. each y (inr among))

pub one_fails : {X : Type 0} (test : X → Bool) (xs : List X) (x : X) → Among x xs → test x ≡ false
    → list_all test xs ≡ false
one_fails test [] x among fails = absurd among
one_fails test (y ∷ xs) x (inl is) fails = ap (λ b. b && list_all test xs) (ap test is ∙ fails)
one_fails test (y ∷ xs) x (inr among) fails = by (test y) (list_all test xs) (one_fails test xs x among fails)
  where
    by : (a b : Bool) → b ≡ false → (a && b) ≡ false
    by true b e = e
    by false b e = refl

pub all_of_map : {X Y : Type 0} (test : Y → Bool) (f : X → Y) (xs : List X)
    → list_all test (map f xs) ≡ list_all (λ x. test (f x)) xs
all_of_map test f [] = refl
all_of_map test f (x ∷ xs) = ap (λ b. test (f x) && b) (all_of_map test f xs)
