-- What holds at each place, or at some place, of a list of which one place changes.
use Rattle.std.proofs.Common.{◌≡◌, ◌≢◌, ℕ, zero, suc, List, [], ◌∷◌, ◌++◌, length, set, sym, refl, ap, ◌∙◌, subst, ⊎_elim}
use mathlib.Core.Logic.{dite}
use mathlib.Core.Option.{some, some-injective, some-ne-none}
use native.Mathlib.Decide.{ℕ_discrete}
use lib.ListN.{get_elem?}
use Rattle.atomic_table.proofs.Lists.{at_set, set_else, at_snoc, at_longer, at_last}

module _ {A : Type 0} where
  -- one place has one value
  pub same : (xs : List A) (i j : ℕ) (x y : A) → get_elem? xs i ≡ some x → get_elem? xs j ≡ some y → i ≡ j → x ≡ y
  same xs i j x y at there e = some-injective x y (sym at ∙ ap (λ (k : ℕ). get_elem? xs k) e ∙ there)

  pub set-at : (xs : List A) (i : ℕ) (x y : A) → get_elem? xs i ≡ some x → get_elem? (set xs i y) i ≡ some y
  set-at [] i x y at = absurd (some-ne-none x (sym at))
  set-at (z ∷ zs) zero x y at = refl
  set-at (z ∷ zs) (suc i) x y at = set-at zs i x y at

  -- at each place
  abbrev pub Each : (ℕ → A → Type 0) → List A → Type 0
  Each P xs = (i : ℕ) (x : A) → get_elem? xs i ≡ some x → P i x

  -- at some place
  abbrev pub Some-at : (A → Type 0) → List A → Type 0
  Some-at P xs = (i : ℕ) × (x : A) × (get_elem? xs i ≡ some x) × P x

  pub each-set : (P Q : ℕ → A → Type 0) (xs : List A) (at : ℕ) (y : A) → Each P xs → ((i : ℕ) (x : A) → i ≢ at → get_elem? xs i ≡ some x → P i x → Q i x) → Q at y
      → Each Q (set xs at y)
  each-set P Q xs at y all keep here i x there =
      ⊎_elim
      (λ t. subst (λ (z : A). Q i z) t.1 (subst (λ (k : ℕ). Q k y) (sym t.0) here))
      (λ t. keep i x t.0 t.1 (all i x t.1))
      (at_set xs at i y x there)

  pub each-append : (P : ℕ → A → Type 0) (xs : List A) (y : A) → Each P xs → ((i : ℕ) → P i y) → Each P (xs ++ y ∷ [])
  each-append P xs y all here i x there =
      ⊎_elim (λ at. all i x at) (λ e. subst (λ (z : A). P i z) e (here i)) (at_snoc xs y x i there)

  pub some-set : (P Q : A → Type 0) (xs : List A) (at : ℕ) (x y : A) → get_elem? xs at ≡ some x → Some-at P xs → (P x → Q y) → ((z : A) → P z → Q z)
      → Some-at Q (set xs at y)
  some-set P Q xs at x y here some-place keep others =
      dite (ℕ_discrete some-place.0 at)
      (λ e. (at, y, set-at xs at x y here, keep (subst (λ (z : A). P z) (same xs some-place.0 at some-place.1 x some-place.2 here e) some-place.3)))
      (λ ne. (some-place.0, some-place.1, set_else xs at some-place.0 y ne ∙ some-place.2, others some-place.1 some-place.3))

  pub some-longer : (P : A → Type 0) (xs ys : List A) → Some-at P xs → Some-at P (xs ++ ys)
  some-longer P xs ys place = (place.0, place.1, at_longer xs ys place.0 place.1 place.2, place.3)

  pub some-last : (P : A → Type 0) (xs : List A) (y : A) → P y → Some-at P (xs ++ y ∷ [])
  some-last P xs y here = (length xs, y, at_last xs y (length xs) refl, here)
