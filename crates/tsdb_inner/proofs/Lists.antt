-- Lists that a loop has gone through so far.
use Rattle.std.proofs.Common.{◌≡◌, ℕ, ◌+◌, ◌<◌, ◌≤◌, ◌⊎◌, inl, inr, List, [], ◌∷◌, ◌++◌, length, take, get_or, refl, sym, ap, subst, ◌∙◌, arith}
use Rattle.std.specs.Prelude.{IsSome, Option, None, Some}
use Rattle.std.specs.List.{AllByRecursion as Each, AllZip}
use Rattle.std.proofs.lemmas.List.{take_more}
use Rattle.tsdb_base.proofs.Lists.{each_append}
use Rattle.tsdb_base.specs.Causes.{Rose}

-- ---- pairs of two lists

zip_push : {A B : Type 0} (R : A → B → Type 0) (xs : List A) (ys : List B) (x : A) (y : B) → AllZip R xs ys → R x y
    → AllZip R (xs ++ x ∷ []) (ys ++ y ∷ [])
zip_push R [] [] x y zip one = (one, tt)
zip_push R [] (z ∷ ys) x y zip one = absurd zip
zip_push R (w ∷ xs) [] x y zip one = absurd zip
zip_push R (w ∷ xs) (z ∷ ys) x y zip one = (zip.0, zip_push R xs ys x y zip.1 one)

-- the elements up to a place, and the one there
pub next_taken : {X : Type 0} (xs : List X) (i : ℕ) (x : X) → i < length xs → x ≡ get_or xs i x
    → take (i + 1) xs ≡ take i xs ++ x ∷ []
next_taken xs i x below at = take_more xs i x below ∙ ap (λ z. take i xs ++ z ∷ []) (sym at)

pub zip_more : {A B : Type 0} (R : A → B → Type 0) (xs : List A) (i : ℕ) (x : A) (ys more : List B) (y : B)
    → i < length xs → x ≡ get_or xs i x → AllZip R (take i xs) ys → R x y → more ≡ ys ++ y ∷ []
    → AllZip R (take (i + 1) xs) more
zip_more R xs i x ys more y below at zip one push =
    subst (λ l. AllZip R l more) (sym (next_taken xs i x below at))
    (subst (AllZip R (take i xs ++ x ∷ [])) (sym push) (zip_push R (take i xs) ys x y zip one))

-- ---- damage that is counted

-- each of the elements so far tells its bytes, or a fault was counted
pub damage_more : {X : Type 0} (bytes : X → Option (List ℕ)) (xs : List X) (i : ℕ) (x : X) (before now next : ℕ)
    → i < length xs → x ≡ get_or xs i x → before ≤ now → now ≤ next → (bytes x ≡ None → Rose now next)
    → (Each (λ y. IsSome (bytes y)) (take i xs)) ⊎ Rose before now
    → (Each (λ y. IsSome (bytes y)) (take (i + 1) xs)) ⊎ Rose before next
damage_more bytes xs i x before now next below at later more rose (inr was) = inr (omega (arith, was, more))
damage_more {X = X} bytes xs i x before now next below at later more rose (inl each) = by (bytes x) refl
  where
    by : (o : Option (List ℕ)) → bytes x ≡ o
        → (Each (λ y. IsSome (bytes y)) (take (i + 1) xs)) ⊎ Rose before next
    by None none = let now_rose = rose none in inr (omega (arith, later, now_rose))
    by (Some list) some = inl (subst (Each (λ y. IsSome (bytes y))) (sym (next_taken xs i x below at))
        (each_append (λ y. IsSome (bytes y)) (take i xs) (x ∷ []) each (subst IsSome (sym some) refl, tt)))
