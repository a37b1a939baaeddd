-- Values one after another, where no value's bytes begin those of another value.
use Rattle.std.proofs.Common.{◌≡◌, ℕ, ◌<◌, List, [], ◌∷◌, ◌++◌, length, refl, sym, ◌∙◌, append_assoc, arith}
use Rattle.std.specs.Prelude.{All}
use Rattle.std.specs.List.{flat_map, AllByRecursion}
use Rattle.std.proofs.lemmas.List.Elements.{recursion_from_All}

-- no value's bytes begin those of another value
abbrev pub IsPrefixFree : {A : Type 0} → (A → List ℕ) → (A → Type 0) → Type 0
IsPrefixFree {A} spelling IsValue = (a b : A) (x y : List ℕ) → IsValue a → IsValue b → spelling a ++ x ≡ spelling b ++ y → (a ≡ b) × (x ≡ y)

-- the first values are the same, and so is what follows them
first_same : {A : Type 0} (spelling : A → List ℕ) (IsValue : A → Type 0) (free : IsPrefixFree spelling IsValue) (u v : A) (us vs : List A) (r s : List ℕ) → IsValue u → IsValue v
    → flat_map spelling (u ∷ us) ++ r ≡ flat_map spelling (v ∷ vs) ++ s → (u ≡ v) × (flat_map spelling us ++ r ≡ flat_map spelling vs ++ s)
first_same spelling IsValue free u v us vs r s is_u is_v e =
    free u v (flat_map spelling us ++ r) (flat_map spelling vs ++ s) is_u is_v (sym (append_assoc (spelling u) (flat_map spelling us) r) ∙ e ∙ append_assoc (spelling v) (flat_map spelling vs) s)

no_more_by_recursion : {A : Type 0} (spelling : A → List ℕ) (IsValue : A → Type 0) (free : IsPrefixFree spelling IsValue) (so_far values : List A) (rest more : List ℕ) → length so_far < length values → AllByRecursion IsValue so_far → AllByRecursion IsValue values
    → flat_map spelling so_far ++ rest ≡ flat_map spelling values ++ more → ((a : A) (t : List ℕ) → IsValue a → rest ≡ spelling a ++ t → ⊥) → ⊥
no_more_by_recursion spelling IsValue free [] [] rest more lt is_a is_b e none = absurd (omega arith)
no_more_by_recursion spelling IsValue free (u ∷ us) [] rest more lt is_a is_b e none = absurd (omega arith)
no_more_by_recursion spelling IsValue free [] (v ∷ vs) rest more lt is_a is_b e none =
    none v (flat_map spelling vs ++ more) is_b.0 (e ∙ append_assoc (spelling v) (flat_map spelling vs) more)
no_more_by_recursion spelling IsValue free (u ∷ us) (v ∷ vs) rest more lt is_a is_b e none =
    let shorter : length us < length vs = omega arith in
    no_more_by_recursion spelling IsValue free us vs rest more shorter is_a.1 is_b.1 (first_same spelling IsValue free u v us vs rest more is_a.0 is_b.0 e).1 none

-- where no value begins behind some values, no longer list of values is written so
pub no_more : {A : Type 0} (spelling : A → List ℕ) (IsValue : A → Type 0) (free : IsPrefixFree spelling IsValue) (so_far values : List A) (rest more : List ℕ) → length so_far < length values → All IsValue so_far → All IsValue values
    → flat_map spelling so_far ++ rest ≡ flat_map spelling values ++ more → ((a : A) (t : List ℕ) → IsValue a → rest ≡ spelling a ++ t → ⊥) → ⊥
no_more spelling IsValue free so_far values rest more lt is_a is_b e none =
    no_more_by_recursion spelling IsValue free so_far values rest more lt (recursion_from_All IsValue so_far is_a) (recursion_from_All IsValue values is_b) e none

same_by_recursion : {A : Type 0} (spelling : A → List ℕ) (IsValue : A → Type 0) (free : IsPrefixFree spelling IsValue) (xs ys : List A) (r s : List ℕ) → length xs ≡ length ys → AllByRecursion IsValue xs → AllByRecursion IsValue ys
    → flat_map spelling xs ++ r ≡ flat_map spelling ys ++ s → (xs ≡ ys) × (r ≡ s)
same_by_recursion spelling IsValue free [] [] r s len is_a is_b e = (refl, e)
same_by_recursion spelling IsValue free (u ∷ us) [] r s len is_a is_b e = absurd (omega arith)
same_by_recursion spelling IsValue free [] (v ∷ vs) r s len is_a is_b e = absurd (omega arith)
same_by_recursion spelling IsValue free (u ∷ us) (v ∷ vs) r s len is_a is_b e =
    let shorter : length us ≡ length vs = omega arith in
    let first = first_same spelling IsValue free u v us vs r s is_a.0 is_b.0 e in
    let head : u ≡ v = first.0 in
    let others = same_by_recursion spelling IsValue free us vs r s shorter is_a.1 is_b.1 first.1 in
    let tail : us ≡ vs = others.0 in
    (cc, others.1)

-- two lists of one length that are written alike are equal, and so is what follows them
pub same_values : {A : Type 0} (spelling : A → List ℕ) (IsValue : A → Type 0) (free : IsPrefixFree spelling IsValue) (xs ys : List A) (r s : List ℕ) → length xs ≡ length ys → All IsValue xs → All IsValue ys
    → flat_map spelling xs ++ r ≡ flat_map spelling ys ++ s → (xs ≡ ys) × (r ≡ s)
same_values spelling IsValue free xs ys r s len is_a is_b e =
    same_by_recursion spelling IsValue free xs ys r s len (recursion_from_All IsValue xs is_a) (recursion_from_All IsValue ys is_b) e
