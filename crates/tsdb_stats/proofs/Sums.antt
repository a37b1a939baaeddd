-- The sum of lists that go on.
use Rattle.std.proofs.Common.{◌≡◌, ℕ, ◌+◌, ◌^◌, ◌<◌, ◌≤◌, List, [], ◌∷◌, ◌++◌, Option, None, Some, length, take, get_or, add-one, take-suc, refl, sym, ap, subst, ◌∙◌, arith}
use Rattle.std.specs.Prelude.{ℤ, ◌+ℤ◌, FitsSigned, All}
use Rattle.std.specs.Int.{w128}
use Rattle.std.specs.List.{cons_option, filter_map, fold, reduce}
use Rattle.std.proofs.lemmas.Int.{ints}
use Rattle.std.proofs.lemmas.List.Sums.{fold-append}
use Rattle.std.proofs.lemmas.List.Elements.{All-head, All-tail, filter_map-append}
use Rattle.tsdb_base.specs.declared.point.Point.{Point}
use Rattle.tsdb_base.specs.declared.value.Value.{Value}
use Rattle.tsdb_base.specs.declared.value.Value.TheVariants as value
use Rattle.tsdb_base.specs.Values.{IsValue}
use Rattle.tsdb_model.specs.Folds.{as_number, sum_of}
use Rattle.tsdb_stats.specs.Steps.{IsSumWithin, IsWithinCount, join_options, plus}

-- the numbers that points have
abbrev numbers_in : List Point → List ℤ
numbers_in points = filter_map (λ (point : Point). as_number point.value) points

plus-assoc : (a b c : ℤ) → plus (plus a b) c ≡ plus a (plus b c)
plus-assoc a b c = omega (arith, ints)

fold-plus : (a b : ℤ) (xs : List ℤ) → fold plus (plus a b) xs ≡ plus a (fold plus b xs)
fold-plus a b [] = refl
fold-plus a b (x ∷ xs) = ap (λ s. fold plus s xs) (plus-assoc a b x) ∙ fold-plus a (plus b x) xs

reduce-plus : (xs ys : List ℤ) → reduce plus (xs ++ ys) ≡ join_options plus (reduce plus xs) (reduce plus ys)
reduce-plus [] ys = refl
reduce-plus (x ∷ xs) [] = ap Some (fold-append plus x xs [])
reduce-plus (x ∷ xs) (y ∷ ys) = ap Some (fold-append plus x xs (y ∷ ys) ∙ fold-plus (fold plus x xs) y ys)

-- the sum of both lists, if one has a number
pub sum-both : (before behind : List Point) → sum_of (before ++ behind) ≡ join_options plus (sum_of before) (sum_of behind)
sum-both before behind = ap (reduce plus) (filter_map-append (λ (point : Point). as_number point.value) before behind) ∙ reduce-plus (numbers_in before) (numbers_in behind)

-- the sum of both lists
pub sum-append : (before behind : List Point) (a b : ℤ) → sum_of before ≡ Some a → sum_of behind ≡ Some b → sum_of (before ++ behind) ≡ Some (a +ℤ b)
sum-append before behind a b is_a is_b =
    sum-both before behind ∙ ap (λ (s : Option ℤ). join_options plus s (sum_of behind)) is_a ∙ ap (λ (s : Option ℤ). join_options plus (Some a) s) is_b

-- one point more
one-more : (points : List Point) (t : Point) (n : Option ℤ) → n ≡ as_number t.value → sum_of (points ++ t ∷ []) ≡ join_options plus (sum_of points) n
one-more points t n is = sum-both points (t ∷ []) ∙ ap (join_options plus (sum_of points)) (alone (as_number t.value) ∙ sym is)
  where
    alone : (n : Option ℤ) → reduce plus (cons_option n []) ≡ n
    alone None = refl
    alone (Some x) = refl

-- the points before one more
pub next : (points : List Point) (i : ℕ) (t : Point) (old new n : Option ℤ) → i < length points → t ≡ get_or points i t → n ≡ as_number t.value
    → old ≡ sum_of (take i points) → new ≡ join_options plus old n → new ≡ sum_of (take (i + 1) points)
next points i t old new n lt at is before after =
    after ∙ ap (λ (s : Option ℤ). join_options plus s n) before ∙ sym (one-more (take i points) t n is)
    ∙ ap sum_of (ap (λ (p : Point). take i points ++ p ∷ []) at ∙ sym (take-suc points i t lt) ∙ ap (λ k. take k points) (sym (add-one i)))

-- ---- so many numbers do not come to more than this

within-plus : (m n : ℕ) (a b : ℤ) → IsWithinCount m a → IsWithinCount n b → IsWithinCount (m + n) (a +ℤ b)
within-plus m n a b is_a is_b = (omega (arith, ints, is_a.0, is_b.0), omega (arith, ints, is_a.1, is_b.1))

within-more : (m n : ℕ) (a : ℤ) → m ≤ n → IsWithinCount m a → IsWithinCount n a
within-more m n a more is = (omega (arith, ints, more, is.0), omega (arith, ints, more, is.1))

pub joined-within : (m n : ℕ) (a b : Option ℤ) → IsSumWithin m a → IsSumWithin n b → IsSumWithin (m + n) (join_options plus a b)
joined-within m n None None is_a is_b = tt
joined-within m n None (Some b) is_a is_b = within-more n (m + n) b (omega arith) is_b
joined-within m n (Some a) None is_a is_b = within-more m (m + n) a (omega arith) is_a
joined-within m n (Some a) (Some b) is_a is_b = within-plus m n a b is_a is_b

pub more-within : (m n : ℕ) (a : Option ℤ) → m ≤ n → IsSumWithin m a → IsSumWithin n a
more-within m n None more is = tt
more-within m n (Some a) more is = within-more m n a more is

-- a value of 64 bits at most
value-within : (v : Value) → IsValue v → IsSumWithin 1 (as_number v)
value-within (value.Bool b) is = tt
value-within (value.I32 n) is = (omega (arith, ints, is), omega (arith, ints, is))
value-within (value.I64 n) is = (omega (arith, ints, is), omega (arith, ints, is))
value-within (value.Text bytes) is = tt

sum-within : (points : List Point) → All (λ (point : Point). IsValue point.value) points → IsSumWithin (length points) (sum_of points)
sum-within [] are = tt
sum-within (p ∷ ps) are =
    let first : IsSumWithin 1 (sum_of (p ∷ [])) = one p.value (All-head (λ (point : Point). IsValue point.value) p ps are) in
    let both = joined-within 1 (length ps) (sum_of (p ∷ [])) (sum_of ps) first (sum-within ps (All-tail (λ (point : Point). IsValue point.value) p ps are)) in
    more-within (1 + length ps) (length (p ∷ ps)) (sum_of (p ∷ ps)) (omega arith) (subst (IsSumWithin (1 + length ps)) (sym (sum-both (p ∷ []) ps)) both)
  where
    alone : (n : Option ℤ) → n ≡ reduce plus (cons_option n [])
    alone None = refl
    alone (Some x) = refl

    one : (v : Value) → IsValue v → IsSumWithin 1 (reduce plus (cons_option (as_number v) []))
    one v is = subst (IsSumWithin 1) (alone (as_number v)) (value-within v is)

-- the sum of fewer than 2^64 values has 128 bits
pub sum-fits : (points : List Point) (s : ℤ) → All (λ (point : Point). IsValue point.value) points → length points < 2 ^ 64 → sum_of points ≡ Some s → FitsSigned w128 s
sum-fits points s are few is =
    let within : IsWithinCount (length points) s = subst (IsSumWithin (length points)) is (sum-within points are) in
    omega (arith, ints, few, within.0, within.1)
