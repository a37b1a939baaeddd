-- The tests of times by their order are those of whole numbers.
use Rattle.std.proofs.Common.{◌≡◌, ℤ, Bool, true, false, cond, not, refl, sym, ap, ◌∙◌, subst, arith}
use Rattle.std.specs.Prelude.{T, ◌≤ℤ◌, ◌<ℤ◌, int_le, int_lt}
use Rattle.std.specs.Ordering.{int_cmp, is_lt, is_le}
use Rattle.std.proofs.lemmas.Int.{ints}
use lib.Signed.{clash_ℤ, lt_z_no}
use Rattle.std.specs.declared.cmp.Ordering.TheVariants.{Less, Equal, Greater}

-- the tests of an ordered map's range are those of a range of time
pub below : (a b : ℤ) → a <ℤ b → b <ℤ a → ⊥
below a b h k = omega (arith, ints)

pub true_of : (b : Bool) → T b → b ≡ true
true_of true h = refl
true_of false h = absurd h

pub of_true : (b : Bool) → b ≡ true → T b
of_true true e = tt
of_true false e = cc

pub le-lt : (a b : ℤ) → int_le b a ≡ not (int_lt a b)
le-lt a b = elim (int_lt a b) as (λ t. int_lt a b ≡ t → int_le b a ≡ not t) [
  | true ↦ λ e. elim (int_le b a) as (λ u. int_le b a ≡ u → u ≡ false) [
    | true ↦ λ f. absurd (clash_ℤ {a = a} {b = b} (record { lt = of_true _ e }) (record { le = of_true _ f }))
    | false ↦ λ f. refl
  ] refl
  | false ↦ λ e. true_of _ (lt_z_no {a = a} {b = b} (subst (λ t. T (not t)) (sym e) tt)).le
] refl

pub one_way : (a b : ℤ) → int_lt a b ≡ true → int_lt b a ≡ false
one_way a b e = elim (int_lt b a) as (λ t. int_lt b a ≡ t → t ≡ false) [
  | true ↦ λ f. absurd (below a b (record { lt = of_true _ e }) (record { lt = of_true _ f }))
  | false ↦ λ f. refl
] refl

pub le-cond : (b : Bool) → is_le (cond b Greater Equal) ≡ not b
le-cond true = refl
le-cond false = refl

pub lt-cond : (b : Bool) → is_lt (cond b Greater Equal) ≡ false
lt-cond true = refl
lt-cond false = refl

pub le-cmp : (a b : ℤ) → is_le (int_cmp a b) ≡ int_le a b
le-cmp a b = elim (int_lt a b) as (λ t. int_lt a b ≡ t → is_le (cond t Less (cond (int_lt b a) Greater Equal)) ≡ not (int_lt b a)) [
  | true ↦ λ e. sym (ap not (one_way a b e))
  | false ↦ λ e. le-cond (int_lt b a)
] refl ∙ sym (le-lt b a)

pub lt-cmp : (a b : ℤ) → not (is_lt (int_cmp a b)) ≡ int_le b a
lt-cmp a b = ap not (elim (int_lt a b) as (λ t. is_lt (cond t Less (cond (int_lt b a) Greater Equal)) ≡ t) [
  | true ↦ refl
  | false ↦ lt-cond (int_lt b a)
]) ∙ sym (le-lt a b)
