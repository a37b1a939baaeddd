-- What an ordered map has after a run was put into it, and the run behind it was removed.
use Rattle.std.proofs.Common.{◌≡◌, ◌≢◌, ℕ, ◌+◌, ◌≤◌, Bool, true, false, cond, Some, None, refl, sym, ap, ◌∙◌, arith}
use Rattle.std.specs.BTreeMap.{BTreeMap, Updates, get}
use Rattle.std.specs.Cmp.{ranked}
use Rattle.std.specs.Ordering.{is_eq, nat_cmp}
use Rattle.std.specs.declared.cmp.Ordering.TheVariants.{Equal, Greater, Less}
use Rattle.std.proofs.Common.{Ordering}
use Rattle.tsdb_redo.specs.NamedNumbers.{run_from}

same_key : (a : ℕ) → is_eq (nat_cmp a a) ≡ true
same_key a = by (nat_cmp a a) refl
  where
    by : (o : Ordering) → o ≡ nat_cmp a a → is_eq o ≡ true
    by Less e = absurd (omega (arith, ranked a a Less e))
    by Equal e = refl
    by Greater e = absurd (omega (arith, ranked a a Greater e))

other_key : (a b : ℕ) → a ≢ b → is_eq (nat_cmp a b) ≡ false
other_key a b apart = by (nat_cmp a b) refl
  where
    by : (o : Ordering) → o ≡ nat_cmp a b → is_eq o ≡ false
    by Less e = refl
    by Equal e = absurd (apart (ranked a b Equal e))
    by Greater e = refl

chosen : {X : Type 0} (b : Bool) (x y : X) → b ≡ true → cond b x y ≡ x
chosen b x y e = ap (λ b. cond b x y) e

passed : {X : Type 0} (b : Bool) (x y : X) → b ≡ false → cond b x y ≡ y
passed b x y e = ap (λ b. cond b x y) e

module _ (old middle new : BTreeMap ℕ ℕ) (number first last : ℕ) where
  pub joined_gone : Updates nat_cmp old middle first (Some last) → Updates nat_cmp middle new (number + 1) None
      → run_from (number + 1) new.entries ≡ None
  joined_gone put taken = taken.1

  pub joined_here : first ≤ number → Updates nat_cmp old middle first (Some last)
      → Updates nat_cmp middle new (number + 1) None → run_from first new.entries ≡ Some last
  joined_here low put taken = taken.0 first
      ∙ passed (is_eq (nat_cmp (number + 1) first)) None (get nat_cmp middle first)
      (other_key (number + 1) first (λ e. omega (arith, e, low)))
      ∙ put.1

  pub joined_others : Updates nat_cmp old middle first (Some last) → Updates nat_cmp middle new (number + 1) None
      → (other : ℕ) → other ≢ first → other ≢ number + 1 → run_from other new.entries ≡ run_from other old.entries
  joined_others put taken other apart behind = taken.0 other
      ∙ passed (is_eq (nat_cmp (number + 1) other)) None (get nat_cmp middle other)
      (other_key (number + 1) other (λ e. behind (sym e)))
      ∙ put.0 other
      ∙ passed (is_eq (nat_cmp first other)) (Some last) (get nat_cmp old other)
      (other_key first other (λ e. apart (sym e)))
