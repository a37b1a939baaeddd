-- Ranges of times, and the conditions that they stand for.
use Rattle.std.proofs.Common.{◌≡◌, ℕ, ◌+◌, ◌<◌, true, List, [], ◌∷◌, length, get_or, take, sym, subst, arith}
use Rattle.std.specs.Prelude.{ℤ, ◌≤ℤ◌, ◌↔◌, ◌&&◌, int_le, FitsSigned}
use Rattle.std.specs.Int.{w64}
use Rattle.std.proofs.lemmas.Int.{ints}
use Rattle.tsdb_script.specs.Types.{Condition, Range}
use Rattle.tsdb_model.specs.World.{is_in}
use Rattle.tsdb_script.specs.Meaning.{Compares, IsInteger, IsRangeOf, MeetsCondition}
use Rattle.tsdb_script.specs.Steps.{HasRangeForm}
use Rattle.tsdb_script.proofs.WordLists.{AllByRecursion-append, AllByRecursion-split, next}

pub not_before : (f t x : ℤ) → (int_le f x && int_le x t) ≡ true → f ≤ℤ x
not_before f t x e = grind (arith, ints)

pub not_behind : (f t x : ℤ) → (int_le f x && int_le x t) ≡ true → x ≤ℤ t
not_behind f t x e = grind (arith, ints)

pub within : (f t x : ℤ) → f ≤ℤ x → x ≤ℤ t → (int_le f x && int_le x t) ≡ true
within f t x low high = grind (arith, ints)

-- one condition more
pub range_next : (conditions : List Condition) (i : ℕ) (x : Condition) (n : ℤ) (old bounds new : Range) → i < length conditions → x ≡ get_or conditions i x
    → IsRangeOf (take i conditions) old → IsInteger x.number n
    → ((time : ℤ) → FitsSigned w64 time → (is_in bounds time ≡ true) ↔ Compares x.comparison time n)
    → ((time : ℤ) → FitsSigned w64 time → (is_in new time ≡ true) ↔ ((is_in old time ≡ true) × (is_in bounds time ≡ true)))
    → HasRangeForm new → IsRangeOf (take (i + 1) conditions) new
range_next conditions i x n old bounds new lt e before integer narrows meets form = record {
  times = λ time fits. rw (next conditions i x lt e) (
    (λ is. let both = (meets time fits).0 is in
        AllByRecursion-append (MeetsCondition time) (take i conditions) (x ∷ []) ((before.times time fits).0 both.0)
        (subst (λ m. Compares x.comparison time m) integer.value ((narrows time fits).0 both.1), tt)),
    (λ all. let parts = AllByRecursion-split (MeetsCondition time) (take i conditions) (x ∷ []) all in
        (meets time fits).1 ((before.times time fits).1 parts.0, (narrows time fits).1 (subst (λ m. Compares x.comparison time m) (sym integer.value) parts.1.0))),
  );
  from = form.from;
  to = form.to;
  form = form.form;
}
