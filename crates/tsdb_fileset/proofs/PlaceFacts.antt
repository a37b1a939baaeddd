-- What stands at a place once another place has changed.
use Rattle.std.proofs.Common.{◌≡◌, ◌≢◌, ℕ, Bool, true, false, cond, [], ◌∷◌, Some, None, refl, sym, ap, ◌∙◌}
use Rattle.std.proofs.Common.{arith, nat_eq, ◌<◌, Option, subst, Less}
use Rattle.std.specs.Prelude.{◌||◌, IfSome}
use Rattle.std.specs.Cmp.{Equal-is, ranks}
use Rattle.std.specs.Ordering.{MatchOrdering, is_eq, nat_cmp}
use Rattle.std.specs.List.{All, AllByRecursion as Each}
use Rattle.std.specs.BTreeMap.Range.{IsLtBy}
use Rattle.std.specs.Map.{keys_of}
use Rattle.std.proofs.lemmas.List.Elements.{recursion_from_All}
use Rattle.std.proofs.lemmas.Bool.{eq-eqb, eqb-true, false≢true}
use Rattle.std.proofs.lemmas.Bool.Decides.{nat_tests}
use Rattle.std.proofs.lemmas.Cmp.{nat_cmp_total, tied_itself}
use Rattle.std.proofs.lemmas.Bool.{false_from_ne_true}
use Rattle.std.proofs.lemmas.Map.Lookups.{exact_unsigned}
use Rattle.tsdb_fileset.specs.Places.{AllFiles, KeptFile, OnlyMakesPlaces, OthersStay, Places, TakesAway, file_at}
use Rattle.tsdb_fileset.specs.Places.{is_same_number, is_one_of, place_of_number}

pub same_number : (number other : ℕ) → is_same_number number other ≡ true → number ≡ other
same_number number other is = exact_unsigned number other ((Equal-is (nat_cmp number other)).0 is)

pub other_number : (number other : ℕ) → number ≢ other → is_same_number number other ≡ false
other_number number other apart = false_from_ne_true _ (λ is. apart (same_number number other is))

-- a place is made where there was none
pub place_made : (number : ℕ) (old new : Places) → place_of_number number old ≡ None
    → ((other : ℕ) → place_of_number other new ≡ cond (is_same_number number other) (Some None) (place_of_number other old))
    → OnlyMakesPlaces old new
place_made number old new none set = record {
  files = λ other. ap file_at (set other) ∙ file other (is_same_number number other) refl;
  places = λ other empty. set other ∙ place other empty (is_same_number number other);
}
  where
    file : (other : ℕ) (b : Bool) → is_same_number number other ≡ b
        → file_at (cond b (Some None) (place_of_number other old)) ≡ file_at (place_of_number other old)
    file other true is = sym (ap file_at (ap (λ n. place_of_number n old) (sym (same_number number other is)) ∙ none))
    file other false is = refl

    place : (other : ℕ) → place_of_number other old ≡ Some None → (b : Bool)
        → cond b (Some None) (place_of_number other old) ≡ Some None
    place other empty true = refl
    place other empty false = empty

-- one place goes
pub one_taken : (number : ℕ) (old new : Places)
    → ((other : ℕ) → place_of_number other new ≡ cond (is_same_number number other) None (place_of_number other old))
    → TakesAway (number ∷ []) old new
one_taken number old new set other =
    set other ∙ ap (λ b. cond b None (place_of_number other old)) (same_test (is_same_number number other) refl)
  where
    same : (a b : ℕ) → a ≡ b → nat_eq b a ≡ true
    same a b e = grind (arith, nat_tests)

    equal : (a b : ℕ) → nat_eq b a ≡ true → a ≡ b
    equal a b e = grind (arith, nat_tests)

    is_same : (a b : ℕ) → a ≡ b → is_same_number a b ≡ true
    is_same a b e = ap (is_same_number a) (sym e) ∙ ap is_eq (tied_itself nat_cmp_total a)

    same_test : (b : Bool) → is_same_number number other ≡ b → is_same_number number other ≡ is_one_of (number ∷ []) other
    same_test true is = is ∙ sym (ap (λ b. b || false) (same number other (same_number number other is)))
    same_test false is = is ∙ by (nat_eq other number) refl
      where
        by : (b : Bool) → nat_eq other number ≡ b → false ≡ (nat_eq other number || false)
        by false e = sym (ap (λ b. b || false) e)
        by true e = absurd (false≢true (sym is ∙ is_same number other (equal number other e)))

-- what holds of each file, and of what has come to one place, holds of each
pub all_with : (Q : KeptFile → Type 0) (number : ℕ) (file : Option KeptFile) (old new : Places)
    → file_at (place_of_number number new) ≡ file → OthersStay number old new → IfSome file Q → AllFiles Q old
    → AllFiles Q new
all_with Q number file old new here others this all n = by (nat_eq number n) refl
  where
    by : (b : Bool) → nat_eq number n ≡ b → IfSome (file_at (place_of_number n new)) Q
    by true is = subst (λ m. IfSome (file_at (place_of_number m new)) Q) (eqb-true number n is)
        (subst (λ found. IfSome found Q) (sym here) this)
    by false is = subst (λ place. IfSome (file_at place) Q)
        (sym (others n (λ same. false≢true (sym is ∙ eq-eqb number n same)))) (all n)

-- the numbers behind the first are above it
pub all_above : (number : ℕ) (places : Places) → All (IsLtBy nat_cmp number) (keys_of places)
    → Each (λ (other : ℕ × Option KeptFile). number < other.0) places
all_above number places above = over places (recursion_from_All (IsLtBy nat_cmp number) (keys_of places) above)
  where
    less_from : (a b : ℕ) → nat_cmp a b ≡ Less → a < b
    less_from a b is = subst (λ order. MatchOrdering order (a < b) (a ≡ b) (b < a)) is (ranks a b)

    over : (places : Places) → Each (IsLtBy nat_cmp number) (keys_of places)
        → Each (λ (other : ℕ × Option KeptFile). number < other.0) places
    over [] above = tt
    over (place ∷ places) above = (less_from number place.0 above.0, over places above.1)
