-- Which numbers are named after a step, and which can be.
use Rattle.std.proofs.Common.{◌≡◌, ◌⊎◌, inl, inr, ⊎_elim, ℕ, ◌==◌, Bool, true, false, cond, List, [], ◌∷◌}
use Rattle.std.proofs.Common.{sym, subst}
use Rattle.std.proofs.Common.{Err, Ok, arith, not, refl, ◌<◌}
use Rattle.std.proofs.lemmas.Bool.{false≢true}
use Rattle.tsdb_base.specs.Limits.{end_of_numbers}
use Rattle.std.specs.Prelude.{◌↔◌, IsTrue, OnErr}
use Rattle.std.specs.declared.result.Result.{Result}
use Rattle.std.specs.List.{AllByRecursion as Each}
use Rattle.tsdb_base.specs.Lists.{Among}
use Rattle.tsdb_redo.specs.NamedNumbers.{CanName, IsNamed, Named, NamesMore}
use Rattle.tsdb_state.specs.Records.{new_numbers}

-- the new numbers of two are those of the one and those of the other
pub of_two : (first second n : ℕ) → Among n (new_numbers (first ∷ second ∷ []))
    → Among n (new_numbers (first ∷ [])) ⊎ Among n (new_numbers (second ∷ []))
of_two first second n among = by (first == 0) among
  where
    by : (b : Bool) → Among n (cond b (new_numbers (second ∷ [])) (first ∷ new_numbers (second ∷ [])))
        → Among n (cond b [] (first ∷ [])) ⊎ Among n (new_numbers (second ∷ []))
    by true among = inr among
    by false (inl same) = inl (inl same)
    by false (inr among) = inr among

pub one_of_two : (first second n : ℕ)
    → Among n (new_numbers (first ∷ [])) ⊎ Among n (new_numbers (second ∷ []))
    → Among n (new_numbers (first ∷ second ∷ []))
one_of_two first second n among = by (first == 0) among
  where
    by : (b : Bool) → Among n (cond b [] (first ∷ [])) ⊎ Among n (new_numbers (second ∷ []))
        → Among n (cond b (new_numbers (second ∷ [])) (first ∷ new_numbers (second ∷ [])))
    by true (inl among) = absurd among
    by true (inr among) = among
    by false (inl (inl same)) = inl same
    by false (inl (inr among)) = absurd among
    by false (inr among) = inr among

-- one step, and then another
pub names_both : (first second : List ℕ) (all : List ℕ) (old middle new : Named)
    → ((n : ℕ) → Among n all ↔ (Among n first ⊎ Among n second))
    → NamesMore first old middle → NamesMore second middle new → NamesMore all old new
names_both first second all old middle new are one other number = (
  λ named. ⊎_elim (λ among. inl ((are number).1 (inr among)))
      (λ was. ⊎_elim (λ among. inl ((are number).1 (inl among))) (λ before. inr before) ((one number).0 was))
      ((other number).0 named),
  λ named. ⊎_elim
      (λ among. ⊎_elim (λ early. (other number).1 (inr ((one number).1 (inl early))))
      (λ late. (other number).1 (inl late)) ((are number).0 among))
      (λ was. (other number).1 (inr ((one number).1 (inr was)))) named,
)

neither : {X Y : Type 0} → (X → ⊥) → (Y → ⊥) → (X ⊎ Y) → ⊥
neither not_x not_y (inl x) = not_x x
neither not_x not_y (inr y) = not_y y

none_of_none : (n : ℕ) → Among n [] ↔ (Among n [] ⊎ Among n [])
none_of_none n = (λ among. absurd among, λ among. neither (λ x. x) (λ x. x) among)

-- two steps that name nothing
pub names_none_twice : (old middle new : Named) → NamesMore [] old middle → NamesMore [] middle new
    → NamesMore [] old new
names_none_twice old middle new one other = names_both [] [] [] old middle new none_of_none one other

-- nothing, then the first number, then the second
pub names_two : (first second : ℕ) (old settled middle new : Named) → NamesMore [] old settled
    → NamesMore (new_numbers (first ∷ [])) settled middle → NamesMore (new_numbers (second ∷ [])) middle new
    → NamesMore (new_numbers (first ∷ second ∷ [])) old new
names_two first second old settled middle new none one other =
    names_both (new_numbers (first ∷ [])) (new_numbers (second ∷ [])) (new_numbers (first ∷ second ∷ [])) old middle new
    (λ n. (of_two first second n, one_of_two first second n))
    (names_both [] (new_numbers (first ∷ [])) (new_numbers (first ∷ [])) old settled middle
    (λ n. (λ among. inr among, λ among. ⊎_elim (λ none. absurd none) (λ x. x) among)) none one)
    other

-- what holds anyway holds of an error
pub on_err : {T E P : Type 0} (r : Result T E) → P → OnErr r P
on_err (Ok x) p = tt
on_err (Err x) p = p

-- what can be named of two numbers

pub can_first : (named : Named) (first second : ℕ) → CanName named (new_numbers (first ∷ second ∷ []))
    → CanName named (new_numbers (first ∷ []))
can_first named first second can = by (first == 0) can
  where
    by : (b : Bool) → CanName named (cond b (new_numbers (second ∷ [])) (first ∷ new_numbers (second ∷ [])))
        → CanName named (cond b [] (first ∷ []))
    by true can = record { within = tt; unnamed = tt; differ = tt }
    by false can = record { within = (can.within.0, tt); unnamed = (can.unnamed.0, tt); differ = (tt, tt) }

-- what can be named still can, where nothing was named
pub can_still : (numbers : List ℕ) (old new : Named) → NamesMore [] old new → CanName old numbers → CanName new numbers
can_still numbers old new same can = record {
  within = can.within;
  unnamed = each_still numbers can.unnamed;
  differ = can.differ;
}
  where
    each_still : (numbers : List ℕ) → Each (λ n. ¬ IsNamed old n) numbers → Each (λ n. ¬ IsNamed new n) numbers
    each_still [] none = tt
    each_still (n ∷ ns) none = (
      λ named. ⊎_elim (λ never. never) (λ was. none.0 was) ((same n).0 named),
      each_still ns none.1,
    )

-- the second number can be named after the first
pub can_second : (first second : ℕ) (old middle : Named) → NamesMore (new_numbers (first ∷ [])) old middle
    → CanName old (new_numbers (first ∷ second ∷ [])) → CanName middle (new_numbers (second ∷ []))
can_second first second old middle more can = by (first == 0) (second == 0) more can
  where
    free : (b : Bool) → ((n : ℕ) → IsNamed middle n ↔ (Among n (cond b [] (first ∷ [])) ⊎ IsNamed old n)) → (n : ℕ)
        → (IsNamed old n → ⊥) → (Among n (cond b [] (first ∷ [])) → ⊥) → IsNamed middle n → ⊥
    free b more n not_old not_first named = neither not_first not_old ((more n).0 named)

    by : (b c : Bool) → ((n : ℕ) → IsNamed middle n ↔ (Among n (cond b [] (first ∷ [])) ⊎ IsNamed old n))
        → CanName old (cond b (cond c [] (second ∷ [])) (first ∷ cond c [] (second ∷ [])))
        → CanName middle (cond c [] (second ∷ []))
    by b true more can = record { within = tt; unnamed = tt; differ = tt }
    by true false more can = record {
      within = can.within;
      unnamed = (free true more second can.unnamed.0 (λ none. none), tt);
      differ = (tt, tt);
    }
    by false false more can = record {
      within = can.within.1;
      unnamed = (
        free false more second can.unnamed.1.0 (λ among. neither (λ same. can.differ.0.0 same) (λ none. none) among),
        tt,
      );
      differ = (tt, tt);
    }

nonzero : (number : ℕ) → (number ≡ 0 → ⊥) → (number == 0) ≡ false
nonzero number some = by (number == 0) refl
  where
    zero : (number == 0) ≡ true → number ≡ 0
    zero e = grind (arith, e)

    by : (b : Bool) → (number == 0) ≡ b → b ≡ false
    by true e = absurd (some (zero e))
    by false e = refl

-- a number can be named exactly where it is not named
pub free_by : (named : Named) (number : ℕ) (b : Bool) → (number ≡ 0 → ⊥) → number < end_of_numbers
    → (IsTrue b ↔ IsNamed named number) → IsTrue (not b) ↔ CanName named (new_numbers (number ∷ []))
free_by named number b some within is = subst (λ t. IsTrue (not b) ↔ CanName named (cond t [] (number ∷ [])))
    (sym (nonzero number some)) (by b is)
  where
    by : (b : Bool) → (IsTrue b ↔ IsNamed named number) → IsTrue (not b) ↔ CanName named (number ∷ [])
    by true is = (λ yes. absurd (false≢true yes), λ can. absurd (can.unnamed.0 (is.0 refl)))
    by false is = (
      λ yes. record { within = (within, tt); unnamed = (λ named. false≢true (is.1 named), tt); differ = (tt, tt) },
      λ can. refl,
    )
