-- The span of hulls: all times lie in it, and its ends are those of hulls.
use Rattle.std.proofs.Common.{◌≡◌, ◌⊎◌, ℤ, Bool, true, false, cond, inl, inr, List, [], ◌∷◌, map, fold}
use Rattle.std.proofs.Common.{ap, arith, refl, sym, subst, ◌∙◌}
use Rattle.std.specs.Prelude.{◌≤ℤ◌, int_lt}
use Rattle.std.specs.Int.{int_max, int_min}
use Rattle.std.proofs.lemmas.Int.{fold-int_max_bounds, fold-int_min_bounds, ints}
use Rattle.std.proofs.lemmas.List.Elements.{All-head}
use Rattle.tsdb_base.specs.Lists.{Among}
use Rattle.tsdb_fileset.specs.Lines.{hulls_end, hulls_start}
use Rattle.tsdb_plan.specs.declared.entry.Hull.{Hull}

-- a hull with this bound
pub record HasBound (bound : Hull → ℤ) (hulls : List Hull) (time : ℤ) : Type 0 where
  pub hull : Hull
  pub among : Among hull hulls
  pub is : bound hull ≡ time

module _ (pick : ℤ → ℤ → ℤ) (Under : ℤ → ℤ → Type 0) (trans : (a b c : ℤ) → Under a b → Under b c → Under a c)
    (itself : (a : ℤ) → Under a a) (left : (a b : ℤ) → Under (pick a b) a) (right : (a b : ℤ) → Under (pick a b) b)
    (one : (a b : ℤ) → (pick a b ≡ a) ⊎ (pick a b ≡ b)) (bound : Hull → ℤ) where
  under_first : (first : ℤ) (hulls : List Hull) → Under (fold pick first (map bound hulls)) first
  under_first first [] = itself first
  under_first first (hull ∷ hulls) = trans (fold pick (pick first (bound hull)) (map bound hulls)) (pick first (bound hull))
      first (under_first (pick first (bound hull)) hulls) (left first (bound hull))

  under_each : (first : ℤ) (hulls : List Hull) (hull : Hull) → Among hull hulls
      → Under (fold pick first (map bound hulls)) (bound hull)
  under_each first [] hull among = absurd among
  under_each first (other ∷ hulls) hull (inl same) =
      subst (λ (h : Hull). Under (fold pick (pick first (bound other)) (map bound hulls)) (bound h)) same
      (trans (fold pick (pick first (bound other)) (map bound hulls)) (pick first (bound other)) (bound other)
      (under_first (pick first (bound other)) hulls) (right first (bound other)))
  under_each first (other ∷ hulls) hull (inr among) = under_each (pick first (bound other)) hulls hull among

  reached : (first : ℤ) (hulls : List Hull)
      → (fold pick first (map bound hulls) ≡ first) ⊎ HasBound bound hulls (fold pick first (map bound hulls))
  reached first [] = inl refl
  reached first (hull ∷ hulls) = by (one first (bound hull)) (reached (pick first (bound hull)) hulls)
    where
      by : (pick first (bound hull) ≡ first) ⊎ (pick first (bound hull) ≡ bound hull)
          → (fold pick (pick first (bound hull)) (map bound hulls) ≡ pick first (bound hull))
          ⊎ HasBound bound hulls (fold pick (pick first (bound hull)) (map bound hulls))
          → (fold pick (pick first (bound hull)) (map bound hulls) ≡ first)
          ⊎ HasBound bound (hull ∷ hulls) (fold pick (pick first (bound hull)) (map bound hulls))
      by picked (inr found) = inr (record { hull = found.hull; among = inr found.among; is = found.is })
      by (inl first_is) (inl is) = inl (is ∙ first_is)
      by (inr hull_is) (inl is) = inr (record { hull = hull; among = inl refl; is = sym (is ∙ hull_is) })

  -- of hulls of which there is a first
  pub bounds_each : (first : Hull) (hulls : List Hull) (hull : Hull) → Among hull (first ∷ hulls)
      → Under (fold pick (bound first) (map bound hulls)) (bound hull)
  bounds_each first hulls hull (inl same) =
      subst (λ (h : Hull). Under (fold pick (bound first) (map bound hulls)) (bound h)) same
      (under_first (bound first) hulls)
  bounds_each first hulls hull (inr among) = under_each (bound first) hulls hull among

  pub is_bound : (first : Hull) (hulls : List Hull)
      → HasBound bound (first ∷ hulls) (fold pick (bound first) (map bound hulls))
  is_bound first hulls = by (reached (bound first) hulls)
    where
      by : (fold pick (bound first) (map bound hulls) ≡ bound first)
          ⊎ HasBound bound hulls (fold pick (bound first) (map bound hulls))
          → HasBound bound (first ∷ hulls) (fold pick (bound first) (map bound hulls))
      by (inl is) = record { hull = first; among = inl refl; is = sym is }
      by (inr found) = record { hull = found.hull; among = inr found.among; is = found.is }

-- the lesser of two, and the greater
one_least : (a b : ℤ) → (int_min a b ≡ a) ⊎ (int_min a b ≡ b)
one_least a b = by (int_lt b a) refl
  where
    by : (c : Bool) → int_lt b a ≡ c → (int_min a b ≡ a) ⊎ (int_min a b ≡ b)
    by true less = inr (ap (λ c. cond c b a) less)
    by false less = inl (ap (λ c. cond c b a) less)

one_greatest : (a b : ℤ) → (int_max a b ≡ a) ⊎ (int_max a b ≡ b)
one_greatest a b = by (int_lt b a) refl
  where
    by : (c : Bool) → int_lt b a ≡ c → (int_max a b ≡ a) ⊎ (int_max a b ≡ b)
    by true less = inl (ap (λ c. cond c a b) less)
    by false less = inr (ap (λ c. cond c a b) less)

least_first : (a b : ℤ) → int_min a b ≤ℤ a
least_first a b = (fold-int_min_bounds a (b ∷ []) (int_min a b) refl).0

least_second : (a b : ℤ) → int_min a b ≤ℤ b
least_second a b = All-head (λ (x : ℤ). int_min a b ≤ℤ x) b [] (fold-int_min_bounds a (b ∷ []) (int_min a b) refl).1

greatest_first : (a b : ℤ) → a ≤ℤ int_max a b
greatest_first a b = (fold-int_max_bounds a (b ∷ []) (int_max a b) refl).0

greatest_second : (a b : ℤ) → b ≤ℤ int_max a b
greatest_second a b = All-head (λ (x : ℤ). x ≤ℤ int_max a b) b [] (fold-int_max_bounds a (b ∷ []) (int_max a b) refl).1

at_most : (a b c : ℤ) → a ≤ℤ b → b ≤ℤ c → a ≤ℤ c
at_most a b c first second = omega (arith, ints, first, second)

pub least_each : (first : Hull) (hulls : List Hull) (hull : Hull) → Among hull (first ∷ hulls)
    → hulls_start (first ∷ hulls) ≤ℤ hull.from
least_each = bounds_each int_min (λ a b. a ≤ℤ b) at_most (λ a. omega (arith, ints)) least_first least_second one_least
    (λ hull. hull.from)

pub least_is : (first : Hull) (hulls : List Hull) → HasBound (λ hull. hull.from) (first ∷ hulls) (hulls_start (first ∷ hulls))
least_is = is_bound int_min (λ a b. a ≤ℤ b) at_most (λ a. omega (arith, ints)) least_first least_second one_least
    (λ hull. hull.from)

pub greatest_each : (first : Hull) (hulls : List Hull) (hull : Hull) → Among hull (first ∷ hulls)
    → hull.to ≤ℤ hulls_end (first ∷ hulls)
greatest_each = bounds_each int_max (λ a b. b ≤ℤ a) (λ a b c first second. at_most c b a second first)
    (λ a. omega (arith, ints)) greatest_first greatest_second one_greatest (λ hull. hull.to)

pub greatest_is : (first : Hull) (hulls : List Hull)
    → HasBound (λ hull. hull.to) (first ∷ hulls) (hulls_end (first ∷ hulls))
greatest_is = is_bound int_max (λ a b. b ≤ℤ a) (λ a b c first second. at_most c b a second first)
    (λ a. omega (arith, ints)) greatest_first greatest_second one_greatest (λ hull. hull.to)
