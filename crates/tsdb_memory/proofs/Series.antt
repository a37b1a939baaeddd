-- The points of one series of a pair, where it has become another.
use Rattle.std.proofs.Common.{◌≡◌, ◌≢◌, ℕ, Bool, true, false, cond, Option, Some, None, Ordering}
use Rattle.std.proofs.Common.{refl, sym, ap, subst, ◌∙◌}
use Rattle.std.specs.Prelude.{IsSome}
use Rattle.std.specs.Cmp.{nat_cmp_total, eq_by_cmp_equiv, tied_itself}
use Rattle.std.specs.FinMap.{nat_cmp-IsAntisymmetric}
use Rattle.std.specs.List.{filter}
use Rattle.std.specs.Map.{lookup}
use Rattle.std.specs.Option.{unwrap_or}
use Rattle.std.specs.Ordering.{eq_by_cmp, is_eq, nat_cmp}
use Rattle.std.specs.declared.cmp.Ordering.TheVariants.{Less, Equal, Greater}
use Rattle.std.proofs.lemmas.Bool.{false≢true}
use Rattle.std.proofs.lemmas.Map.{lookup-set_value}
use Rattle.tsdb_base.specs.declared.ids.Space.{Space}
use Rattle.tsdb_base.specs.declared.ids.Space.TheVariants.{Sequence, Unsequence}
use Rattle.tsdb_base.specs.declared.point.Range.{Range}
use Rattle.tsdb_memtable.proofs.PairLemmas.{set-none}
use Rattle.tsdb_memtable.specs.Pairs.{Pair, SeriesPoints, blank, change_points, is_series, points_in, points_of, series_at}
use Rattle.tsdb_memtable.specs.Pairs.{without_range}
use Rattle.tsdb_memtable.specs.Points.{is_outside}

equal_by : (o : Ordering) → is_eq o ≡ true → o ≡ Equal
equal_by Less p = absurd (false≢true p)
equal_by Equal p = refl
equal_by Greater p = absurd (false≢true p)

pub one_number : (a b : ℕ) → eq_by_cmp nat_cmp a b ≡ true → a ≡ b
one_number a b t = nat_cmp-IsAntisymmetric a b (equal_by (nat_cmp a b) t)

pub itself : (a : ℕ) → eq_by_cmp nat_cmp a a ≡ true
itself a = ap is_eq (tied_itself nat_cmp_total a)

lookup_change : (n : ℕ) (f : SeriesPoints → SeriesPoints) (pair : Pair) (m : ℕ) → IsSome (lookup (is_series n) pair)
    → lookup (is_series m) (change_points n f pair)
    ≡ cond (is_series n m) (Some (f (series_at n pair))) (lookup (is_series m) pair)
lookup_change n f pair m there =
    lookup-set_value (eq_by_cmp_equiv nat_cmp_total) (is_series n)
    (λ x y t. ap (λ k. eq_by_cmp nat_cmp k y) (one_number n x t)) m (f (series_at n pair)) pair there

pub changed_here : (space : Space) (n : ℕ) (f : SeriesPoints → SeriesPoints) (pair : Pair)
    → IsSome (lookup (is_series n) pair)
    → points_of space n (change_points n f pair) ≡ points_in space (f (series_at n pair))
changed_here space n f pair there =
    ap (λ o. points_in space (unwrap_or o blank))
    (lookup_change n f pair n there ∙ ap
    (λ b. cond b (Some (f (series_at n pair))) (lookup (is_series n) pair)) (itself n))

pub changed_there : (n : ℕ) (f : SeriesPoints → SeriesPoints) (pair : Pair) (m : ℕ)
    → IsSome (lookup (is_series n) pair) → n ≢ m → series_at m (change_points n f pair) ≡ series_at m pair
changed_there n f pair m there apart = cases (is_series n m) refl
  where
    cases : (b : Bool) → is_series n m ≡ b → series_at m (change_points n f pair) ≡ series_at m pair
    cases true t = absurd (apart (one_number n m t))
    cases false t = ap (λ o. unwrap_or o blank)
        (lookup_change n f pair m there ∙ ap
        (λ b. cond b (Some (f (series_at n pair))) (lookup (is_series m) pair)) t)

-- after a deletion
pub erased_here : (space : Space) (n : ℕ) (range : Range) (pair : Pair)
    → points_of space n (change_points n (without_range range) pair)
    ≡ filter (is_outside range) (points_of space n pair)
erased_here space n range pair = cases (lookup (is_series n) pair) refl
  where
    each : (s : Space) (v : SeriesPoints)
        → points_in s (without_range range v) ≡ filter (is_outside range) (points_in s v)
    each Sequence v = refl
    each Unsequence v = refl

    none : (s : Space) → points_in s blank ≡ filter (is_outside range) (points_in s blank)
    none Sequence = refl
    none Unsequence = refl

    cases : (o : Option SeriesPoints) → lookup (is_series n) pair ≡ o
        → points_of space n (change_points n (without_range range) pair)
        ≡ filter (is_outside range) (points_of space n pair)
    cases None e =
        ap (points_of space n) (set-none n pair (without_range range (series_at n pair)) e)
        ∙ ap (λ o. points_in space (unwrap_or o blank)) e ∙ none space
        ∙ ap (λ o. filter (is_outside range) (points_in space (unwrap_or o blank))) (sym e)
    cases (Some v) e = changed_here space n (without_range range) pair (subst IsSome (sym e) refl)
        ∙ each space (series_at n pair)

pub erased_there : (space : Space) (n : ℕ) (range : Range) (pair : Pair) (m : ℕ) → n ≢ m
    → points_of space m (change_points n (without_range range) pair) ≡ points_of space m pair
erased_there space n range pair m apart = cases (lookup (is_series n) pair) refl
  where
    cases : (o : Option SeriesPoints) → lookup (is_series n) pair ≡ o
        → points_of space m (change_points n (without_range range) pair) ≡ points_of space m pair
    cases None e = ap (points_of space m)
        (set-none n pair (without_range range (series_at n pair)) e)
    cases (Some v) e = ap (points_in space)
        (changed_there n (without_range range) pair m (subst IsSome (sym e) refl) apart)
