-- The least and the greatest of lists that go on.
use Rattle.std.proofs.Common.{◌≡◌, ℕ, List, [], ◌∷◌, ◌++◌, Option, None, Some, ◌+◌, ◌<◌, length, take, get_or, add-one, take-suc, refl, sym, ap}
use Rattle.std.proofs.lemmas.List.{append-nil}
use Rattle.std.specs.List.{reduce}
use Rattle.std.proofs.lemmas.List.Sums.{fold-append}
use Rattle.std.proofs.lemmas.List.Elements.{filter_map-append}
use Rattle.tsdb_base.specs.declared.point.Point.{Point}
use Rattle.tsdb_base.specs.declared.value.Value.{Value}
use Rattle.tsdb_base.specs.declared.value.Value.TheVariants as value
use Rattle.tsdb_model.specs.Folds.{numbers}
use Rattle.tsdb_stats.specs.Steps.{join_options, number_in}

-- one more
reduce-snoc : {A : Type 0} (f : A → A → A) (xs : List A) (x : A) → reduce f (xs ++ x ∷ []) ≡ join_options f (reduce f xs) (Some x)
reduce-snoc f [] x = refl
reduce-snoc f (y ∷ ys) x = ap Some (fold-append f y ys (x ∷ []))

join_options-none : {A : Type 0} (f : A → A → A) (a : Option A) → join_options f a None ≡ a
join_options-none f None = refl
join_options-none f (Some a) = refl

-- one point more
step : (f : Value → Value → Value) (points : List Point) (t : Point) (v : Value) → v ≡ t.value → reduce f (numbers (points ++ t ∷ [])) ≡ join_options f (reduce f (numbers points)) (number_in v)
step f points t (value.Bool b) e = rw (filter_map-append, ← e, append-nil) (sym (join_options-none f (reduce f (numbers points))))
step f points t (value.I32 n) e = rw (filter_map-append, ← e) (reduce-snoc f (numbers points) (value.I32 n))
step f points t (value.I64 n) e = rw (filter_map-append, ← e) (reduce-snoc f (numbers points) (value.I64 n))
step f points t (value.Text bytes) e = rw (filter_map-append, ← e, append-nil) (sym (join_options-none f (reduce f (numbers points))))

-- the points before one more
pub next : (f : Value → Value → Value) (points : List Point) (i : ℕ) (t : Point) → i < length points → t ≡ get_or points i t
    → reduce f (numbers (take (i + 1) points)) ≡ join_options f (reduce f (numbers (take i points))) (number_in t.value)
next f points i t lt e = rw (add-one, take-suc points i t lt, ← e) (step f (take i points) t t.value refl)
