-- Aggregates of a list of points, as a walk along it finds them.
use Rattle.std.proofs.Common.{◌≡◌, ◌≢◌, ℕ, suc, ◌+◌, ◌-◌, ℤ, ◌+ℤ◌, List, [], ◌∷◌, ◌++◌, map, length, Option, None, Some, refl, sym, ap, ◌∙◌, arith}
use Rattle.std.specs.Prelude.{slice_get, option_map}
use Rattle.std.specs.List.{fold, reduce, filter_map, cons_option}
use Rattle.std.specs.Map.Iter.{TakesFirst, TakesLast, deref_pair}
use Rattle.std.proofs.lemmas.List.{length-append, map-append}
use Rattle.std.proofs.lemmas.List.Elements.{filter_map-append}
use Rattle.std.specs.FinMap.{entries}
use denote.Bor.{Bor}
use Rattle.tsdb_base.specs.declared.answers.Aggregate.{Aggregate}
use Rattle.tsdb_base.specs.declared.answers.Aggregate.TheVariants.{Count, FirstValue, LastValue, MinValue, MaxValue}
use Rattle.tsdb_base.specs.declared.answers.Aggregate.TheVariants.{MinTime, MaxTime, Sum}
use Rattle.tsdb_base.specs.declared.answers.Figure.TheVariants as figure
use Rattle.tsdb_base.specs.declared.point.Point.{Point}
use Rattle.tsdb_base.specs.declared.value.Value.{Value}
use Rattle.tsdb_model.specs.World.{PointMap}
use Rattle.tsdb_model.specs.Folds.{aggregate_of, if_number, in_order, as_number, numbers, sum_of, value_of_points}
use Rattle.tsdb_map.specs.Model.{add_number, better, points_of_entries}

abbrev Seen : Type 0
Seen = Bor ℤ × Bor Value

abbrev Choose : Type 0
Choose = Value → Value → Value

fold-push : {A : Type 0} (f : A → A → A) (a : A) (xs : List A) (x : A) → fold f a (xs ++ x ∷ []) ≡ f (fold f a xs) x
fold-push f a [] x = refl
fold-push f a (y ∷ xs) x = fold-push f (f a y) xs x

append-none : {A : Type 0} (xs : List A) → xs ++ [] ≡ xs
append-none [] = refl
append-none (x ∷ xs) = ap (λ l. x ∷ l) (append-none xs)

-- one more number
reduce-push : (f : Choose) (xs : List Value) (n : Option ℤ) (x : Value) → reduce f (xs ++ filter_map (λ y. if_number n y) (x ∷ [])) ≡ better f n (reduce f xs) x
reduce-push f [] None x = refl
reduce-push f [] (Some n) x = refl
reduce-push f (y ∷ xs) None x = ap (λ l. reduce f (y ∷ l)) (append-none xs)
reduce-push f (y ∷ xs) (Some n) x = ap Some (fold-push f y xs x)

-- one more number to a sum
sum-push : (xs : List ℤ) (n : Option ℤ) → reduce (λ a b. a +ℤ b) (xs ++ cons_option n []) ≡ add_number (reduce (λ a b. a +ℤ b) xs) n
sum-push [] None = refl
sum-push [] (Some n) = refl
sum-push (y ∷ xs) None = ap (λ l. reduce (λ a b. a +ℤ b) (y ∷ l)) (append-none xs)
sum-push (y ∷ xs) (Some n) = ap Some (fold-push (λ a b. a +ℤ b) y xs n)

pub reduce-more : (f : Choose) (xs : List Seen) (x : Seen)
    → reduce f (numbers (points_of_entries (map deref_pair (xs ++ x ∷ [])))) ≡ better f (as_number x.1.now) (reduce f (numbers (points_of_entries (map deref_pair xs)))) x.1.now
reduce-more f xs x =
    ap (λ (l : List (ℤ × Value)). reduce f (numbers (points_of_entries l))) (map-append deref_pair xs (x ∷ []))
    ∙ ap (λ l. reduce f (numbers l)) (map-append (λ (e : ℤ × Value). record { time = e.0; value = e.1 }) (map deref_pair xs) (map deref_pair (x ∷ [])))
    ∙ ap (reduce f) (filter_map-append (λ (p : Point). if_number (as_number p.value) p.value) (points_of_entries (map deref_pair xs)) (points_of_entries (map deref_pair (x ∷ []))))
    ∙ reduce-push f (numbers (points_of_entries (map deref_pair xs))) (as_number x.1.now) x.1.now

pub sum-more : (xs : List Seen) (x : Seen)
    → sum_of (points_of_entries (map deref_pair (xs ++ x ∷ []))) ≡ add_number (sum_of (points_of_entries (map deref_pair xs))) (as_number x.1.now)
sum-more xs x =
    ap (λ (l : List (ℤ × Value)). sum_of (points_of_entries l)) (map-append deref_pair xs (x ∷ []))
    ∙ ap sum_of (map-append (λ (e : ℤ × Value). record { time = e.0; value = e.1 }) (map deref_pair xs) (map deref_pair (x ∷ [])))
    ∙ ap (reduce (λ a b. a +ℤ b)) (filter_map-append (λ (p : Point). as_number p.value) (points_of_entries (map deref_pair xs)) (points_of_entries (map deref_pair (x ∷ []))))
    ∙ sum-push (filter_map (λ (p : Point). as_number p.value) (points_of_entries (map deref_pair xs))) (as_number x.1.now)

-- the first point, and the last
pub first_of : (g : ℤ → Value → Value) (s t : List (ℤ × Value)) (r : Option Seen) → TakesFirst deref_pair s r t
    → option_map (λ p. g p.0.now p.1.now) r ≡ option_map (λ (p : Point). g p.time p.value) (slice_get (points_of_entries s) 0)
first_of g s t None h = sym (ap (λ (s : List (ℤ × Value)). option_map (λ (p : Point). g p.time p.value) (slice_get (points_of_entries s) 0)) h.0)
first_of g s t (Some x) h = sym (ap (λ (s : List (ℤ × Value)). option_map (λ (p : Point). g p.time p.value) (slice_get (points_of_entries s) 0)) h)

at_end : (xs : List Point) (x : Point) → slice_get (xs ++ x ∷ []) (length xs) ≡ Some x
at_end [] x = refl
at_end (y ∷ xs) x = at_end xs x

last_point : (xs : List Point) (x : Point) → slice_get (xs ++ x ∷ []) (length (xs ++ x ∷ []) - 1) ≡ Some x
last_point xs x = ap (slice_get (xs ++ x ∷ [])) (one_less (length (xs ++ x ∷ [])) (length xs) (length-append xs (x ∷ []))) ∙ at_end xs x
  where
    one_less : (n m : ℕ) → n ≡ m + 1 → n - 1 ≡ m
    one_less n m e = omega arith

pub last_of : (g : ℤ → Value → Value) (s t : List (ℤ × Value)) (r : Option Seen) → TakesLast deref_pair s r t
    → option_map (λ p. g p.0.now p.1.now) r ≡ option_map (λ (p : Point). g p.time p.value) (slice_get (points_of_entries s) (length (points_of_entries s) - 1))
last_of g s t None h =
    sym (ap (λ (s : List (ℤ × Value)). option_map (λ (p : Point). g p.time p.value) (slice_get (points_of_entries s) (length (points_of_entries s) - 1))) h.0)
last_of g s t (Some x) h =
    sym (ap (λ (s : List (ℤ × Value)). option_map (λ (p : Point). g p.time p.value) (slice_get (points_of_entries s) (length (points_of_entries s) - 1))) h
    ∙ ap (λ (l : List Point). option_map (λ (p : Point). g p.time p.value) (slice_get l (length l - 1))) (map-append (λ (e : ℤ × Value). record { time = e.0; value = e.1 }) t (deref_pair x ∷ []))
    ∙ ap (option_map (λ (p : Point). g p.time p.value)) (last_point (points_of_entries t) (record { time = x.0.now; value = x.1.now })))

pub length-points_of_entries : (es : List (ℤ × Value)) → length (points_of_entries es) ≡ length es
length-points_of_entries [] = refl
length-points_of_entries (e ∷ es) = ap (λ n. suc n) (length-points_of_entries es)

-- the aggregate of the points that were walked
pub of_range : (a b : Aggregate) (es : List (ℤ × Value)) (p : PointMap) → a ≡ b → es ≡ entries p
    → value_of_points b (points_of_entries es) ≡ value_of_points a (in_order p)
of_range a b es p is same = ap (λ a. value_of_points a (points_of_entries es)) (sym is) ∙ ap (λ (es : List (ℤ × Value)). value_of_points a (points_of_entries es)) same

pub sum_in_range : (a : Aggregate) (es : List (ℤ × Value)) (p : PointMap) (sum : Option ℤ) → a ≡ Sum → es ≡ entries p → sum ≡ sum_of (points_of_entries es)
    → option_map figure.Sum sum ≡ aggregate_of a (in_order p)
sum_in_range a es p sum is same summed =
    ap (option_map figure.Sum) (summed ∙ ap (λ (es : List (ℤ × Value)). sum_of (points_of_entries es)) same) ∙ ap (λ a. aggregate_of a (in_order p)) (sym is)

-- a value is the aggregate, unless that is a sum
pub value_in_range : (a : Aggregate) (points : List Point) (value : Option Value) → a ≢ Sum → value ≡ value_of_points a points
    → option_map figure.Value value ≡ aggregate_of a points
value_in_range Count points value other is = ap (option_map figure.Value) is
value_in_range FirstValue points value other is = ap (option_map figure.Value) is
value_in_range LastValue points value other is = ap (option_map figure.Value) is
value_in_range MinValue points value other is = ap (option_map figure.Value) is
value_in_range MaxValue points value other is = ap (option_map figure.Value) is
value_in_range MinTime points value other is = ap (option_map figure.Value) is
value_in_range MaxTime points value other is = ap (option_map figure.Value) is
value_in_range Sum points value other is = absurd (other refl)
