-- The aggregate of two lists, one behind the other, from those of each.
use Rattle.std.proofs.Common.{◌≡◌, ◌⊎◌, ℕ, ◌+◌, ◌-◌, Bool, true, false, List, [], ◌∷◌, ◌++◌, length, get_or, Option, None, Some, inl, inr, refl, sym, ap, ◌∙◌, cond, arith}
use Rattle.std.specs.Prelude.{ℤ, pos, slice_get, option_map, option_and_then, is_some, IfSome}
use Rattle.std.specs.List.{cons_option, fold, reduce, AllByRecursion}
use Rattle.std.proofs.lemmas.List.{append-nil, length-append}
use Rattle.std.proofs.lemmas.Option.{slice_get-get_or}
use Rattle.tsdb_base.specs.declared.answers.Aggregate.{Aggregate}
use Rattle.tsdb_base.specs.declared.answers.Aggregate.TheVariants.{Count, FirstValue, LastValue, MinValue, MaxValue, MinTime, MaxTime, Sum}
use Rattle.tsdb_base.specs.declared.answers.Figure.TheVariants as figure
use Rattle.tsdb_base.specs.declared.point.Point.{Point}
use Rattle.tsdb_base.specs.declared.point.Stats.{Stats}
use Rattle.tsdb_base.specs.declared.value.Value.{Value}
use Rattle.tsdb_base.specs.declared.value.Value.TheVariants as value
use Rattle.tsdb_model.specs.Folds.{aggregate_of, greater, is_less, lesser_value, numbers, sum_of, value_of_points}
use Rattle.tsdb_stats.specs.Statistics.{AreStatsOf}
use Rattle.tsdb_stats.specs.Steps.{join_options, number_in, plus}
use Rattle.tsdb_stats.proofs.Joining.{stats-append}
use Rattle.tsdb_stats.proofs.Sums.{sum-both}
use Rattle.tsdb_aggregate.specs.Steps.{IsTallied, answer_with, choice}

-- ---- the chosen number of points is a number

abbrev IsNumber : Value → Type 0
IsNumber v = number_in v ≡ Some v

number_first : (v : Value) (vs : List Value) → AllByRecursion IsNumber vs → AllByRecursion IsNumber (cons_option (number_in v) vs)
number_first (value.Bool b) vs all = all
number_first (value.I32 n) vs all = (refl, all)
number_first (value.I64 n) vs all = (refl, all)
number_first (value.Text bytes) vs all = all

numbers_are : (points : List Point) → AllByRecursion IsNumber (numbers points)
numbers_are [] = tt
numbers_are (point ∷ points) = number_first point.value (numbers points) (numbers_are points)

abbrev Chooses : (Value → Value → Value) → Type 0
Chooses f = (a b : Value) → (f a b ≡ a) ⊎ (f a b ≡ b)

one_of : (f : Value → Value → Value) → Chooses f → (a b : Value) → IsNumber a → IsNumber b → IsNumber (f a b)
one_of f chooses a b na nb = elim (chooses a b) [ inl e ↦ rw e na | inr e ↦ rw e nb ]

fold_number : (f : Value → Value → Value) → Chooses f → (a : Value) (vs : List Value) → IsNumber a → AllByRecursion IsNumber vs → IsNumber (fold f a vs)
fold_number f chooses a [] na all = na
fold_number f chooses a (v ∷ vs) na all = fold_number f chooses (f a v) vs (one_of f chooses a v na all.0) all.1

reduce_self : (f : Value → Value → Value) → Chooses f → (vs : List Value) → AllByRecursion IsNumber vs → option_and_then number_in (reduce f vs) ≡ reduce f vs
reduce_self f chooses [] all = refl
reduce_self f chooses (v ∷ vs) all = fold_number f chooses v vs all.0 all.1

one_or_other : (b : Bool) (x y : Value) → (cond b x y ≡ y) ⊎ (cond b x y ≡ x)
one_or_other true x y = inr refl
one_or_other false x y = inl refl

lesser_chooses : Chooses lesser_value
lesser_chooses a b = one_or_other (is_less b a) b a

greater_chooses : Chooses greater
greater_chooses a b = one_or_other (is_less a b) b a

-- ---- a list with a point has statistics

abbrev last_of : Point → List Point → Point
last_of p ps = get_or (p ∷ ps) (length (p ∷ ps) - 1) p

last_is : (p : Point) (ps : List Point) → slice_get (p ∷ ps) (length (p ∷ ps) - 1) ≡ Some (last_of p ps)
last_is p ps = slice_get-get_or (p ∷ ps) (length (p ∷ ps) - 1) p (omega arith)

abbrev stats_at : Point → List Point → Stats
stats_at p ps = record {
  count = length (p ∷ ps);
  start = p.time;
  end = (last_of p ps).time;
  first = p.value;
  last = (last_of p ps).value;
  least = value_of_points MinValue (p ∷ ps);
  greatest = value_of_points MaxValue (p ∷ ps);
  sum = None;
}

are_stats : (p : Point) (ps : List Point) → AreStatsOf (p ∷ ps) (stats_at p ps)
are_stats p ps = record {
  count = refl;
  start = refl;
  end = ap (option_map (λ point. value.I64 point.time)) (last_is p ps);
  first = refl;
  last = ap (option_map (λ point. point.value)) (last_is p ps);
  least = refl;
  greatest = refl;
  sum = tt;
}

abbrev both : Point → List Point → Point → List Point → Stats
both p ps q qs = record {
  count = length (p ∷ ps) + length (q ∷ qs);
  start = p.time;
  end = (last_of q qs).time;
  first = p.value;
  last = (last_of q qs).value;
  least = join_options lesser_value (option_and_then number_in (value_of_points MinValue (p ∷ ps))) (option_and_then number_in (value_of_points MinValue (q ∷ qs)));
  greatest = join_options greater (option_and_then number_in (value_of_points MaxValue (p ∷ ps))) (option_and_then number_in (value_of_points MaxValue (q ∷ qs)));
  sum = None;
}

both_are : (p : Point) (ps : List Point) (q : Point) (qs : List Point) → AreStatsOf ((p ∷ ps) ++ (q ∷ qs)) (both p ps q qs)
both_are p ps q qs = stats-append (p ∷ ps) (q ∷ qs) (stats_at p ps) (stats_at q qs) (both p ps q qs) (are_stats p ps) (are_stats q qs) refl refl refl refl refl refl refl refl

-- ---- two lists

pub join_none : {A : Type 0} (f : A → A → A) (a : Option A) → join_options f a None ≡ a
join_none f None = refl
join_none f (Some a) = refl

-- the value of both lists, where it is no count
abbrev Joins : Aggregate → List Point → List Point → Type 0
Joins name xs ys = value_of_points name (xs ++ ys) ≡ join_options (choice name) (value_of_points name xs) (value_of_points name ys)

none_behind : (name : Aggregate) (xs : List Point) → value_of_points name [] ≡ None → Joins name xs []
none_behind name xs none = ap (value_of_points name) (append-nil xs) ∙ sym (ap (join_options (choice name) (value_of_points name xs)) none ∙ join_none (choice name) (value_of_points name xs))

first_joins : (xs ys : List Point) → Joins FirstValue xs ys
first_joins [] ys = refl
first_joins (p ∷ ps) [] = none_behind FirstValue (p ∷ ps) refl
first_joins (p ∷ ps) (q ∷ qs) = refl

start_joins : (xs ys : List Point) → Joins MinTime xs ys
start_joins [] ys = refl
start_joins (p ∷ ps) [] = none_behind MinTime (p ∷ ps) refl
start_joins (p ∷ ps) (q ∷ qs) = refl

last_joins : (xs ys : List Point) → Joins LastValue xs ys
last_joins [] ys = refl
last_joins (p ∷ ps) [] = none_behind LastValue (p ∷ ps) refl
last_joins (p ∷ ps) (q ∷ qs) = (both_are p ps q qs).last ∙ sym (ap (λ (b : Option Value). join_options (choice LastValue) (value_of_points LastValue (p ∷ ps)) b) (are_stats q qs).last ∙ ap (λ (a : Option Value). join_options (choice LastValue) a (Some (last_of q qs).value)) (are_stats p ps).last)

end_joins : (xs ys : List Point) → Joins MaxTime xs ys
end_joins [] ys = refl
end_joins (p ∷ ps) [] = none_behind MaxTime (p ∷ ps) refl
end_joins (p ∷ ps) (q ∷ qs) = (both_are p ps q qs).end ∙ sym (ap (λ (b : Option Value). join_options (choice MaxTime) (value_of_points MaxTime (p ∷ ps)) b) (are_stats q qs).end ∙ ap (λ (a : Option Value). join_options (choice MaxTime) a (Some (value.I64 (last_of q qs).time))) (are_stats p ps).end)

least_joins : (xs ys : List Point) → Joins MinValue xs ys
least_joins [] ys = refl
least_joins (p ∷ ps) [] = none_behind MinValue (p ∷ ps) refl
least_joins (p ∷ ps) (q ∷ qs) =
    let a = reduce_self lesser_value lesser_chooses (numbers (p ∷ ps)) (numbers_are (p ∷ ps)) in
    let b = reduce_self lesser_value lesser_chooses (numbers (q ∷ qs)) (numbers_are (q ∷ qs)) in
    (both_are p ps q qs).least ∙ ap (λ l. join_options lesser_value l (option_and_then number_in (value_of_points MinValue (q ∷ qs)))) a ∙ ap (λ r. join_options lesser_value (value_of_points MinValue (p ∷ ps)) r) b

greatest_joins : (xs ys : List Point) → Joins MaxValue xs ys
greatest_joins [] ys = refl
greatest_joins (p ∷ ps) [] = none_behind MaxValue (p ∷ ps) refl
greatest_joins (p ∷ ps) (q ∷ qs) =
    let a = reduce_self greater greater_chooses (numbers (p ∷ ps)) (numbers_are (p ∷ ps)) in
    let b = reduce_self greater greater_chooses (numbers (q ∷ qs)) (numbers_are (q ∷ qs)) in
    (both_are p ps q qs).greatest ∙ ap (λ l. join_options greater l (option_and_then number_in (value_of_points MaxValue (q ∷ qs)))) a ∙ ap (λ r. join_options greater (value_of_points MaxValue (p ∷ ps)) r) b

-- ---- tallies

pub joined : (name : Aggregate) (xs ys : List Point) (n m k : ℕ) (a b c : Option Value) (p q r : Option ℤ) → k ≡ n + m → c ≡ join_options (choice name) a b → r ≡ join_options plus p q
    → IsTallied name xs n a p → IsTallied name ys m b q → IsTallied name (xs ++ ys) k c r
joined Count xs ys n m k a b c p q r count is sum first second = omega (arith, count, first, second, length-append xs ys)
joined FirstValue xs ys n m k a b c p q r count is sum first second = rw (is, first, second) (sym (first_joins xs ys))
joined LastValue xs ys n m k a b c p q r count is sum first second = rw (is, first, second) (sym (last_joins xs ys))
joined MinValue xs ys n m k a b c p q r count is sum first second = rw (is, first, second) (sym (least_joins xs ys))
joined MaxValue xs ys n m k a b c p q r count is sum first second = rw (is, first, second) (sym (greatest_joins xs ys))
joined MinTime xs ys n m k a b c p q r count is sum first second = rw (is, first, second) (sym (start_joins xs ys))
joined MaxTime xs ys n m k a b c p q r count is sum first second = rw (is, first, second) (sym (end_joins xs ys))
joined Sum xs ys n m k a b c p q r count is sum first second = rw (sum, first, second) (sym (sum-both xs ys))

-- what a tally of points answers is their aggregate
pub tally_answers : (name : Aggregate) (points : List Point) (count : ℕ) (kept : Option Value) (sum : Option ℤ) → IsTallied name points count kept sum → answer_with name count kept sum ≡ aggregate_of name points
tally_answers Count points count kept sum is = ap (λ n. Some (figure.Value (value.I64 (pos n)))) is
tally_answers FirstValue points count kept sum is = ap (option_map figure.Value) is
tally_answers LastValue points count kept sum is = ap (option_map figure.Value) is
tally_answers MinValue points count kept sum is = ap (option_map figure.Value) is
tally_answers MaxValue points count kept sum is = ap (option_map figure.Value) is
tally_answers MinTime points count kept sum is = ap (option_map figure.Value) is
tally_answers MaxTime points count kept sum is = ap (option_map figure.Value) is
tally_answers Sum points count kept sum is = ap (option_map figure.Sum) is

-- the sum that statistics have is that of their points
pub sum_said : (sum total : Option ℤ) → IfSome sum (λ s. total ≡ Some s) → is_some sum ≡ true → sum ≡ total
sum_said None total is some = absurd cc
sum_said (Some s) total is some = sym is
