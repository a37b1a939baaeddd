-- The value of a pair at a place, after the cells of a row were put.
use Rattle.std.proofs.Common.{◌≡◌, ◌≢◌, ℕ, ℤ, ◌<◌, Bool, true, false, cond, List, [], ◌∷◌}
use Rattle.std.proofs.Common.{◌++◌, Option, Some, None, refl, sym, ap, subst, ◌∙◌, arith}
use Rattle.std.proofs.lemmas.Int.{ints}
use Rattle.std.specs.Prelude.{IsSome, find, int_lt}
use Rattle.std.specs.List.{filter}
use Rattle.std.specs.Map.{lookup}
use Rattle.std.specs.Option.{option_and_then, option_map, option_or, unwrap_or}
use Rattle.std.specs.Ordering.{eq_by_cmp, int_eq, nat_cmp}
use Rattle.std.proofs.lemmas.Bool.{false≢true}
use Rattle.tsdb_base.specs.declared.ids.Space.{Space}
use Rattle.tsdb_base.specs.declared.ids.Space.TheVariants.{Sequence, Unsequence}
use Rattle.tsdb_base.specs.declared.point.Point.{Point}
use Rattle.tsdb_base.specs.declared.value.Value.{Value}
use Rattle.tsdb_state.proofs.LayerLemmas.Places.{get_put, is_place, place_itself}
use Rattle.tsdb_state.specs.Places.{PointPlace, place_cmp}
use Rattle.tsdb_model.specs.declared.command.Schema.{Schema}
use Rattle.tsdb_memory.proofs.Numbers.{one_path, some_same}
use Rattle.tsdb_memory.proofs.Series.{changed_here, changed_there, itself, one_number}
use Rattle.tsdb_memory.specs.Changes.{is_space}
use Rattle.tsdb_memory.specs.Model.{HasRisingPoints}
use Rattle.tsdb_memory.specs.StateOfMemory.{IsPairOf, number_of, point_value_at, value_found}
use Rattle.tsdb_memtable.specs.Pairs.{Pair, SeriesPoints, blank, change_points, is_series, points_in, points_of, put_in}
use Rattle.tsdb_memtable.specs.Pairs.{spare_of}
use Rattle.tsdb_memtable.proofs.PointLemmas.{with_point-rising}
use Rattle.tsdb_base.specs.Points.{IsRising}
use Rattle.tsdb_memtable.specs.Points.{is_after, is_before, with_point}
use Rattle.tsdb_state.specs.Records.{put_in_space}
use Rattle.tsdb_state.specs.State as state

-- the value of points at a time

same_time : (a b : ℤ) → int_eq a b ≡ true → a ≡ b
same_time a b h = grind (arith, ints)

time_itself : (a : ℤ) → int_eq a a ≡ true
time_itself a = grind (arith, ints)

not_before : (a b : ℤ) → int_lt a b ≡ true → int_lt b a ≡ false
not_before a b h = grind (arith, ints)

not_itself : (a : ℤ) → int_lt a a ≡ false
not_itself a = grind (arith, ints)

or_later : (a b : ℤ) → int_eq a b ≡ false → int_lt a b ≡ false → int_lt b a ≡ true
or_later a b h k = grind (arith, ints)

value_append : (time : ℤ) (xs ys : List Point) → point_value_at time (xs ++ ys) ≡ option_or (point_value_at time xs) (point_value_at time ys)
value_append time [] ys = refl
value_append time (x ∷ xs) ys = by (int_eq time x.time) (value_append time xs ys)
  where
    by : (b : Bool) → point_value_at time (xs ++ ys) ≡ option_or (point_value_at time xs) (point_value_at time ys)
        → option_map (λ (p : Point). p.value) (cond b (Some x) (find (λ (p : Point). int_eq time p.time) (xs ++ ys)))
        ≡ option_or (option_map (λ (p : Point). p.value) (cond b (Some x) (find (λ (p : Point). int_eq time p.time) xs)))
        (point_value_at time ys)
    by true rest = refl
    by false rest = rest

module _ (test : Point → Bool) (time : ℤ) where
  by_time : (b : Bool) (x : Point) (xs : List Point) → int_eq time x.time ≡ b
      → option_map (λ (p : Point). p.value) (cond (int_eq time x.time) (Some x) (find (λ (p : Point). int_eq time p.time) xs))
      ≡ cond b (Some x.value) (point_value_at time xs)
  by_time true x xs e = ap (λ c. option_map (λ (p : Point). p.value)
      (cond c (Some x) (find (λ (p : Point). int_eq time p.time) xs))) e
  by_time false x xs e = ap (λ c. option_map (λ (p : Point). p.value)
      (cond c (Some x) (find (λ (p : Point). int_eq time p.time) xs))) e

  -- a filter that passes the points at the time keeps the value, and one that drops them has none
  pub filter_keeps : ((p : Point) → p.time ≡ time → test p ≡ true) → (xs : List Point)
      → point_value_at time (filter test xs) ≡ point_value_at time xs
  filter_keeps passes [] = refl
  filter_keeps passes (x ∷ xs) = by (test x) (int_eq time x.time) refl refl (filter_keeps passes xs)
    where
      by : (t b : Bool) → test x ≡ t → int_eq time x.time ≡ b
          → point_value_at time (filter test xs) ≡ point_value_at time xs
          → point_value_at time (cond t (x ∷ filter test xs) (filter test xs))
          ≡ option_map (λ (p : Point). p.value) (cond (int_eq time x.time) (Some x) (find (λ (p : Point). int_eq time p.time) xs))
      by true b et eb rest = by_time b x (filter test xs) eb ∙ ap (λ o. cond b (Some x.value) o) rest ∙ sym (by_time b x xs eb)
      by false true et eb rest = absurd (false≢true (sym et ∙ passes x (sym (same_time time x.time eb))))
      by false false et eb rest = rest ∙ sym (by_time false x xs eb)

  pub filter_drops : ((p : Point) → p.time ≡ time → test p ≡ false) → (xs : List Point)
      → point_value_at time (filter test xs) ≡ None
  filter_drops fails [] = refl
  filter_drops fails (x ∷ xs) = by (test x) (int_eq time x.time) refl refl (filter_drops fails xs)
    where
      by : (t b : Bool) → test x ≡ t → int_eq time x.time ≡ b
          → point_value_at time (filter test xs) ≡ None
          → point_value_at time (cond t (x ∷ filter test xs) (filter test xs)) ≡ None
      by false b et eb rest = rest
      by true true et eb rest = absurd (false≢true (sym (fails x (sym (same_time time x.time eb))) ∙ et))
      by true false et eb rest = by_time false x (filter test xs) eb ∙ rest

-- the value at the time of a point is that of the point, and every other value stays
value_put : (point : Point) (xs : List Point) (time : ℤ)
    → point_value_at time (with_point point xs) ≡ cond (int_eq time point.time) (Some point.value) (point_value_at time xs)
value_put point xs time =
    value_append time (filter (is_before point.time) xs) (point ∷ filter (is_after point.time) xs)
    ∙ by (int_eq time point.time) (int_lt time point.time) refl refl
  where
    or_none : (o : Option Value) → option_or o None ≡ o
    or_none None = refl
    or_none (Some v) = refl

    by : (b l : Bool) → int_eq time point.time ≡ b → int_lt time point.time ≡ l
        → option_or (point_value_at time (filter (is_before point.time) xs))
        (point_value_at time (point ∷ filter (is_after point.time) xs))
        ≡ cond b (Some point.value) (point_value_at time xs)
    by true l eb el =
        ap (λ o. option_or o (point_value_at time (point ∷ filter (is_after point.time) xs)))
        (filter_drops (is_before point.time) time (λ p e. ap (λ t. int_lt t point.time) (e ∙ same_time time point.time eb)
        ∙ not_itself point.time) xs)
        ∙ by_time (is_before point.time) time true point (filter (is_after point.time) xs) eb
    by false true eb el =
        ap (λ o. option_or o (point_value_at time (point ∷ filter (is_after point.time) xs)))
        (filter_keeps (is_before point.time) time (λ p e. ap (λ t. int_lt t point.time) e ∙ el) xs)
        ∙ ap (option_or (point_value_at time xs)) (by_time (is_before point.time) time false point
        (filter (is_after point.time) xs) eb
        ∙ filter_drops (is_after point.time) time (λ p e. ap (int_lt point.time) e ∙ not_before time point.time el) xs)
        ∙ or_none (point_value_at time xs)
    by false false eb el =
        ap (λ o. option_or o (point_value_at time (point ∷ filter (is_after point.time) xs)))
        (filter_drops (is_before point.time) time (λ p e. ap (λ t. int_lt t point.time) e ∙ el) xs)
        ∙ by_time (is_before point.time) time false point (filter (is_after point.time) xs) eb
        ∙ filter_keeps (is_after point.time) time (λ p e. ap (int_lt point.time) e ∙ or_later time point.time eb el) xs

-- a series with room is in the pair
pub in_pair : (pair : Pair) (n : ℕ) → 0 < spare_of n pair → IsSome (lookup (is_series n) pair)
in_pair pair n room = cases (lookup (is_series n) pair) refl
  where
    none : 0 < 0 → ⊥
    none h = omega (arith, h)

    cases : (o : Option SeriesPoints) → lookup (is_series n) pair ≡ o → IsSome o
    cases None e = absurd (none (subst (λ o. 0 < (unwrap_or o blank).spare) e room))
    cases (Some v) e = refl

-- the points of a series in a space after a put
pub put_here : (space other : Space) (n : ℕ) (point : Point) (pair : Pair) → 0 < spare_of n pair
    → points_of other n (change_points n (put_in space point) pair)
    ≡ cond (is_space space other) (with_point point (points_of other n pair)) (points_of other n pair)
put_here Sequence Sequence n point pair room =
    changed_here Sequence n (put_in Sequence point) pair (in_pair pair n room)
put_here Sequence Unsequence n point pair room =
    changed_here Unsequence n (put_in Sequence point) pair (in_pair pair n room)
put_here Unsequence Sequence n point pair room =
    changed_here Sequence n (put_in Unsequence point) pair (in_pair pair n room)
put_here Unsequence Unsequence n point pair room =
    changed_here Unsequence n (put_in Unsequence point) pair (in_pair pair n room)

pub put_there : (space other : Space) (n : ℕ) (point : Point) (pair : Pair) (m : ℕ) → 0 < spare_of n pair → n ≢ m
    → points_of other m (change_points n (put_in space point) pair) ≡ points_of other m pair
put_there space other n point pair m room apart =
    ap (points_in other) (changed_there n (put_in space point) pair m (in_pair pair n room) apart)

-- times still rise after a put
pub rising_put : (space : Space) (n : ℕ) (point : Point) (pair : Pair) → 0 < spare_of n pair → HasRisingPoints pair
    → HasRisingPoints (change_points n (put_in space point) pair)
rising_put space n point pair room rising other number = by (eq_by_cmp nat_cmp n number) refl
  where
    chosen : (b : Bool) → IsRising (cond b (with_point point (points_of other n pair)) (points_of other n pair))
    chosen true = with_point-rising point (points_of other n pair) (rising other n)
    chosen false = rising other n

    by : (b : Bool) → eq_by_cmp nat_cmp n number ≡ b
        → IsRising (points_of other number (change_points n (put_in space point) pair))
    by true e =
        subst (λ k. IsRising (points_of other k (change_points n (put_in space point) pair))) (one_number n number e)
        (subst IsRising (sym (put_here space other n point pair room)) (chosen (is_space space other)))
    by false e =
        subst IsRising
        (sym (put_there space other n point pair number room
        (λ same. false≢true (sym e ∙ ap (eq_by_cmp nat_cmp n) (sym same) ∙ itself n))))
        (rising other number)

module _ (series : List Schema) (space other : Space) (pair : Pair) (n : ℕ) (path : List ℕ) (point : Point) where
  abbrev at : PointPlace
  at = record { path = path; time = point.time }

  found_put : 0 < spare_of n pair → number_of series path ≡ Some n → (place : PointPlace)
      → value_found series other (change_points n (put_in space point) pair) place
      ≡ cond (is_space space other) (cond (eq_by_cmp place_cmp place at) (Some point.value)
      (value_found series other pair place)) (value_found series other pair place)
  found_put room number place =
      by (number_of series place.path) (eq_by_cmp place_cmp place at) refl refl
    where
      same : (b : Bool) (o : Option Value) → o ≡ cond b (cond false (Some point.value) o) o
      same true o = refl
      same false o = refl

      absent : Some n ≡ None → ⊥
      absent e = cc

      here : (m : ℕ) (t : Bool) → n ≡ m → int_eq place.time point.time ≡ t
          → point_value_at place.time (points_of other m (change_points n (put_in space point) pair))
          ≡ cond (is_space space other) (cond t (Some point.value) (point_value_at place.time (points_of other m pair)))
          (point_value_at place.time (points_of other m pair))
      here m t e et =
          subst (λ k. point_value_at place.time (points_of other k (change_points n (put_in space point) pair))
          ≡ cond (is_space space other) (cond t (Some point.value) (point_value_at place.time (points_of other k pair)))
          (point_value_at place.time (points_of other k pair))) e
          (ap (point_value_at place.time) (put_here space other n point pair room)
          ∙ choose (is_space space other)
          ∙ ap (λ b. cond (is_space space other)
          (cond b (Some point.value) (point_value_at place.time (points_of other n pair)))
          (point_value_at place.time (points_of other n pair))) et)
        where
          choose : (b : Bool) → point_value_at place.time (cond b (with_point point (points_of other n pair)) (points_of other n pair))
              ≡ cond b (cond (int_eq place.time point.time) (Some point.value) (point_value_at place.time (points_of other n pair)))
              (point_value_at place.time (points_of other n pair))
          choose true = value_put point (points_of other n pair) place.time
          choose false = refl

      there : (m : ℕ) → n ≢ m
          → point_value_at place.time (points_of other m (change_points n (put_in space point) pair))
          ≡ point_value_at place.time (points_of other m pair)
      there m apart = ap (point_value_at place.time) (put_there space other n point pair m room apart)

      by : (o : Option ℕ) (b : Bool) → number_of series place.path ≡ o → eq_by_cmp place_cmp place at ≡ b
          → option_and_then (λ k. point_value_at place.time (points_of other k (change_points n (put_in space point) pair))) o
          ≡ cond (is_space space other) (cond b (Some point.value)
          (option_and_then (λ k. point_value_at place.time (points_of other k pair)) o))
          (option_and_then (λ k. point_value_at place.time (points_of other k pair)) o)
      by None true eo eb =
          absurd (absent (sym number ∙ ap (λ (p : PointPlace). number_of series p.path) (sym (is_place place at eb)) ∙ eo))
      by None false eo eb = same (is_space space other) None
      by (Some m) true eo eb =
          let is : place ≡ at = is_place place at eb in
          here m true (some_same n m (sym number ∙ ap (λ (p : PointPlace). number_of series p.path) (sym is) ∙ eo))
          (ap (λ (p : PointPlace). int_eq p.time point.time) is ∙ time_itself point.time)
      by (Some m) false eo eb = decide (eq_by_cmp nat_cmp n m) (int_eq place.time point.time) refl refl
        where
          one_place : (p q : List ℕ) (s t : ℤ) → p ≡ q → s ≡ t
              → eq_by_cmp place_cmp (record { path = p; time = s }) (record { path = q; time = t }) ≡ true
          one_place p q s t ep et = subst
              (λ r. eq_by_cmp place_cmp (record { path = p; time = s }) (record { path = r; time = t }) ≡ true) ep
              (subst (λ r. eq_by_cmp place_cmp (record { path = p; time = s }) (record { path = p; time = r }) ≡ true) et
              (place_itself (record { path = p; time = s })))

          decide : (e t : Bool) → eq_by_cmp nat_cmp n m ≡ e → int_eq place.time point.time ≡ t
              → point_value_at place.time (points_of other m (change_points n (put_in space point) pair))
              ≡ cond (is_space space other) (cond false (Some point.value) (point_value_at place.time (points_of other m pair)))
              (point_value_at place.time (points_of other m pair))
          decide true true ee et = absurd (false≢true (sym eb ∙ one_place place.path path place.time point.time
              (one_path series m place.path path eo (number ∙ ap Some (one_number n m ee)))
              (same_time place.time point.time et)))
          decide true false ee et = here m false (one_number n m ee) et
          decide false t ee et =
              there m (λ e. false≢true (sym ee ∙ ap (eq_by_cmp nat_cmp n) (sym e) ∙ itself n))
              ∙ same (is_space space other) (point_value_at place.time (points_of other m pair))

pub pair_put : (series : List Schema) (space : Space) (pair : Pair) (shown : state.PairContent) (n : ℕ) (path : List ℕ)
    (point : Point) → 0 < spare_of n pair → number_of series path ≡ Some n → IsPairOf series pair shown
    → IsPairOf series (change_points n (put_in space point) pair)
    (put_in_space space (record { path = path; time = point.time }) point.value shown)
pair_put series Sequence pair shown n path point room number is = record {
  sequence = λ place. get_put shown.sequence (record { path = path; time = point.time }) point.value place
      ∙ ap (cond (eq_by_cmp place_cmp place (record { path = path; time = point.time })) (Some point.value)) (is.sequence place)
      ∙ sym (found_put series Sequence Sequence pair n path point room number place);
  unsequence = λ place. is.unsequence place
      ∙ sym (found_put series Sequence Unsequence pair n path point room number place);
}
pair_put series Unsequence pair shown n path point room number is = record {
  sequence = λ place. is.sequence place
      ∙ sym (found_put series Unsequence Sequence pair n path point room number place);
  unsequence = λ place. get_put shown.unsequence (record { path = path; time = point.time }) point.value place
      ∙ ap (cond (eq_by_cmp place_cmp place (record { path = path; time = point.time })) (Some point.value)) (is.unsequence place)
      ∙ sym (found_put series Unsequence Unsequence pair n path point room number place);
}
