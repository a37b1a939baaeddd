-- The value of a pair at a place, after a series has joined, and after a deletion.
use Rattle.std.proofs.Common.{◌≡◌, ◌<ℤ◌, ℕ, ℤ, ◌≤◌, Bool, true, false, cond, not, List, [], ◌∷◌, ◌++◌, length, Option}
use Rattle.std.proofs.Common.{Some, None, refl, sym, ap, subst, ◌∙◌, arith}
use Rattle.std.proofs.lemmas.Int.{ints}
use Rattle.std.specs.Prelude.{◌&&◌, All, find}
use Rattle.std.specs.List.{AllZip, filter}
use Rattle.std.specs.Option.{option_and_then, option_map, option_or}
use Rattle.std.proofs.lemmas.Bool.{false≢true}
use Rattle.std.proofs.lemmas.List.Elements.{All-head, All-tail}
use Rattle.std.proofs.lemmas.List.Kept.{AllPairs-filter}
use Rattle.tsdb_base.specs.declared.ids.Space.{Space}
use Rattle.tsdb_base.specs.declared.ids.Space.TheVariants.{Sequence, Unsequence}
use Rattle.tsdb_base.specs.declared.point.Point.{Point}
use Rattle.tsdb_base.specs.declared.point.Range.{Range}
use Rattle.tsdb_base.specs.declared.value.Value.{Value}
use Rattle.tsdb_state.proofs.LayerLemmas.Places.{get_cut, is_path_same, path_itself}
use Rattle.tsdb_state.specs.Places.{PointPlace, is_path, is_within}
use Rattle.tsdb_model.specs.World.{is_in}
use Rattle.tsdb_model.specs.declared.command.Schema.{Schema}
use Rattle.tsdb_memory.proofs.Numbers.{number_push, one_path, some_same}
use Rattle.std.specs.Ordering.{eq_by_cmp, int_eq, nat_cmp}
use Rattle.tsdb_memory.proofs.Series.{erased_here, erased_there, itself, one_number}
use Rattle.tsdb_memory.specs.Model.{HasKnownSeries, HasRisingPoints}
use Rattle.tsdb_memory.specs.StateOfMemory.{IsFrozenOf, IsPairOf, number_of, point_value_at, value_found}
use Rattle.tsdb_memory.specs.Store as store
use Rattle.tsdb_memtable.specs.Pairs.{Pair, change_points, points_of, without_range}
use Rattle.tsdb_base.specs.Points.{IsRising}
use Rattle.tsdb_memtable.specs.Points as points
use Rattle.tsdb_state.specs.Records.{cut_pair}
use Rattle.tsdb_state.specs.State as state

-- a series joins

upper : (n : ℕ) → n ≤ n
upper n = omega arith

found_push : (series : List Schema) (schema : Schema) (space : Space) (pair : Pair) (place : PointPlace)
    → HasKnownSeries series pair
    → value_found (series ++ schema ∷ []) space pair place ≡ value_found series space pair place
found_push series schema space pair place known =
    ap (option_and_then (λ number. point_value_at place.time (points_of space number pair)))
    (number_push series schema place.path)
    ∙ by (number_of series place.path) (is_path place.path schema.path)
  where
    by : (o : Option ℕ) (b : Bool)
        → option_and_then (λ number. point_value_at place.time (points_of space number pair))
        (option_or o (cond b (Some (length series)) None))
        ≡ option_and_then (λ number. point_value_at place.time (points_of space number pair)) o
    by (Some m) b = refl
    by None true = ap (point_value_at place.time) (known space (length series) (upper (length series)))
    by None false = refl

pub pair_push : (series : List Schema) (schema : Schema) (pair : Pair) (shown : state.PairContent)
    → HasKnownSeries series pair → IsPairOf series pair shown → IsPairOf (series ++ schema ∷ []) pair shown
pair_push series schema pair shown known is = record {
  sequence = λ place. is.sequence place ∙ sym (found_push series schema Sequence pair place known);
  unsequence = λ place. is.unsequence place ∙ sym (found_push series schema Unsequence pair place known);
}

pub frozen_push : (series : List Schema) (schema : Schema) (frozen : List store.FrozenPair)
    (shown : List state.FrozenContent)
    → All (λ pair. HasKnownSeries series pair.pair) frozen → AllZip (IsFrozenOf series) frozen shown
    → AllZip (IsFrozenOf (series ++ schema ∷ [])) frozen shown
frozen_push series schema [] [] known is = tt
frozen_push series schema [] (s ∷ shown) known is = is
frozen_push series schema (f ∷ frozen) [] known is = is
frozen_push series schema (f ∷ frozen) (s ∷ shown) known is = (
  record {
    born = is.0.born;
    pair = pair_push series schema f.pair s.pair
        (All-head (λ (pair : store.FrozenPair). HasKnownSeries series pair.pair) f frozen known) is.0.pair;
  },
  frozen_push series schema frozen shown
      (All-tail (λ (pair : store.FrozenPair). HasKnownSeries series pair.pair) f frozen known) is.1,
)

-- a deletion

same_time : (a b : ℤ) → int_eq a b ≡ true → a ≡ b
same_time a b h = grind (arith, ints)

-- the points outside of a range have the values outside of it
value_outside : (range : Range) (time : ℤ) (all : List Point)
    → point_value_at time (filter (points.is_outside range) all) ≡ cond (not (is_in range time)) (point_value_at time all) None
value_outside range time [] = none (not (is_in range time))
  where
    none : (b : Bool) → ◌≡◌ {A = Option Value} None (cond b None None)
    none true = refl
    none false = refl
value_outside range time (p ∷ all) =
    by (points.is_point_within range p) (int_eq time p.time) (is_in range time) refl refl (value_outside range time all)
  where
    inside : (b : Bool) → int_eq time p.time ≡ true → points.is_point_within range p ≡ b → is_in range time ≡ b
    inside b e w = ap (is_in range) (same_time time p.time e) ∙ w

    by : (w t i : Bool) → points.is_point_within range p ≡ w → int_eq time p.time ≡ t
        → point_value_at time (filter (points.is_outside range) all) ≡ cond (not (is_in range time)) (point_value_at time all) None
        → point_value_at time (cond (not w) (p ∷ filter (points.is_outside range) all) (filter (points.is_outside range) all))
        ≡ cond (not (is_in range time)) (option_map (λ (q : Point). q.value) (cond t (Some p) (find (λ (q : Point). int_eq time q.time) all))) None
    by true true i we te rest =
        rest ∙ ap (λ b. cond (not b) (point_value_at time all) None) (inside true te we)
        ∙ sym (ap (λ b. cond (not b) (Some p.value) None) (inside true te we))
    by true false i we te rest = rest
    by false true i we te rest =
        ap (λ b. option_map (λ (q : Point). q.value) (cond b (Some p) (find (λ (q : Point). int_eq time q.time) (filter (points.is_outside range) all)))) te
        ∙ sym (ap (λ b. cond (not b) (Some p.value) None) (inside false te we))
    by false false i we te rest =
        ap (λ b. option_map (λ (q : Point). q.value) (cond b (Some p) (find (λ (q : Point). int_eq time q.time) (filter (points.is_outside range) all)))) te
        ∙ rest

found_cut : (series : List Schema) (space : Space) (pair : Pair) (n : ℕ) (path : List ℕ) (range : Range) (place : PointPlace)
    → number_of series path ≡ Some n
    → value_found series space (change_points n (without_range range) pair) place
    ≡ cond (not (is_within path range place)) (value_found series space pair place) None
found_cut series space pair n path range place at =
    by (number_of series place.path) (is_path path place.path) refl refl
  where
    none : (b : Bool) → ◌≡◌ {A = Option Value} None (cond b None None)
    none true = refl
    none false = refl

    by : (o : Option ℕ) (b : Bool) → number_of series place.path ≡ o → is_path path place.path ≡ b
        → option_and_then
        (λ number. point_value_at place.time (points_of space number (change_points n (without_range range) pair))) o
        ≡ cond (not (b && is_in range place.time))
        (option_and_then (λ number. point_value_at place.time (points_of space number pair)) o) None
    by None b eo eb = none (not (b && is_in range place.time))
    by (Some m) true eo eb =
        let here : m ≡ n = some_same m n (sym eo ∙ ap (number_of series) (sym (is_path_same path place.path eb)) ∙ at) in
        subst (λ k. point_value_at place.time (points_of space k (change_points n (without_range range) pair))
        ≡ cond (not (is_in range place.time)) (point_value_at place.time (points_of space k pair)) None) (sym here)
        (ap (point_value_at place.time) (erased_here space n range pair)
        ∙ value_outside range place.time (points_of space n pair))
    by (Some m) false eo eb = ap (point_value_at place.time) (erased_there space n range pair m
        (λ e. false≢true (sym eb ∙ ap (is_path path) (sym (one_path series m path place.path (at ∙ ap Some e) eo))
        ∙ path_itself path)))

pub pair_cut : (series : List Schema) (pair : Pair) (shown : state.PairContent) (n : ℕ) (path : List ℕ) (range : Range)
    → number_of series path ≡ Some n → IsPairOf series pair shown
    → IsPairOf series (change_points n (without_range range) pair) (cut_pair path range shown)
pair_cut series pair shown n path range at is = record {
  sequence = λ place. get_cut shown.sequence path range place
      ∙ ap (λ o. cond (not (is_within path range place)) o None) (is.sequence place)
      ∙ sym (found_cut series Sequence pair n path range place at);
  unsequence = λ place. get_cut shown.unsequence path range place
      ∙ ap (λ o. cond (not (is_within path range place)) o None) (is.unsequence place)
      ∙ sym (found_cut series Unsequence pair n path range place at);
}

-- no other series has points after a deletion
pub known_cut : (series : List Schema) (pair : Pair) (n : ℕ) (range : Range) → HasKnownSeries series pair
    → HasKnownSeries series (change_points n (without_range range) pair)
known_cut series pair n range known space number beyond = by (eq_by_cmp nat_cmp n number) refl
  where
    by : (b : Bool) → eq_by_cmp nat_cmp n number ≡ b
        → points_of space number (change_points n (without_range range) pair) ≡ []
    by true e =
        let same = one_number n number e in
        ap (λ k. points_of space k (change_points n (without_range range) pair)) (sym same)
        ∙ erased_here space n range pair
        ∙ ap (λ k. filter (points.is_outside range) (points_of space k pair)) same
        ∙ ap (filter (points.is_outside range)) (known space number beyond)
    by false e =
        erased_there space n range pair number
        (λ same. false≢true (sym e ∙ ap (eq_by_cmp nat_cmp n) (sym same) ∙ itself n))
        ∙ known space number beyond

-- times still rise after a deletion
pub rising_cut : (pair : Pair) (n : ℕ) (range : Range) → HasRisingPoints pair
    → HasRisingPoints (change_points n (without_range range) pair)
rising_cut pair n range rising space number = by (eq_by_cmp nat_cmp n number) refl
  where
    by : (b : Bool) → eq_by_cmp nat_cmp n number ≡ b
        → IsRising (points_of space number (change_points n (without_range range) pair))
    by true e =
        subst (λ k. IsRising (points_of space k (change_points n (without_range range) pair)))
        (one_number n number e)
        (subst IsRising (sym (erased_here space n range pair))
        (AllPairs-filter (λ (a b : Point). a.time <ℤ b.time) (points.is_outside range) (points_of space n pair)
        (rising space n)))
    by false e =
        subst IsRising
        (sym (erased_there space n range pair number
        (λ same. false≢true (sym e ∙ ap (eq_by_cmp nat_cmp n) (sym same) ∙ itself n))))
        (rising space number)
