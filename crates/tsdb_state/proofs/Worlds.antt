-- What a world has after a value is put, and after a range is cut.
use Rattle.std.proofs.Common.{◌≡◌, ℕ, Bool, true, false, cond, List, refl, sym, ap, ◌∙◌}
use Rattle.std.specs.Prelude.{◌&&◌, Option, Some, None, not}
use Rattle.std.specs.Cmp.{eq_by_cmp_equiv, int_cmp_total}
use Rattle.std.specs.Cmp.Lexicographic.{nat_list_cmp_total, slice_cmp}
use Rattle.std.specs.FinMap.{get, get-empty, get-insert, get-retain_keys, insert, int_cmp-IsAntisymmetric}
use Rattle.std.specs.Option.{option_map}
use Rattle.std.specs.Ordering.{eq_by_cmp, int_cmp, is_eq, nat_cmp, ordering_then}
use Rattle.std.specs.declared.cmp.Ordering.{Ordering}
use Rattle.std.specs.declared.cmp.Ordering.TheVariants.{Less, Equal, Greater}
use Rattle.tsdb_base.specs.declared.point.Range.{Range}
use Rattle.tsdb_base.specs.declared.value.DataType.{DataType}
use Rattle.tsdb_base.specs.declared.value.Value.{Value}
use Rattle.tsdb_state.proofs.LayerLemmas.JobMarks.{none_by}
use Rattle.tsdb_state.proofs.LayerLemmas.Places.{is_path_same}
use Rattle.tsdb_state.specs.Places.{PointPlace, is_path, is_within, place_cmp}
use Rattle.tsdb_model.specs.World.{Series, World, change, change_series, cut, is_in, points_of_series, put, value_at}

abbrev pub type_in : Option Series → Option DataType
type_in found = option_map (λ (s : Series). s.data_type) found

-- a change that keeps types
pub change_type : (world : World) (path q : List ℕ) (f : Series → Series) → ((s : Series)
    → (f s).data_type ≡ s.data_type)
    → type_in (get (change world path f) q) ≡ type_in (get world q)
change_type world path q f same = by (get world path) refl
  where
    at : (s : Series) (b : Bool) → get world path ≡ Some s → is_path q path ≡ b
        → type_in (cond b (Some (f s)) (get world q)) ≡ type_in (get world q)
    at s true found e = ap Some (same s) ∙ ap type_in (sym found ∙ ap (get world) (sym (is_path_same q _ e)))
    at s false found e = refl

    by : (o : Option Series) → get world path ≡ o
        → type_in (get (change_series world path f o) q) ≡ type_in (get world q)
    by None found = refl
    by (Some s) found = ap type_in (get-insert nat_list_cmp_total world path (f s) q) ∙ at s (is_path q path) found refl

-- whether two places are one, by path and time
pub place_test : (q place : PointPlace) → eq_by_cmp place_cmp q place
    ≡ (is_path q.path place.path && eq_by_cmp int_cmp q.time place.time)
unfolding place_cmp
place_test q place = by (slice_cmp nat_cmp q.path place.path) (int_cmp q.time place.time)
  where
    by : (r s : Ordering) → is_eq (ordering_then r s) ≡ (is_eq r && is_eq s)
    by Less s = refl
    by Equal s = refl
    by Greater s = refl

-- a value that is put in a series that is there
pub put_at : (world : World) (place q : PointPlace) (value : Value) (s : Series) → get world place.path ≡ Some s
    → value_at (insert world place.path (put place.time value s)) q.path q.time
    ≡ cond (eq_by_cmp place_cmp q place) (Some value) (value_at world q.path q.time)
put_at world place q value s found =
    ap (λ o. get (points_of_series o) q.time) (get-insert nat_list_cmp_total world place.path (put place.time value s) q.path)
    ∙ by (is_path q.path place.path) refl
    ∙ ap (λ b. cond b (Some value) (value_at world q.path q.time)) (sym (place_test q _))
  where
    by : (b : Bool) → is_path q.path place.path ≡ b
        → get (points_of_series (cond b (Some (put place.time value s)) (get world q.path))) q.time
        ≡ cond (b && eq_by_cmp int_cmp q.time place.time) (Some value) (value_at world q.path q.time)
    by true e =
        get-insert int_cmp_total s.points place.time value q.time
        ∙ ap (λ o. cond (eq_by_cmp int_cmp q.time place.time) (Some value) (get (points_of_series o) q.time))
        (sym found ∙ ap (get world) (sym (is_path_same _ _ e)))
    by false e = refl

-- a range that is cut
pub cut_at : (world : World) (path : List ℕ) (range : Range) (q : PointPlace)
    → value_at (change world path (cut range)) q.path q.time
    ≡ cond (is_within path range q) None (value_at world q.path q.time)
cut_at world path range q = by (get world path) refl
  where
    turned : (b : Bool) (o : Option Value) → cond (not b) o None ≡ cond b None o
    turned true o = refl
    turned false o = refl

    turn_path : (a b : List ℕ) → is_path a b ≡ is_path b a
    turn_path a b = (eq_by_cmp_equiv nat_list_cmp_total).symm a b

    absent : (b : Bool) → get world path ≡ None → is_path path q.path ≡ b
        → value_at world q.path q.time ≡ cond (b && is_in range q.time) None (value_at world q.path q.time)
    absent true found e =
        let none : value_at world q.path q.time ≡ None = ap (λ o. get (points_of_series o) q.time)
        (ap (get world) (sym (is_path_same _ _ e)) ∙ found)
        ∙ get-empty int_cmp q.time in
        none ∙ none_by (is_in range q.time) ∙ ap (cond (is_in range q.time) None) (sym none)
    absent false found e = refl

    there : (s : Series) (b : Bool) → get world path ≡ Some s → is_path path q.path ≡ b
        → get (points_of_series (cond b (Some (cut range s)) (get world q.path))) q.time
        ≡ cond (b && is_in range q.time) None (value_at world q.path q.time)
    there s true found e =
        get-retain_keys s.points (λ time. not (is_in range time)) q.time
        (λ x t. ap (λ time. not (is_in range time)) (sym (int_cmp-IsAntisymmetric q.time x t)))
        ∙ turned (is_in range q.time) (get s.points q.time)
        ∙ ap (λ o. cond (is_in range q.time) None (get (points_of_series o) q.time))
        (sym found ∙ ap (get world) (is_path_same _ _ e))
    there s false found e = refl

    by : (o : Option Series) → get world path ≡ o
        → value_at (change_series world path (cut range) o) q.path q.time
        ≡ cond (is_within path range q) None (value_at world q.path q.time)
    by None found = absent (is_path path q.path) found refl
    by (Some s) found =
        ap (λ o. get (points_of_series o) q.time) (get-insert nat_list_cmp_total world path (cut range s) q.path)
        ∙ ap (λ b. get (points_of_series (cond b (Some (cut range s)) (get world q.path))) q.time) (turn_path q.path path)
        ∙ there s (is_path path q.path) found refl
