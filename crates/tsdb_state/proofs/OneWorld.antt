-- A state stands for one world at most, and a store in order stands for one.
use Rattle.std.proofs.Common.{◌≡◌, ℕ, ℤ, Bool, true, false, cond, List, [], ◌∷◌, refl, sym, ap, ◌∙◌, inl, inr}
use Rattle.std.proofs.Common.{None, Some, Option}
use Rattle.std.specs.Prelude.{◌&&◌, ◌||◌, find}
use Rattle.std.specs.Cmp.{int_cmp_total}
use Rattle.std.specs.Cmp.Lexicographic.{nat_list_cmp_total, slice_cmp}
use Rattle.std.specs.FinMap.{FinMap, empty, entries, from_entries, get, get-empty, get-entries, get-from_entries}
use Rattle.std.specs.FinMap.{find as find_key, get-insert, insert, int_cmp-IsAntisymmetric, nat_cmp-IsAntisymmetric}
use Rattle.std.specs.FinMap.{same_map, slice_cmp-IsAntisymmetric}
use Rattle.std.specs.List.{flat_map, list_any}
use Rattle.std.specs.Option.{option_map, option_or}
use Rattle.std.specs.Ordering.{eq_by_cmp, int_cmp, nat_cmp}
use Rattle.tsdb_base.specs.declared.value.Value.{Value}
use Rattle.tsdb_base.proofs.Lists.{among_left, among_right, any_among}
use Rattle.tsdb_state.proofs.LayerLemmas.JobMarks.{none_by}
use Rattle.tsdb_state.proofs.LayerLemmas.Places.{is_path_same, place_itself, tied}
use Rattle.tsdb_state.proofs.LayerLemmas.Values.{value_is_point}
use Rattle.tsdb_state.specs.Layers.{HasPoint, Layer}
use Rattle.tsdb_base.specs.Lists.{Among}
use Rattle.tsdb_state.specs.Places.{PointPlace, is_path, place_cmp}
use Rattle.tsdb_model.specs.World.{Series, World, points_of_series, value_at}
use Rattle.tsdb_model.specs.declared.command.Schema.{Schema}
use Rattle.tsdb_state.proofs.Freezing.{find_among}
use Rattle.tsdb_state.proofs.Worlds.{place_test, type_in}
use Rattle.tsdb_state.specs.State.{SeriesEntry, StoreState, ToldContents}
use Rattle.tsdb_state.specs.StoreOrder.{HasLiveValues}
use Rattle.tsdb_state.specs.Views.{all_layers}
use Rattle.tsdb_state.specs.Worlds.{StandsFor, is_live_at, value_at_place}

-- a world is its types and its values

same_series : (a b : Option Series) → type_in a ≡ type_in b
    → ((time : ℤ) → get (points_of_series a) time ≡ get (points_of_series b) time) → a ≡ b
same_series None None types values = refl
same_series None (Some s) types values = absurd (cc)
same_series (Some r) None types values = absurd (cc)
same_series (Some r) (Some s) types values =
    let points : r.points ≡ s.points = same_map int_cmp_total int_cmp-IsAntisymmetric r.points s.points values in
    let type : r.data_type ≡ s.data_type = cc in
    λ i. Some (record { data_type = type i; points = points i })

pub same_world : (a b : World) → ((path : List ℕ) → type_in (get a path) ≡ type_in (get b path))
    → ((path : List ℕ) (time : ℤ) → value_at a path time ≡ value_at b path time) → a ≡ b
same_world a b types values = same_map nat_list_cmp_total (slice_cmp-IsAntisymmetric nat_cmp-IsAntisymmetric) a b
    (λ path. same_series _ _ (types path) (values path))

-- a state stands for one world
pub stands_once : (told : ToldContents) (store : StoreState) (a b : World) → StandsFor told store a → StandsFor told store b
    → a ≡ b
stands_once told store a b one other = same_world a b (λ path. one.types path ∙ sym (other.types path))
    (λ path time. one.values (record { path = path; time = time })
    ∙ sym (other.values (record { path = path; time = time })))

-- the world of a store in order: each series that is there, with its values at the places of all points

entries_of : List Layer → List (PointPlace × Value)
entries_of layers = flat_map (λ layer. entries layer.content) layers

-- a point of layers is among their entries
point_among : (layers : List Layer) (place : PointPlace) (value : Value) → HasPoint layers place value
    → Among (place, value) (entries_of layers)
unfolding entries_of
point_among [] place value has = absurd has
point_among (layer ∷ layers) place value (inl is) = among_left (entries layer.content) _ _
    (find_among (entries layer.content) place value (sym (get-entries layer.content place) ∙ is))
point_among (layer ∷ layers) place value (inr has) = among_right (entries layer.content) _ _
    (point_among layers place value has)

equal_times : (a b : ℤ) → eq_by_cmp int_cmp a b ≡ true → a ≡ b
equal_times a b e = int_cmp-IsAntisymmetric a b (tied (int_cmp a b) e)

module _ (told : ToldContents) (state : StoreState) where
  abbrev at : List ℕ → ℤ → PointPlace
  at path time = record { path = path; time = time }

  abbrev with_value : ℤ → Option Value → FinMap int_cmp Value → FinMap int_cmp Value
  with_value time None rest = rest
  with_value time (Some value) rest = insert rest time value

  get_with : (q time : ℤ) (o : Option Value) (rest : FinMap int_cmp Value)
      → get (with_value time o rest) q ≡ cond (eq_by_cmp int_cmp q time) (option_or o (get rest q)) (get rest q)
  get_with q time None rest = by (eq_by_cmp int_cmp q time)
    where
      by : (b : Bool) → get rest q ≡ cond b (get rest q) (get rest q)
      by true = refl
      by false = refl
  get_with q time (Some value) rest = get-insert int_cmp_total rest time value q

  -- the times of the series among some entries, with the values that the state has there
  points_among : List ℕ → List (PointPlace × Value) → FinMap int_cmp Value
  points_among path [] = empty
  points_among path (entry ∷ es) = cond (is_path path entry.0.path)
      (with_value entry.0.time (value_at_place told state entry.0) (points_among path es)) (points_among path es)

  abbrev is_at : PointPlace → PointPlace × Value → Bool
  is_at place entry = eq_by_cmp place_cmp place entry.0

  points_at : (path : List ℕ) (time : ℤ) (es : List (PointPlace × Value))
      → get (points_among path es) time
      ≡ cond (list_any (is_at (at path time)) es) (value_at_place told state (at path time)) None
  unfolding points_among
  points_at path time [] = get-empty int_cmp time
  points_at path time (entry ∷ es) =
      by (is_path path entry.0.path) (eq_by_cmp int_cmp time entry.0.time) refl refl (points_at path time es)
      ∙ ap (λ b. cond (b || list_any (is_at (at path time)) es) (value_at_place told state (at path time)) None)
      (sym (place_test (at path time) entry.0))
    where
      rest : FinMap int_cmp Value
      rest = points_among path es

      more : Bool
      more = list_any (is_at (at path time)) es

      with_entry : (c : Bool) → eq_by_cmp int_cmp time entry.0.time ≡ c
          → get (with_value entry.0.time (value_at_place told state entry.0) rest) time
          ≡ cond c (option_or (value_at_place told state entry.0) (get rest time)) (get rest time)
      with_entry c e =
          get_with time entry.0.time (value_at_place told state entry.0) rest
          ∙ ap (λ b. cond b (option_or (value_at_place told state entry.0) (get rest time)) (get rest time)) e

      either : (b : Bool) (o : Option Value) → option_or o (cond b o None) ≡ o
      either true None = refl
      either false None = refl
      either b (Some value) = refl

      by : (p c : Bool) → is_path path entry.0.path ≡ p → eq_by_cmp int_cmp time entry.0.time ≡ c
          → get rest time ≡ cond more (value_at_place told state (at path time)) None
          → get (cond p (with_value entry.0.time (value_at_place told state entry.0) rest) rest) time
          ≡ cond ((p && c) || more) (value_at_place told state (at path time)) None
      by false c p e is = is
      by true false p e is = with_entry false e ∙ is
      by true true p e is = with_entry true e ∙ (λ i. option_or (value_at_place told state (record {
        path = sym (is_path_same path entry.0.path p) i;
        time = sym (equal_times time entry.0.time e) i;
      })) (is i)) ∙ either more (value_at_place told state (at path time))

  -- the values of a series
  series_of : Schema → Series
  series_of schema = record {
    data_type = schema.data_type;
    points = points_among schema.path (entries_of (all_layers told state));
  }

  series_value : (schema : Schema) (time : ℤ)
      → get (series_of schema).points time ≡ value_at_place told state (at schema.path time)
  unfolding series_of
  series_value schema time = points_at schema.path time es ∙ by (value_at_place told state here) refl
    where
      here : PointPlace
      here = at schema.path time

      es : List (PointPlace × Value)
      es = entries_of (all_layers told state)

      by : (o : Option Value) → value_at_place told state here ≡ o
          → cond (list_any (is_at here) es) (value_at_place told state here) None ≡ value_at_place told state here
      by None e = (λ i. cond (list_any (is_at here) es) (e i) None) ∙ sym (none_by (list_any (is_at here) es)) ∙ sym e
      by (Some value) e = ap (λ b. cond b (value_at_place told state here) None)
          (any_among (is_at here) es (here, value) (point_among _ here value
          (value_is_point state.marks here _ value e)) (place_itself here))

  world_list : List SeriesEntry → List (List ℕ × Series)
  world_list [] = []
  world_list (s ∷ schemas) = cond s.live ((s.schema.path, series_of s.schema) ∷ world_list schemas) (world_list schemas)

  listed_series : (path : List ℕ) (schemas : List SeriesEntry)
      → find_key (slice_cmp nat_cmp) path (world_list schemas)
      ≡ option_map (λ (s : SeriesEntry). series_of s.schema) (find (is_live_at path) schemas)
  unfolding world_list
  listed_series path [] = refl
  listed_series path (s ∷ schemas) = by s.live (listed_series path schemas)
    where
      rest : List (List ℕ × Series)
      rest = world_list schemas

      tail : Option Series
      tail = option_map (λ (s : SeriesEntry). series_of s.schema) (find (is_live_at path) schemas)

      head : (b : Bool) → find_key (slice_cmp nat_cmp) path rest ≡ tail
          → cond b (Some (series_of s.schema)) (find_key (slice_cmp nat_cmp) path rest)
          ≡ option_map (λ (s : SeriesEntry). series_of s.schema) (cond b (Some s) (find (is_live_at path) schemas))
      head true e = refl
      head false e = e

      by : (live : Bool) → find_key (slice_cmp nat_cmp) path rest ≡ tail
          → find_key (slice_cmp nat_cmp) path (cond live ((s.schema.path, series_of s.schema) ∷ rest) rest)
          ≡ option_map (λ (s : SeriesEntry). series_of s.schema)
          (cond (live && is_path path s.schema.path) (Some s) (find (is_live_at path) schemas))
      by true e = head (is_path path s.schema.path) e
      by false e = e

  pub world_of : World
  world_of = from_entries (world_list state.schemas)

  world_series : (path : List ℕ)
      → get world_of path ≡ option_map (λ (s : SeriesEntry). series_of s.schema) (find (is_live_at path) state.schemas)
  unfolding world_of
  world_series path = get-from_entries nat_list_cmp_total (world_list state.schemas) path ∙ listed_series _ _

  -- a series that is found has the path
  found_path : (path : List ℕ) (schemas : List SeriesEntry) (s : SeriesEntry) → find (is_live_at path) schemas ≡ Some s
      → path ≡ s.schema.path
  found_path path [] s found = absurd (cc)
  found_path path (x ∷ schemas) s found = by x.live (is_path path x.schema.path) refl (λ e. found_path path schemas s e)
      found
    where
      by : (live b : Bool) → is_path path x.schema.path ≡ b
          → (find (is_live_at path) schemas ≡ Some s → path ≡ s.schema.path)
          → cond (live && b) (Some x) (find (is_live_at path) schemas) ≡ Some s → path ≡ s.schema.path
      by true true e rest found =
          let same : x ≡ s = cc in is_path_same _ _ e
          ∙ ap (λ (y : SeriesEntry). y.schema.path) same
      by true false e rest found = rest found
      by false b e rest found = rest found

  pub stands_for_world : HasLiveValues told state → StandsFor told state world_of
  unfolding series_of
  stands_for_world live = record {
    types = λ path. ap type_in (world_series _) ∙ type_of_found (find (is_live_at path) state.schemas);
    values =
        λ place. ap (λ o. get (points_of_series o) place.time) (world_series _)
        ∙ by place (find (is_live_at place.path) state.schemas) refl;
  }
    where
      type_of_found : (o : Option SeriesEntry)
          → type_in (option_map (λ (s : SeriesEntry). series_of s.schema) o)
          ≡ option_map (λ (s : SeriesEntry). s.schema.data_type) o
      type_of_found None = refl
      type_of_found (Some s) = refl

      by : (place : PointPlace) (o : Option SeriesEntry) → find (is_live_at place.path) state.schemas ≡ o
          → get (points_of_series (option_map (λ (s : SeriesEntry). series_of s.schema) o)) place.time
          ≡ value_at_place told state place
      by place None found = get-empty int_cmp place.time ∙ none (value_at_place told state place) refl
        where
          none : (o : Option Value) → value_at_place told state place ≡ o
              → ◌≡◌ {A = Option Value} None (value_at_place told state place)
          none None e = sym e
          none (Some value) e = absurd (let type = live place value e in
              let missing = ap (option_map (λ (s : SeriesEntry). s.schema.data_type)) found in cc)
      by place (Some s) found = series_value s.schema place.time ∙ (λ i. value_at_place told state (record {
        path = sym (found_path place.path state.schemas s found) i;
        time = place.time;
      }))
