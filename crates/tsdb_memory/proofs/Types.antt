-- The type of a series in the state, by its number in memory.
use Rattle.std.proofs.Common.{◌≡◌, ℕ, suc, Bool, true, false, cond, List, [], ◌∷◌, map, slice_get}
use Rattle.std.proofs.Common.{Option, Some, None, find, refl, sym, subst}
use Rattle.std.proofs.lemmas.Bool.{false≢true}
use Rattle.std.specs.Prelude.{◌↔◌, IsSome}
use Rattle.std.specs.Option.{option_and_then, option_map}
use Rattle.tsdb_base.specs.declared.value.DataType.{DataType}
use Rattle.tsdb_state.specs.Places.{is_path}
use Rattle.tsdb_model.specs.declared.command.Schema.{Schema}
use Rattle.tsdb_memory.specs.StateOfMemory.{IsMemoryOf, series_entry, number_of}
use Rattle.tsdb_memory.specs.Store.{MemoryState}
use Rattle.tsdb_state.specs.State.{SeriesEntry, StoreState}
use Rattle.tsdb_state.specs.Worlds.{is_live_at, type_at}

-- what is found by the number is what is found by the path
abbrev AreAlike : Option ℕ → Option SeriesEntry → Type 0
AreAlike None None = Unit {0}
AreAlike None (Some entry) = ⊥
AreAlike (Some number) None = ⊥
AreAlike (Some number) (Some entry) = Unit {0}

alike : (series : List Schema) (path : List ℕ) → AreAlike (number_of series path) (find (is_live_at path) (map series_entry series))
alike [] path = tt
alike (schema ∷ series) path = by (is_path path schema.path) (number_of series path) (find (is_live_at path) (map series_entry series)) (alike series path)
  where
    by : (b : Bool) (o : Option ℕ) (e : Option SeriesEntry) → AreAlike o e
        → AreAlike (cond b (Some 0) (option_map suc o)) (cond b (Some (series_entry schema)) e)
    by true o e rest = tt
    by false None None rest = tt
    by false None (Some entry) rest = absurd rest
    by false (Some number) None rest = absurd rest
    by false (Some number) (Some entry) rest = tt

-- a series is there in memory exactly where it is in the state
pub there_alike : (series : List Schema) (path : List ℕ)
    → (number_of series path ≡ None ↔ type_at (map series_entry series) path ≡ None)
    × (IsSome (number_of series path) ↔ IsSome (type_at (map series_entry series) path))
there_alike series path = by (number_of series path) (find (is_live_at path) (map series_entry series)) (alike series path)
  where
    by : (o : Option ℕ) (e : Option SeriesEntry) → AreAlike o e
        → (o ≡ None ↔ option_map (λ (series : SeriesEntry). series.schema.data_type) e ≡ None)
        × (IsSome o ↔ IsSome (option_map (λ (series : SeriesEntry). series.schema.data_type) e))
    by None None rest = ((λ e. refl, λ e. refl), (λ some. absurd (false≢true some), λ some. absurd (false≢true some)))
    by None (Some entry) rest = absurd rest
    by (Some number) None rest = absurd rest
    by (Some number) (Some entry) rest = ((λ e. absurd cc, λ e. absurd cc), (λ some. refl, λ some. refl))

-- a path without a number has no type, and one with a number has one
pub no_type_at : (store : MemoryState) (state : StoreState) (path : List ℕ) → IsMemoryOf store state
    → number_of store.series path ≡ None → type_at state.schemas path ≡ None
no_type_at store state path memory none =
    subst (λ (l : List SeriesEntry). type_at l path ≡ None) (sym memory.schemas)
    ((there_alike store.series path).0.0 none)

pub some_type_at : (store : MemoryState) (state : StoreState) (path : List ℕ) → IsMemoryOf store state
    → IsSome (number_of store.series path) → IsSome (type_at state.schemas path)
some_type_at store state path memory some =
    subst (λ (l : List SeriesEntry). IsSome (type_at l path)) (sym memory.schemas)
    ((there_alike store.series path).1.0 some)

-- the type of the series with this number
abbrev pub type_of_number : List Schema → Option ℕ → Option DataType
type_of_number series number =
    option_and_then (λ n. option_map (λ (s : Schema). s.data_type) (slice_get series n)) number

pub type_found : (series : List Schema) (path : List ℕ)
    → type_at (map series_entry series) path ≡ type_of_number series (number_of series path)
type_found [] path = refl
type_found (schema ∷ series) path =
    by (is_path path schema.path) (number_of series path) (type_found series path)
  where
    by : (b : Bool) (o : Option ℕ)
        → option_map (λ (s : SeriesEntry). s.schema.data_type) (find (is_live_at path) (map series_entry series))
        ≡ type_of_number series o
        → option_map (λ (s : SeriesEntry). s.schema.data_type)
        (cond b (Some (series_entry schema)) (find (is_live_at path) (map series_entry series)))
        ≡ type_of_number (schema ∷ series) (cond b (Some 0) (option_map suc o))
    by true o rest = refl
    by false None rest = rest
    by false (Some n) rest = rest
