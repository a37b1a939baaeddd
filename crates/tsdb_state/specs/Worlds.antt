-- The value that a state has at a place, and the world that it stands for.
use Rattle.std.specs.Prelude.{◌≡◌, ℕ, Bool, ◌&&◌, List, Option, find}
use Rattle.std.specs.FinMap.{get}
use Rattle.std.specs.Option.{option_map}
use Rattle.tsdb_base.specs.declared.value.DataType.{DataType}
use Rattle.tsdb_base.specs.declared.value.Value.{Value}
use Rattle.tsdb_state.specs.Layers.{value_in}
use Rattle.tsdb_state.specs.Places.{PointPlace, is_path}
use Rattle.tsdb_model.specs.World.{World, value_at}
use Rattle.tsdb_state.specs.State.{SeriesEntry, StoreState, ToldContents}
use Rattle.tsdb_state.specs.Views.{all_layers}

-- the value of the state at the place, where it has one
abbrev pub value_at_place : ToldContents → StoreState → PointPlace → Option Value
value_at_place told state place = value_in state.marks place (all_layers told state)

-- whether this is the series with the path, and it is there
abbrev pub is_live_at : List ℕ → SeriesEntry → Bool
is_live_at path series = series.live && is_path path series.schema.path

-- the type of the series with the path, where it is there
abbrev pub type_at : List SeriesEntry → List ℕ → Option DataType
type_at schemas path = option_map (λ series. series.schema.data_type) (find (is_live_at path) schemas)

-- both have the same series with the same types, and at every place the same value or none
pub record StandsFor (told : ToldContents) (state : StoreState) (world : World) : Type 0 where
  pub types : (path : List ℕ) → option_map (λ series. series.data_type) (get world path) ≡ type_at state.schemas path
  pub values : (place : PointPlace) → value_at world place.path place.time ≡ value_at_place told state place

-- the new state has the series and the values of the old one, and so stands for the same worlds
pub record KeepsWorld (told : ToldContents) (old new : StoreState) : Type 0 where
  pub types : (path : List ℕ) → type_at new.schemas path ≡ type_at old.schemas path
  pub values : (place : PointPlace) → value_at_place told new place ≡ value_at_place told old place
