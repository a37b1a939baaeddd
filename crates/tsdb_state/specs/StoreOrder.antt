-- When a store is in order. Each part is a record over only what it reads, so that a step hands on what it leaves
-- alone.
use Rattle.std.specs.Prelude.{◌≡◌, ◌≢◌, ◌⊎◌, ℕ, ◌<◌, ◌≤◌, true, List, [], ◌∷◌, ◌++◌, map, length, Some, ⊤}
use Rattle.std.specs.List.{AllByRecursion as Each}
use Rattle.tsdb_base.specs.Values.{type_of}
use Rattle.tsdb_base.specs.declared.value.DataType.{DataType}
use Rattle.tsdb_base.specs.declared.value.Value.{Value}
use Rattle.tsdb_state.specs.Layers.{HasPoint, Layer}
use Rattle.tsdb_state.specs.LayerOrder.{IsAbove, IsBeforeInTime, IsBelow, Rises, WatermarkMap}
use Rattle.tsdb_state.specs.Places.{PointPlace}
use Rattle.tsdb_model.specs.Commands.{IsSchema}
use Rattle.tsdb_marks.specs.declared.marks.Mark.{Mark}
use Rattle.tsdb_state.specs.Limit.{IsEmptyPair, IsWithinPairLimit}
use Rattle.tsdb_base.specs.Limits.{max_frozen}
use Rattle.tsdb_base.specs.Lists.{EachPair}
use Rattle.tsdb_state.specs.State.{File, FrozenContent, PairContent, SeriesEntry, StoreState, ToldContents}
use Rattle.tsdb_state.specs.Views.{file_layers, layer_of, pair_layers, sequence_layer, unsequence_layer}
use Rattle.tsdb_state.specs.Worlds.{type_at, value_at_place}

-- the late layers, and the unsequence parts of the pairs up to each one, are before its sequence part
abbrev pub LateIsBelow : List Layer → List FrozenContent → Type 0
LateIsBelow late [] = ⊤
LateIsBelow late (pair ∷ pairs) =
    IsBeforeInTime (late ++ unsequence_layer pair ∷ []) (sequence_layer pair ∷ [])
    × LateIsBelow (late ++ unsequence_layer pair ∷ []) pairs

-- the sequence layers rise; late ones are below the frozen sequence parts behind them; all but the working sequence
-- part are at most at the watermarks, and that is above them
pub record LayersInOrder (told : ToldContents) (watermarks : WatermarkMap) (sequence unsequence : List File)
    (frozen : List FrozenContent) (working : PairContent)
    : Type 0 where
  pub rises : Rises (file_layers told sequence ++ map sequence_layer frozen)
  pub late : LateIsBelow (file_layers told unsequence) frozen
  pub below : IsBelow watermarks (file_layers told sequence ++ map sequence_layer frozen)
  pub late_below : IsBelow watermarks (file_layers told unsequence ++ map unsequence_layer frozen)
  pub working_below : IsBelow watermarks (layer_of working.unsequence)
  pub above : IsAbove watermarks (layer_of working.sequence)

-- every born and every version is a stamp that was reached; versions rise, and so do the borns of the frozen pairs, of
-- which there are at most two, each with a point
pub record StampsInOrder (stamp : ℕ) (marks : List Mark) (sequence unsequence : List File) (frozen : List FrozenContent)
    (working : PairContent)
    : Type 0 where
  pub sequence_born : Each (λ file. file.born ≤ stamp) sequence
  pub unsequence_born : Each (λ file. file.born ≤ stamp) unsequence
  pub frozen_born : Each (λ pair. pair.born ≤ stamp) frozen
  pub frozen_rise : EachPair (λ pair later. pair.born < later.born) frozen
  pub two : length frozen ≤ max_frozen
  pub filled : Each (λ pair. ¬ IsEmptyPair pair.pair) frozen
  pub working_born : ¬ IsEmptyPair working → Each (λ pair. pair.born < stamp) frozen
  pub versions : Each (λ mark. mark.version.0 ≤ stamp) marks
  pub versions_rise : EachPair (λ mark later. mark.version.0 < later.version.0) marks

-- a series with this path and this type was created
abbrev pub IsOfSeries : List SeriesEntry → List ℕ → DataType → Type 0
IsOfSeries [] path data_type = ⊥
IsOfSeries (series ∷ schemas) path data_type =
    ((series.schema.path ≡ path) × (series.schema.data_type ≡ data_type)) ⊎ IsOfSeries schemas path data_type

-- the layers of files and pairs, in no order
abbrev pub unordered_layers : ToldContents → List File → List File → List FrozenContent → PairContent → List Layer
unordered_layers told sequence unsequence frozen working =
    (file_layers told sequence ++ file_layers told unsequence)
    ++ ((map sequence_layer frozen ++ map unsequence_layer frozen) ++ pair_layers working)

-- series are well-formed; two that are there have two paths; each point is of a known series and has its type
pub record SeriesInOrder (told : ToldContents) (schemas : List SeriesEntry) (sequence unsequence : List File)
    (frozen : List FrozenContent) (working : PairContent)
    : Type 0 where
  pub formed : Each (λ series. IsSchema series.schema) schemas
  pub once : EachPair (λ series other. series.live ≡ true → other.live ≡ true
      → series.schema.path ≢ other.schema.path) schemas
  pub typed : (place : PointPlace) (value : Value)
      → HasPoint (unordered_layers told sequence unsequence frozen working) place value
      → IsOfSeries schemas place.path (type_of value)

-- a value that the state has is of a series that is there, and has its type
abbrev pub HasLiveValues : ToldContents → StoreState → Type 0
HasLiveValues told state = (place : PointPlace) (value : Value)
    → value_at_place told state place ≡ Some value → type_at state.schemas place.path ≡ Some (type_of value)

-- a store is in order
pub record StoreInOrder (told : ToldContents) (state : StoreState) : Type 0 where
  pub layers : LayersInOrder told state.watermarks state.sequence state.unsequence state.frozen state.working
  pub stamps : StampsInOrder state.stamp state.marks state.sequence state.unsequence state.frozen state.working
  pub series : SeriesInOrder told state.schemas state.sequence state.unsequence state.frozen state.working
  pub live : HasLiveValues told state
  pub limit : IsWithinPairLimit state.working
