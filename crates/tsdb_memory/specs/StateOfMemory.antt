-- Which state of a store is the one that memory has: the memory part of the state of layers. Files are left free.
use Rattle.std.specs.Prelude.{◌≡◌, ℕ, suc, ℤ, Bool, cond, true, false, List, [], ◌∷◌, ◌++◌, Option, Some, None, find, map}
use Rattle.std.specs.FinMap.{get}
use Rattle.std.specs.Ordering.{int_eq}
use Rattle.std.specs.List.{AllZip}
use Rattle.std.specs.Option.{option_and_then, option_map}
use Rattle.tsdb_base.specs.declared.ids.Space.{Space}
use Rattle.tsdb_base.specs.declared.ids.Space.TheVariants.{Sequence, Unsequence}
use Rattle.tsdb_base.specs.declared.point.Point.{Point}
use Rattle.tsdb_base.specs.declared.value.Value.{Value}
use Rattle.tsdb_base.specs.Lists.{Among}
use Rattle.tsdb_state.specs.Places.{Content, PointPlace, is_path}
use Rattle.tsdb_model.specs.declared.command.Schema.{Schema}
use Rattle.tsdb_memtable.specs.Pairs.{Pair, points_of}
use Rattle.tsdb_memtable.specs.Watermarks.{watermark}
use Rattle.tsdb_memory.specs.Store.{FrozenPair, MemoryState}
use Rattle.tsdb_state.specs.State as state

-- a series that is there
abbrev pub series_entry : Schema → state.SeriesEntry
series_entry schema = record { schema = schema; live = true }

-- the number of the series with the path, where it is there
abbrev pub number_of : List Schema → List ℕ → Option ℕ
number_of [] path = None
number_of (schema ∷ series) path = cond (is_path path schema.path) (Some 0) (option_map suc (number_of series path))

-- the value that the points have at the time, where they have one
abbrev pub point_value_at : ℤ → List Point → Option Value
point_value_at time points = option_map (λ point. point.value) (find (λ point. int_eq time point.time) points)

-- the value that a pair has at the place: that of the series with its path, at its time
abbrev pub value_found : List Schema → Space → Pair → PointPlace → Option Value
value_found series space pair place =
    option_and_then (λ number. point_value_at place.time (points_of space number pair)) (number_of series place.path)

-- the content has at each place what the pair has in the space
abbrev pub IsPairContent : List Schema → Space → Pair → Content → Type 0
IsPairContent series space pair content = (place : PointPlace) → get content place ≡ value_found series space pair place

-- the content of both spaces
pub record IsPairOf (series : List Schema) (pair : Pair) (shown : state.PairContent) : Type 0 where
  pub sequence : IsPairContent series Sequence pair shown.sequence
  pub unsequence : IsPairContent series Unsequence pair shown.unsequence

-- a frozen pair, by its born and its content
pub record IsFrozenOf (series : List Schema) (frozen : FrozenPair) (shown : state.FrozenContent) : Type 0 where
  pub born : shown.born ≡ frozen.born
  pub pair : IsPairOf series frozen.pair shown.pair

-- the memory part of the state is what is in memory
pub record IsMemoryOf (store : MemoryState) (shown : state.StoreState) : Type 0 where
  pub schemas : shown.schemas ≡ map series_entry store.series
  pub stamp : shown.stamp ≡ store.stamp
  pub watermarks : (device : List ℕ) → get shown.watermarks device ≡ watermark store.watermarks device
  pub marks : shown.marks ≡ store.marks.marks
  pub frozen : AllZip (IsFrozenOf store.series) store.frozen shown.frozen
  pub working : IsPairOf store.series store.working shown.working

-- the borns of the listed files
abbrev pub file_borns : state.StoreState → List ℕ
file_borns shown = map (λ file. file.born) (shown.sequence ++ shown.unsequence)

-- the part of a pair in this space
abbrev pub part_of : Space → state.PairContent → Content
part_of Sequence pair = pair.sequence
part_of Unsequence pair = pair.unsequence

-- some series has a point in the space
pub record SomePoint (space : Space) (pair : Pair) : Type 0 where
  pub number : ℕ
  pub point : Point
  pub among : Among point (points_of space number pair)

-- whether a series has a point in the space
abbrev pub TellsSpaceFilled : Bool → Space → Pair → Type 0
TellsSpaceFilled true space pair = SomePoint space pair
TellsSpaceFilled false space pair = (number : ℕ) → points_of space number pair ≡ []
