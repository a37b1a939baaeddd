-- What is in memory as the code keeps it, and what holds of it. It speaks of memory alone, and holds after each log
-- that has a replay.
use Rattle.std.specs.Prelude.{◌≡◌, ℕ, ◌-◌, ◌≤◌, List, [], Some, map, All, length, slice_get, vec_len, vec_capacity}
use Rattle.std.specs.HashMap.{spare}
use Rattle.std.specs.List.{AllByRecursion as Each}
use Rattle.tsdb_base.specs.Values.{type_of}
use Rattle.tsdb_base.specs.declared.ids.Space.{Space}
use Rattle.tsdb_base.specs.declared.value.DataType.{DataType}
use Rattle.tsdb_base.specs.declared.value.Encoding.{Encoding}
use Rattle.tsdb_log.specs.declared.record.CellRecord.{CellRecord}
use Rattle.tsdb_model.specs.Commands.{IsSchema}
use Rattle.tsdb_model.specs.declared.command.Schema.{Schema}
use Rattle.tsdb_memory.specs.Fits.{HasNoPairPoint}
use Rattle.tsdb_memory.specs.SharedPairs.{pair_in}
use Rattle.tsdb_memory.specs.StateOfMemory.{number_of}
use Rattle.tsdb_memory.specs.Store as value
use Rattle.tsdb_memory.specs.declared.store.FrozenPair.{FrozenPair}
use Rattle.tsdb_memory.specs.declared.store.MemoryStore.TheInside.{Inside}
use Rattle.tsdb_memtable.specs.Pairs.{Pair, points_of}
use Rattle.tsdb_base.specs.Lists.{EachPair}
use Rattle.tsdb_base.specs.Points.{IsRising}
use Rattle.tsdb_path.specs.Nodes.{IsPath, device_of}
use Rattle.tsdb_base.specs.Limits.{end_of_numbers, max_frozen}

abbrev pub schema_of : List ℕ × (DataType × Encoding) → Schema
schema_of entry = record { path = entry.0; data_type = entry.1.0; encoding = entry.1.1 }

abbrev pub frozen_in : FrozenPair → value.FrozenPair
frozen_in frozen = record { born = frozen.born.0; pair = pair_in frozen.pair }

abbrev pub memory_view : Inside → value.MemoryState
memory_view inside = record {
  series = map schema_of inside.series.entries;
  stamp = inside.stamp;
  watermarks = inside.watermarks;
  marks = inside.marks;
  frozen = map frozen_in inside.frozen.items;
  working = inside.working;
  places = record { series = spare inside.series; frozen = vec_capacity inside.frozen - vec_len inside.frozen };
}

-- only series with these numbers have points
abbrev pub HasKnownSeries : List Schema → Pair → Type 0
HasKnownSeries series pair = (space : Space) (number : ℕ) → length series ≤ number → points_of space number pair ≡ []

-- the times of each series rise in each space
abbrev pub HasRisingPoints : Pair → Type 0
HasRisingPoints pair = (space : Space) (number : ℕ) → IsRising (points_of space number pair)

-- the points of each series that is there are of its type
abbrev pub HasTypedPoints : List Schema → Pair → Type 0
HasTypedPoints series pair = (space : Space) (number : ℕ) (schema : Schema) → slice_get series number ≡ Some schema
    → Each (λ point. type_of point.value ≡ schema.data_type) (points_of space number pair)

-- the cell of a row of the device fits the series: it is of the device, and the value is of its type
pub record IsFitting (device : List ℕ) (cell : CellRecord) (schema : Schema) : Type 0 where
  pub of_device : device_of schema.path ≡ device
  pub type : type_of cell.value ≡ schema.data_type

-- the series is well-formed, and its path is one
pub record IsFormed (schema : Schema) : Type 0 where
  pub suits : IsSchema schema
  pub path : IsPath schema.path

-- each frozen pair has a point; the stamps at their freezes do not fall, and none is above this one
pub record AreFrozenInTurn (stamp : ℕ) (frozen : List value.FrozenPair) : Type 0 where
  pub filled : Each (λ pair. ¬ HasNoPairPoint pair.pair) frozen
  pub rising : EachPair (λ a b. a.born ≤ b.born) frozen
  pub reached : Each (λ pair. pair.born ≤ stamp) frozen

-- series are well-formed, and each has its path alone; points are of series that are there, and of their types, and
-- rise in time; frozen pairs were frozen one after another; versions and the stamp are within their bounds
pub record IsSoundMemory (store : value.MemoryState) : Type 0 where
  pub formed : All IsFormed store.series
  pub once : (number : ℕ) (schema : Schema) → slice_get store.series number ≡ Some schema
      → number_of store.series schema.path ≡ Some number
  pub known : HasKnownSeries store.series store.working
  pub rising : HasRisingPoints store.working
  pub frozen_known : All (λ frozen. HasKnownSeries store.series frozen.pair) store.frozen
  pub typed : HasTypedPoints store.series store.working
  pub frozen_typed : All (λ frozen. HasTypedPoints store.series frozen.pair) store.frozen
  pub frozen_rising : All (λ frozen. HasRisingPoints frozen.pair) store.frozen
  pub two : length store.frozen ≤ max_frozen
  pub in_turn : AreFrozenInTurn store.stamp store.frozen
  pub versions : All (λ mark. mark.version.0 ≤ store.stamp) store.marks.marks
  pub ends : store.stamp ≤ end_of_numbers

abbrev pub IsMemoryKept : Inside → Type 0
IsMemoryKept inside = IsSoundMemory (memory_view inside)
