-- The cells of a row against the series that are there, and the points that it adds.
use Rattle.std.specs.Prelude.{◌≡◌, ◌≢◌, ◌⊎◌, ◌↔◌, ℕ, ℤ, ◌+◌, ◌<◌, ◌≤◌, Bool, IsTrue, cond, List, [], ◌∷◌, None}
use Rattle.std.specs.Prelude.{is_some, slice_get}
use Rattle.std.specs.List.{AllByRecursion as Each}
use Rattle.std.specs.Option.{IsSomeAnd}
use Rattle.tsdb_base.specs.declared.ids.Space.{Space}
use Rattle.tsdb_base.specs.Lists.{EachPair}
use Rattle.tsdb_log.specs.declared.record.CellRecord.{CellRecord}
use Rattle.tsdb_model.specs.declared.command.Schema.{Schema}
use Rattle.tsdb_memory.specs.Model.{IsFitting}
use Rattle.tsdb_memory.specs.StateOfMemory.{IsMemoryOf, point_value_at}
use Rattle.tsdb_memory.specs.Store.{MemoryState}
use Rattle.tsdb_memtable.specs.Pairs.{Pair, points_of}
use Rattle.tsdb_path.specs.Nodes.{device_of}
use Rattle.tsdb_state.specs.Limit.{IsEmptyPair, point_count}
use Rattle.tsdb_base.specs.Limits.{end_of_numbers, max_pair_points}
use Rattle.tsdb_state.specs.Records.{CanInsert, inserted}
use Rattle.tsdb_state.specs.State.{StoreState}

-- the cell is of a series of the device, with a value of its type
abbrev pub IsCellOf : List Schema → List ℕ → CellRecord → Type 0
IsCellOf series device cell = IsSomeAnd (slice_get series cell.series.0) (IsFitting device cell)

-- no series stands in two cells
abbrev pub DifferInSeries : List CellRecord → Type 0
DifferInSeries cells = EachPair (λ cell other. cell.series.0 ≢ other.series.0) cells

-- cells of different series of the device, with values of their types; and one more command can be counted
pub record IsRowOf (store : MemoryState) (device : List ℕ) (cells : List CellRecord) : Type 0 where
  pub there : Each (IsCellOf store.series device) cells
  pub differ : DifferInSeries cells
  pub stamp : store.stamp < end_of_numbers

-- the device is that of the first cell; a row without cells may be of any
abbrev pub IsDeviceOf : List Schema → List CellRecord → List ℕ → Type 0
IsDeviceOf series [] device = Unit {0}
IsDeviceOf series (first ∷ cells) device =
    IsSomeAnd (slice_get series first.series.0) (λ schema. device_of schema.path ≡ device)

-- the series of the first cell is not there
abbrev pub LacksItsSeries : List Schema → List CellRecord → Type 0
LacksItsSeries series [] = ⊥
LacksItsSeries series (first ∷ cells) = slice_get series first.series.0 ≡ None

-- how many of the cells have no point at the time in the space
abbrev pub new_points : Space → ℤ → Pair → List CellRecord → ℕ
new_points space time pair [] = 0
new_points space time pair (cell ∷ cells) =
    cond (is_some (point_value_at time (points_of space cell.series.0 pair))) 0 1 + new_points space time pair cells

-- it is true where the working pair of each state that is shown is empty, or keeps to its points with these cells
abbrev pub TellsRoomFor : MemoryState → ℤ → List CellRecord → Bool → Type 0
TellsRoomFor store time cells has = (state : StoreState) → IsMemoryOf store state → IsTrue has
    ↔ (IsEmptyPair state.working ⊎ (point_count (inserted time cells state).working ≤ max_pair_points))

-- the row can be inserted into no state that is shown
abbrev pub HasNoInsert : MemoryState → ℤ → List CellRecord → Type 0
HasNoInsert store time cells = (state : StoreState) → IsMemoryOf store state → ¬ CanInsert time cells state
