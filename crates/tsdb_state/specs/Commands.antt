-- The command that a record is written for.
use Rattle.std.specs.Prelude.{◌≡◌, ◌⊎◌, ℕ, ◌≤◌, ℤ, List, [], ◌∷◌, Some, slice_get, ⊤}
use Rattle.tsdb_log.specs.declared.record.CellRecord.{CellRecord}
use Rattle.tsdb_model.specs.Apply.{value_of}
use Rattle.tsdb_model.specs.declared.command.Cell.{Cell}
use Rattle.tsdb_path.specs.Nodes.{child_of}
use Rattle.tsdb_state.specs.Limit.{IsEmptyPair, content_byte_count}
use Rattle.tsdb_base.specs.Limits.{max_pair_bytes}
use Rattle.tsdb_state.specs.Records.{inserted}
use Rattle.tsdb_state.specs.State.{SeriesEntry, StoreState}

-- the item of a record is the cell of a row: of its series, with the value that its literal is there
pub record IsRowCell (schemas : List SeriesEntry) (device : List ℕ) (cell : Cell) (item : CellRecord) : Type 0 where
  pub series : SeriesEntry
  pub at : slice_get schemas item.series.0 ≡ Some series
  pub of_path : series.schema.path ≡ child_of device cell.measurement
  pub value : value_of cell.value series.schema.data_type ≡ Some item.value

-- the items are the cells, in their order
abbrev pub AreCells : List SeriesEntry → List ℕ → List Cell → List CellRecord → Type 0
AreCells schemas device [] [] = ⊤
AreCells schemas device [] (item ∷ items) = ⊥
AreCells schemas device (cell ∷ cells) [] = ⊥
AreCells schemas device (cell ∷ cells) (item ∷ items) =
    IsRowCell schemas device cell item × AreCells schemas device cells items

-- a row finds the working pair empty, or leaves it within its bytes
abbrev pub KeepsBytes : ℤ → List CellRecord → StoreState → Type 0
KeepsBytes time cells state =
    IsEmptyPair state.working ⊎ (content_byte_count (inserted time cells state).working ≤ max_pair_bytes)
