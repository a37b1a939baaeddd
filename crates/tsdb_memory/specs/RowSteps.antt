-- What the steps of reading a row and of counting it promise.
use Rattle.std.specs.Prelude.{◌≡◌, ℕ, List, [], ◌∷◌, map, Some, slice_get, ⊤}
use Rattle.tsdb_log.specs.declared.record.CellRecord.{CellRecord}
use Rattle.tsdb_model.specs.Apply.{value_of}
use Rattle.tsdb_model.specs.declared.command.Cell.{Cell}
use Rattle.tsdb_model.specs.declared.command.Schema.{Schema}
use Rattle.tsdb_memory.specs.StateOfMemory.{series_entry}
use Rattle.tsdb_path.specs.Nodes.{IsName, child_of}
use Rattle.tsdb_memory.specs.RowReading.{IsMissingSeries, IsUnfitCell}
use Rattle.tsdb_memory.specs.declared.cells.CellFound.{CellFound}
use Rattle.tsdb_memory.specs.declared.cells.CellFound.TheVariants.{Missing, Unfit, Item}
use Rattle.tsdb_state.specs.Worlds.{type_at}

-- the item is the cell as a record has it: of the cell's series, with the value that its literal is there
pub record IsRowItem (series : List Schema) (device : List ℕ) (cell : Cell) (item : CellRecord) : Type 0 where
  pub schema : Schema
  pub at : slice_get series item.series.0 ≡ Some schema
  pub of_path : schema.path ≡ child_of device cell.measurement
  pub type : type_at (map series_entry series) (child_of device cell.measurement) ≡ Some schema.data_type
  pub value : value_of cell.value schema.data_type ≡ Some item.value
  pub name : IsName cell.measurement

-- the items are the cells, in their order
abbrev pub AreRowItems : List Schema → List ℕ → List Cell → List CellRecord → Type 0
AreRowItems series device [] [] = ⊤
AreRowItems series device [] (item ∷ items) = ⊥
AreRowItems series device (cell ∷ cells) [] = ⊥
AreRowItems series device (cell ∷ cells) (item ∷ items) =
    IsRowItem series device cell item × AreRowItems series device cells items

-- what a cell is in memory
abbrev pub IsCellFound : List Schema → List ℕ → Cell → CellFound → Type 0
IsCellFound series device cell Missing = IsMissingSeries (map series_entry series) device cell
IsCellFound series device cell Unfit = IsUnfitCell (map series_entry series) device cell
IsCellFound series device cell (Item item) = IsRowItem series device cell item
