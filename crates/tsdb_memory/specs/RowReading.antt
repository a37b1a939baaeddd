-- How a row is read against the series that are there: its cells as a record of the log has them, or why it is refused.
use Rattle.std.specs.Prelude.{◌≡◌, ℕ, ◌≢◌, List, None, Result, All, AllPairs, Any, IfOk, slice_get}
use Rattle.std.specs.Option.{IsSomeAnd}
use Rattle.std.specs.declared.result.Result.TheVariants.{Ok, Err}
use Rattle.tsdb_base.specs.declared.answers.Answer.{Answer}
use Rattle.tsdb_base.specs.declared.answers.Answer.TheVariants.{Done, NoPath, WrongType, Exists, Device, Memory, Full}
use Rattle.tsdb_base.specs.declared.fault.Memory as fault
use Rattle.tsdb_log.specs.declared.record.CellRecord.{CellRecord}
use Rattle.tsdb_model.specs.Apply.{value_of}
use Rattle.tsdb_model.specs.declared.command.Cell.{Cell}
use Rattle.tsdb_model.specs.declared.command.Schema.{Schema}
use Rattle.tsdb_memory.specs.Model.{IsFitting}
use Rattle.tsdb_path.specs.Nodes.{child_of}
use Rattle.tsdb_state.specs.Commands.{AreCells}
use Rattle.tsdb_state.specs.State.{SeriesEntry}
use Rattle.tsdb_state.specs.Worlds.{type_at}

-- the series of the cell is not there
abbrev pub IsMissingSeries : List SeriesEntry → List ℕ → Cell → Type 0
IsMissingSeries schemas device cell = type_at schemas (child_of device cell.measurement) ≡ None

-- the series of the cell is there, and the literal is no value of its type
abbrev pub IsUnfitCell : List SeriesEntry → List ℕ → Cell → Type 0
IsUnfitCell schemas device cell =
    IsSomeAnd (type_at schemas (child_of device cell.measurement)) (λ data_type. value_of cell.value data_type ≡ None)

-- why a row is refused: the series of a cell is not there; or all are there, and a literal does not fit
abbrev pub IsRowRefused : List SeriesEntry → List ℕ → List Cell → Answer → Type 0
IsRowRefused schemas device cells NoPath = Any (IsMissingSeries schemas device) cells
IsRowRefused schemas device cells WrongType =
    (¬ Any (IsMissingSeries schemas device) cells) × Any (IsUnfitCell schemas device) cells
IsRowRefused schemas device cells Done = ⊥
IsRowRefused schemas device cells Exists = ⊥
IsRowRefused schemas device cells Device = ⊥
IsRowRefused schemas device cells Memory = ⊥
IsRowRefused schemas device cells (Full counter) = ⊥

-- how a row is read: as its cells in their order, or as refused
abbrev pub IsRowRead : List SeriesEntry → List ℕ → List Cell → Result (List CellRecord) Answer → Type 0
IsRowRead schemas device cells (Ok items) = AreCells schemas device cells items
IsRowRead schemas device cells (Err answer) = IsRowRefused schemas device cells answer

-- what is answered to a row that was read so, where nothing fails
abbrev pub row_answer : Result (List CellRecord) Answer → Answer
row_answer (Ok items) = Done
row_answer (Err answer) = answer

-- it holds of the cells, where the row was read as cells
abbrev pub IfRead : Result (Result (List CellRecord) Answer) fault.Memory → (List CellRecord → Type 0) → Type 0
IfRead result P = IfOk result (λ read. IfOk read P)

-- the items are of different series
abbrev pub AreOfDifferentSeries : List CellRecord → Type 0
AreOfDifferentSeries items = AllPairs (λ item other. item.series.0 ≢ other.series.0) items

-- the items are of series of the device that are there, and have their types
abbrev pub AreOfDevice : List Schema → List ℕ → List CellRecord → Type 0
AreOfDevice series device items = All (λ item. IsSomeAnd (slice_get series item.series.0) (IsFitting device item)) items
