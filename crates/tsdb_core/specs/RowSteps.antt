-- What the private calls of a row promise each other.
use Rattle.std.specs.Prelude.{ℕ, ◌≤◌, List, length, map}
use Rattle.tsdb_base.specs.declared.answers.Answer.{Answer}
use Rattle.tsdb_base.specs.declared.answers.Answer.TheVariants.{Done, NoPath, WrongType, Exists, Device, Memory, Full}
use Rattle.tsdb_core.specs.Core.{IsSeen, logged_of, working_of}
use Rattle.tsdb_core.specs.Rows.{FitsCore}
use Rattle.tsdb_core.specs.declared.engine.Core.{Core}
use Rattle.tsdb_log.specs.declared.record.CellRecord.{CellRecord}
use Rattle.tsdb_memory.specs.LogState.{Outside}
use Rattle.tsdb_base.specs.Limits.{max_names}
use Rattle.tsdb_model.specs.declared.command.Cell.{Cell}
use Rattle.tsdb_model.specs.declared.command.Row.{Row}
use Rattle.tsdb_model.specs.declared.command.Schema.{Schema}
use Rattle.tsdb_memory.specs.StateOfMemory.{series_entry}
use Rattle.tsdb_outside.specs.declared.disk.Disk as disk
use Rattle.tsdb_outside.specs.declared.faults.Counted as counted
use Rattle.tsdb_memory.specs.RowReading.{AreOfDifferentSeries, AreOfDevice}
use Rattle.tsdb_state.specs.Commands.{AreCells}
use Rattle.tsdb_state.specs.Records.{CanFreeze}
use Rattle.tsdb_state.specs.State.{EngineState}

-- the cells of the row as its record has them, of different series of the device
pub record AreReadCells (series : List Schema) (device : List ℕ) (row : List Cell) (cells : List CellRecord)
    : Type 0 where
  pub are : AreCells (map series_entry series) device row cells
  pub few : length cells ≤ max_names
  pub differ : AreOfDifferentSeries cells
  pub there : AreOfDevice series device cells

-- the answers to a row after which nothing has changed
abbrev pub IsUnchangedAnswer : Answer → Type 0
IsUnchangedAnswer Done = ⊥
IsUnchangedAnswer NoPath = Unit {0}
IsUnchangedAnswer WrongType = Unit {0}
IsUnchangedAnswer Exists = ⊥
IsUnchangedAnswer Device = ⊥
IsUnchangedAnswer Memory = Unit {0}
IsUnchangedAnswer (Full counter) = Unit {0}

module _ {J F S R P : Type 0} {means : disk.Ghosts J} {counts : counted.Ghosts J} where
  -- where the row does not fit, the working pair of each state can be frozen
  abbrev pub CanFreezeFor : Row → Core J F S R P means counts → Type 0
  CanFreezeFor row core = (outside : Outside) (state : EngineState) → IsSeen core outside state → ¬ FitsCore row core
      → CanFreeze state.store
