-- Which pin of the engine state a pin is.
use Rattle.std.specs.Prelude.{◌≡◌, ℕ, ℤ, List}
use Rattle.std.specs.FinMap.{get}
use Rattle.std.specs.List.{AllZip}
use Rattle.tsdb_base.specs.declared.point.Point.{Point}
use Rattle.tsdb_fileset.specs.StateOfFiles.{AreFilesOf}
use Rattle.tsdb_fileset.specs.Files.{KeptFiles}
use Rattle.tsdb_fileset.specs.StatePlaces.{Content}
use Rattle.tsdb_fileset.specs.StateOfMemory.{IsMemoryOf, point_value_at}
use Rattle.tsdb_fileset.specs.Store.{MemoryState}
use Rattle.tsdb_base.specs.Points.{IsRising}
use Rattle.tsdb_pin.specs.declared.pin.Column.{Column}
use Rattle.tsdb_pin.specs.declared.pin.Pin.{Pin}
use Rattle.tsdb_pin.specs.declared.pin.PinnedSource.{PinnedSource}
use Rattle.tsdb_pin.specs.declared.pin.PinnedSource.TheVariants.{File, Part}
use Rattle.tsdb_fileset.specs.State as state
use Rattle.tsdb_fileset.specs.State.{KnownFiles, EngineState, SourceState, FromFile, FromPart}
use Rattle.tsdb_fileset.specs.Steps.{TakesPin, pinned, unpinned}

-- the points rise in time, and are those that the content has of the series
pub record ArePointsOf (path : List ℕ) (points : List Point) (content : Content) : Type 0 where
  pub rising : IsRising points
  pub are : (time : ℤ) → point_value_at time points ≡ get content (record { path = path; time = time })

module _ {F S R P : Type 0} where
  -- a right is on the file of the state's source, and copies are the points of its part
  abbrev pub IsShownAs : List ℕ → PinnedSource F S R P → SourceState → Type 0
  IsShownAs path (File number born right) (FromFile file) = (file.number ≡ number.0) × (file.born ≡ born.0)
  IsShownAs path (File number born right) (FromPart layer) = ⊥
  IsShownAs path (Part born points) (FromFile file) = ⊥
  IsShownAs path (Part born points) (FromPart layer) = (layer.born ≡ born.0) × ArePointsOf path points layer.content

  -- the column is one of the state: of its series, with its sources in their order
  pub record IsColumnOf (column : Column F S R P) (shown : state.ColumnState) : Type 0 where
    pub path : shown.path ≡ column.schema.path
    pub sources : AllZip (IsShownAs column.schema.path) column.sources shown.sources

  -- the pin is one of the state
  pub record IsPinOf (pin : Pin F S R P) (shown : state.PinState) : Type 0 where
    pub stamp : shown.stamp ≡ pin.stamp.0
    pub range : shown.range ≡ pin.range
    pub marks : shown.marks ≡ pin.marks.marks
    pub columns : AllZip IsColumnOf pin.columns shown.columns

  -- The pin is one that the state gives, with exactly the sources and marks that it has to have. The files are then those
  -- of the state with this pin.
  pub record IsStated (new : KeptFiles) (known : KnownFiles) (engine : EngineState) (pin : Pin F S R P) : Type 0 where
    pub shown : state.PinState
    pub is : IsPinOf pin shown
    pub takes : TakesPin known shown engine
    pub files : AreFilesOf new known (pinned shown engine)

  -- the pin is one of each state that the files and memory show
  abbrev pub IsPinOfState : KeptFiles → KeptFiles → MemoryState → Pin F S R P → Type 0
  IsPinOfState old new store pin = (known : KnownFiles) (engine : EngineState) → IsMemoryOf store engine.store
      → AreFilesOf old known engine → IsStated new known engine pin

  -- without its rights the files are those of the state without the pin
  abbrev pub LeavesState : KeptFiles → KeptFiles → Pin F S R P → Type 0
  LeavesState old new pin =
      (known : KnownFiles) (engine : EngineState) (shown : state.PinState) (others : List state.PinState)
      → AreFilesOf old known engine → IsPinOf pin shown → AreFilesOf new known (unpinned shown others engine)
