-- What is told of the files of a pin, and what is read of its columns.
use Rattle.std.specs.Prelude.{◌≡◌, ℕ, ◌≤◌, List, Option, None, Some, ⊤}
use Rattle.std.specs.List.{AllByRecursion as Each, AllZip}
use Rattle.std.specs.declared.alloc.Global.{Global}
use Rattle.std.specs.declared.vec.Vec.{Vec}
use Rattle.tsdb_base.specs.declared.answers.Aggregate.{Aggregate}
use Rattle.tsdb_base.specs.declared.answers.Figure.{Figure}
use Rattle.tsdb_base.specs.declared.point.Point.{Point}
use Rattle.tsdb_base.specs.declared.point.Range.{Range}
use Rattle.tsdb_streams.specs.Files.{FilePages, IsTold, IsTruth}
use Rattle.tsdb_streams.specs.declared.source.StreamSource.{StreamSource}
use Rattle.tsdb_streams.specs.declared.source.StreamSource.TheVariants as lent
use Rattle.tsdb_model.specs.Folds.{aggregate_of}
use Rattle.tsdb_marks.specs.declared.marks.Mark.{Mark}
use Rattle.tsdb_base.specs.Points.{IsRising}
use Rattle.tsdb_merge.specs.Winners.{IsMergeOf}
use Rattle.tsdb_outside.specs.Files.{NamedFile, Store}
use Rattle.tsdb_path.specs.Nodes.{device_of, measurement_of, node_count}
use Rattle.tsdb_pins.specs.Worlds.{kept_of}
use Rattle.tsdb_pin.specs.StateOfPin.{ArePointsOf}
use Rattle.tsdb_pin.specs.declared.pin.Column.{Column}
use Rattle.tsdb_pin.specs.declared.pin.PinnedSource.{PinnedSource}
use Rattle.tsdb_pin.specs.declared.pin.PinnedSource.TheVariants.{File, Part}
use Rattle.tsdb_streams.specs.Pieces.{joined}
use Rattle.tsdb_state.specs.State.{ToldContents}

module _ {F S R P : Type 0} where
  -- the same source, lent
  abbrev pub IsLentAs : PinnedSource F S R P → StreamSource R → Type 0
  IsLentAs (File number born right) (lent.File read stamp) = (read.now ≡ right) × (stamp ≡ born)
  IsLentAs (File number born right) (lent.Part points stamp) = ⊥
  IsLentAs (Part born copies) (lent.File read stamp) = ⊥
  IsLentAs (Part born copies) (lent.Part points stamp) = (points.now ≡ copies) × (stamp ≡ born)

  -- each series is of a device with a measurement
  abbrev pub HaveNodes : List (Column F S R P) → Type 0
  HaveNodes columns = Each (λ column. 2 ≤ node_count column.schema.path) columns

module _ {F S R P : Type 0} (name : R → NamedFile) where
  -- a file is of the store
  abbrev pub IsOfStore : Store → PinnedSource F S R P → Type 0
  IsOfStore store (File number born right) = (name right).store ≡ store
  IsOfStore store (Part born copies) = ⊤

  abbrev pub AreColumnsOf : Store → List (Column F S R P) → Type 0
  AreColumnsOf store columns = Each (λ column. Each (IsOfStore store) column.sources) columns

-- the answer is this aggregate of the merge of the lists
pub record IsFoldOf (name : Aggregate) (lists : List (List Point)) (answer : Option Figure) : Type 0 where
  pub points : List Point
  pub merge : IsMergeOf lists points
  pub is : answer ≡ aggregate_of name points

-- the answer is the aggregate that is asked for, if one is
abbrev pub IsColumnValue : Option Aggregate → List (List Point) → Option Figure → Type 0
IsColumnValue None lists answer = answer ≡ None
IsColumnValue (Some name) lists answer = IsFoldOf name lists answer

-- the points of each page of a series in the file of a number, where they are told
abbrev pub SeriesPages : Type 0
SeriesPages = List ℕ → FilePages

module _ {F S R P : Type 0} (name : R → NamedFile) (pages : SeriesPages) where
  -- what is told of the series in a file is so
  abbrev pub IsTrueIn : List ℕ → PinnedSource F S R P → Type 0
  IsTrueIn path (File number born right) = IsTruth (device_of path, measurement_of path) (pages path) (name right)
  IsTrueIn path (Part born copies) = ⊤

  -- the pages of the series in a file are told, where the file tells its bytes
  abbrev pub IsToldIn : List ℕ → PinnedSource F S R P → Type 0
  IsToldIn path (File number born right) = IsTold (pages path) (name right)
  IsToldIn path (Part born copies) = ⊤

  -- so of all files of all columns
  abbrev pub AreColumnsTrue : List (Column F S R P) → Type 0
  AreColumnsTrue columns = Each (λ column. Each (IsTrueIn column.schema.path) column.sources) columns

  abbrev pub AreColumnsTold : List (Column F S R P) → Type 0
  AreColumnsTold columns = Each (λ column. Each (IsToldIn column.schema.path) column.sources) columns

  -- the source has these points of the series, where they are told
  abbrev pub HasTold : List ℕ → PinnedSource F S R P → List Point → Type 0
  HasTold path (File number born right) points =
      (lists : List (List Point)) × (pages path (name right).number ≡ Some lists) × (points ≡ joined lists)
  HasTold path (Part born copies) points = points ≡ copies

  -- what is told of the series in a file are the points that the file of the number has of it
  abbrev pub TellsPoints : ToldContents → List ℕ → PinnedSource F S R P → Type 0
  TellsPoints told path (File number born right) =
      (lists : List (List Point)) × (pages path (name right).number ≡ Some lists)
      × ArePointsOf path (joined lists) (told number.0)
  TellsPoints told path (Part born copies) = ⊤

  abbrev pub TellPoints : ToldContents → List (Column F S R P) → Type 0
  TellPoints told columns = Each (λ column. Each (TellsPoints told column.schema.path) column.sources) columns

  -- These points were read of the column: the merge of those that its sources have in the range and no mark deletes.
  abbrev pub IsColumnRead : Range → List Mark → Column F S R P → Vec Point Global → Type 0
  IsColumnRead range marks column points = (lists : List (List Point))
      → AllZip (HasTold column.schema.path) column.sources lists → Each IsRising lists
      → IsMergeOf (kept_of column.schema.path range marks column.sources lists) points.items

  -- This answer was read of the column: the aggregate that it asks for, of the merge of those points.
  abbrev pub IsValueRead : Range → List Mark → Column F S R P → Option Figure → Type 0
  IsValueRead range marks column answer = (lists : List (List Point))
      → AllZip (HasTold column.schema.path) column.sources lists → Each IsRising lists
      → IsColumnValue column.aggregate (kept_of column.schema.path range marks column.sources lists) answer
