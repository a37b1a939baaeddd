-- The stream of a column of a pin.
use Rattle.std.specs.Prelude.{◌≡◌, ℕ, List, Some, slice_get}
use Rattle.std.specs.List.{AllByRecursion as Each, AllZip}
use Rattle.tsdb_base.specs.declared.point.Point.{Point}
use Rattle.tsdb_base.specs.declared.point.Range.{Range}
use Rattle.tsdb_streams.specs.Streams.{IsToldStream, IsTrueStream, stream_left}
use Rattle.tsdb_streams.specs.declared.stream.Stream.{Stream}
use Rattle.tsdb_model.specs.Folds.{in_order}
use Rattle.tsdb_model.specs.World.{World}
use Rattle.tsdb_marks.specs.declared.marks.Mark.{Mark}
use Rattle.tsdb_base.specs.Points.{IsRising}
use Rattle.tsdb_merge.specs.Winners.{IsToldMergeOf}
use Rattle.tsdb_outside.specs.Files.{NamedFile}
use Rattle.tsdb_pins.specs.Worlds.{kept_of, series_points}
use Rattle.tsdb_pin.specs.declared.pin.Column.{Column}
use Rattle.tsdb_pins.specs.Reading.{HasTold, SeriesPages}

module _ {F S R P : Type 0} (name : R → NamedFile) (pages : SeriesPages) where
  -- The stream has left the merge of the points that the column's sources have in the range and no mark deletes, where
  -- they are told.
  abbrev pub IsColumnOpened : Range → List Mark → Column F S R P → Stream R → Type 0
  IsColumnOpened range marks column stream = (lists : List (List Point))
      → AllZip (HasTold name pages column.schema.path) column.sources lists → Each IsRising lists
      → IsToldMergeOf (kept_of column.schema.path range marks column.sources lists)
      (stream_left name (pages column.schema.path) stream)

  -- the stream has left the points in the range that the series of the column at this place has in the world, in order
  abbrev pub HasColumnLeft : World → Range → List (Column F S R P) → ℕ → Stream R → Type 0
  HasColumnLeft world range columns place stream = (column : Column F S R P) → slice_get columns place ≡ Some column
      → stream_left name (pages column.schema.path) stream
      ≡ Some (in_order (series_points world range column.schema.path))

  -- what is told of the files of the column at this place is so for the stream
  abbrev pub IsTrueColumn : List (Column F S R P) → ℕ → Stream R → Type 0
  IsTrueColumn columns place stream = (column : Column F S R P) → slice_get columns place ≡ Some column
      → IsTrueStream name (pages column.schema.path) stream

  -- the pages of each of these files are told, where it tells its bytes
  abbrev pub IsToldColumn : List (Column F S R P) → ℕ → Stream R → Type 0
  IsToldColumn columns place stream = (column : Column F S R P) → slice_get columns place ≡ Some column
      → IsToldStream name (pages column.schema.path) stream
