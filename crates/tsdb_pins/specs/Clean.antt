-- How many pages of a pin meet its range and are not clean for the aggregates that are asked of them.
use Rattle.std.specs.Prelude.{◌≡◌, ℕ, Bool, List, [], Option, None, Some, ⊤, flat_map, map, sum_by}
use Rattle.std.specs.List.{AllByRecursion as Each, enumerate_from}
use Rattle.std.specs.Option.{unwrap_or}
use Rattle.tsdb_base.specs.declared.answers.Aggregate.{Aggregate}
use Rattle.tsdb_base.specs.declared.point.Point.{Point}
use Rattle.tsdb_base.specs.declared.point.Range.{Range}
use Rattle.tsdb_streams.specs.Clean.{count_read, hull_of, others, page_of}
use Rattle.tsdb_streams.specs.Files.{sums_in}
use Rattle.tsdb_marks.specs.declared.marks.Mark.{Mark}
use Rattle.tsdb_outside.specs.Files.{NamedFile}
use Rattle.tsdb_pin.specs.declared.pin.Column.{Column}
use Rattle.tsdb_pin.specs.declared.pin.PinnedSource.{PinnedSource}
use Rattle.tsdb_pin.specs.declared.pin.PinnedSource.TheVariants.{File, Part}
use Rattle.tsdb_pins.specs.Reading.{SeriesPages}

module _ {F S R P : Type 0} (name : R → NamedFile) (pages : SeriesPages) where
  -- the pages of the series in a file are told
  abbrev pub TellsPages : List ℕ → PinnedSource F S R P → Type 0
  TellsPages path (File number born right) = (lists : List (List Point)) × (pages path (name right).number ≡ Some lists)
  TellsPages path (Part born copies) = ⊤

  abbrev pub TellPages : List (Column F S R P) → Type 0
  TellPages columns = Each (λ column. Each (TellsPages column.schema.path) column.sources) columns

  -- the times of each page of the series in a file, as its points are told, or of a part in memory
  abbrev pub page_ranges : List ℕ → PinnedSource F S R P → List Range
  page_ranges path (File number born right) = flat_map hull_of (unwrap_or (pages path (name right).number) [])
  page_ranges path (Part born copies) = hull_of copies

  -- each page of the series in a file, as its points are told, for an aggregate
  abbrev pub pages_for : Aggregate → List ℕ → PinnedSource F S R P → List (Range × Bool)
  pages_for aggregate path (File number born right) =
      flat_map (page_of aggregate (sums_in (name right))) (unwrap_or (pages path (name right).number) [])
  pages_for aggregate path (Part born copies) = []

  -- how many pages of the source at this place meet the range and are not clean for the aggregate; `hulls` has the times
  -- of each source
  abbrev pub read_of : Aggregate → List ℕ → Range → List Mark → List (List Range) → ℕ → PinnedSource F S R P → ℕ
  read_of aggregate path range marks hulls place (File number born right) =
      count_read path range marks (others place hulls) born.0 (pages_for aggregate path (File number born right))
  read_of aggregate path range marks hulls place (Part born copies) = 0

  -- how many pages of a column meet the range and are not clean for this aggregate; without one none is read
  abbrev pub read_for : Option Aggregate → Range → List Mark → Column F S R P → ℕ
  read_for None range marks column = 0
  read_for (Some aggregate) range marks column = sum_by (λ entry. read_of aggregate column.schema.path range marks
      (map (page_ranges column.schema.path) column.sources) entry.0 entry.1) (enumerate_from 0 column.sources)

  -- for the aggregate that is asked of the column
  abbrev pub column_read : Range → List Mark → Column F S R P → ℕ
  column_read range marks column = read_for column.aggregate range marks column

  -- so of all columns together
  abbrev pub columns_read : Range → List Mark → List (Column F S R P) → ℕ
  columns_read range marks columns = sum_by (column_read range marks) columns
