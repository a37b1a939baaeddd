-- The points of the columns are those of the series in the world, and so are their aggregates.
use Rattle.std.proofs.Common.{◌≡◌, ℕ, List, [], ◌∷◌, map, Option, None, Some, refl, ap, subst, zero, suc, ◌∙◌}
use Rattle.std.specs.Prelude.{slice_get}
use Rattle.std.specs.List.{AllByRecursion as Each, AllZip}
use Rattle.std.specs.declared.alloc.Global.{Global}
use Rattle.std.specs.declared.vec.Vec.{Vec}
use Rattle.tsdb_base.specs.declared.answers.Aggregate.{Aggregate}
use Rattle.tsdb_base.specs.declared.answers.Figure.{Figure}
use Rattle.tsdb_base.specs.declared.point.Point.{Point}
use Rattle.tsdb_base.specs.declared.point.Range.{Range}
use Rattle.tsdb_pins.specs.Rows.{vec_lists}
use Rattle.tsdb_model.specs.Apply.{item_value}
use Rattle.tsdb_model.specs.Folds.{aggregate_of, in_order}
use Rattle.tsdb_model.specs.World.{PointMap, World}
use Rattle.tsdb_marks.specs.declared.marks.Mark.{Mark}
use Rattle.tsdb_streams.specs.Streams.{stream_left}
use Rattle.tsdb_streams.specs.declared.stream.Stream.{Stream}
use Rattle.tsdb_base.specs.Points.{IsRising}
use Rattle.tsdb_merge.specs.Winners.{IsMergeOf, IsToldMergeOf}
use Rattle.tsdb_outside.specs.Files.{NamedFile}
use Rattle.tsdb_pins.proofs.Points.{pin_has}
use Rattle.tsdb_pins.specs.Worlds.{HasPointsOf, IsSourceOf, columns_in, kept_of, series_points, values_in}
use Rattle.tsdb_pin.specs.StateOfPin.{IsColumnOf, IsPinOf, IsShownAs}
use Rattle.tsdb_pin.specs.declared.pin.Column.{Column}
use Rattle.tsdb_pin.specs.declared.pin.Pin.{Pin}
use Rattle.tsdb_pin.specs.declared.pin.PinnedSource.{PinnedSource}
use Rattle.tsdb_pin.specs.declared.pin.PinnedSource.TheVariants.{File, Part}
use Rattle.tsdb_pins.specs.Reading.{HasTold, IsColumnRead, IsColumnValue, IsValueRead, SeriesPages, TellPoints, TellsPoints}
use Rattle.tsdb_pins.specs.Streams.{HasColumnLeft, IsColumnOpened}
use Rattle.tsdb_streams.specs.Pieces.{joined}
use Rattle.tsdb_state.specs.State as state
use Rattle.tsdb_state.specs.State.{FromFile, FromPart, ToldContents}
use Rattle.tsdb_state.specs.Steps.{PinStandsFor}

-- the aggregate of a merge that has the points of the series
value_is : (aggregate : Option Aggregate) (lists : List (List Point)) (series : PointMap) (answer : Option Figure) → ((points : List Point) → IsMergeOf lists points → points ≡ in_order series) → IsColumnValue aggregate lists answer
    → answer ≡ item_value aggregate series
value_is None lists series answer has is = is
value_is (Some a) lists series answer has is = is.is ∙ ap (aggregate_of a) (has is.points is.merge)

module _ {F S R P : Type 0} (name : R → NamedFile) (pages : SeriesPages) (told : ToldContents) where
  -- the points of all sources of a series
  record AllPoints (path : List ℕ) (sources : List (PinnedSource F S R P)) : Type 0 where
    pub lists : List (List Point)
    pub told_are : AllZip (HasTold name pages path) sources lists
    pub rising : Each IsRising lists
    pub are : AllZip (IsSourceOf told path) sources lists

  record OnePoints (path : List ℕ) (source : PinnedSource F S R P) : Type 0 where
    pub points : List Point
    pub told_is : HasTold name pages path source points
    pub rising : IsRising points
    pub is : IsSourceOf told path source points

  one_points : (path : List ℕ) (source : PinnedSource F S R P) (shown : state.SourceState) → IsShownAs path source shown → TellsPoints name pages told path source → OnePoints path source
  one_points path (File number born right) shown is tells = record { points = joined tells.0; told_is = (tells.0, tells.1, refl); rising = tells.2.rising; is = tells.2 }
  one_points path (Part born copies) (FromFile file) is tells = absurd is
  one_points path (Part born copies) (FromPart layer) is tells = record { points = copies; told_is = refl; rising = is.1.rising; is = refl }

  all_points : (path : List ℕ) (sources : List (PinnedSource F S R P)) (shown : List state.SourceState) → AllZip (IsShownAs path) sources shown → Each (TellsPoints name pages told path) sources → AllPoints path sources
  all_points path [] shown zip tells = record { lists = []; told_are = tt; rising = tt; are = tt }
  all_points path (source ∷ sources) [] zip tells = absurd zip
  all_points path (source ∷ sources) (s ∷ shown) zip tells =
      let one = one_points path source s zip.0 tells.0 in
      let rest = all_points path sources shown zip.1 tells.1 in
      record { lists = one.points ∷ rest.lists; told_are = (one.told_is, rest.told_are); rising = (one.rising, rest.rising); are = (one.is, rest.are) }

  columns_are : (all : World) (range : Range) (marks : List Mark) (columns : List (Column F S R P)) (shown : List state.ColumnState) (read : List (Vec Point Global))
      → AllZip IsColumnOf columns shown → TellPoints name pages told columns → Each (HasPointsOf told all range marks) columns → AllZip (IsColumnRead name pages range marks) columns read
      → vec_lists read ≡ map in_order (columns_in all range columns)
  columns_are all range marks [] shown [] zip tells has are = refl
  columns_are all range marks [] shown (points ∷ read) zip tells has are = absurd are
  columns_are all range marks (column ∷ columns) [] read zip tells has are = absurd zip
  columns_are all range marks (column ∷ columns) (s ∷ shown) [] zip tells has are = absurd are
  columns_are all range marks (column ∷ columns) (s ∷ shown) (points ∷ read) zip tells has are =
      let sources = all_points column.schema.path column.sources s.sources zip.0.sources tells.0 in
      let first : points.items ≡ in_order (series_points all range column.schema.path) = has.0 sources.lists points.items sources.are (are.0 sources.lists sources.told_are sources.rising) in
      ap (λ l. l ∷ vec_lists read) first ∙ ap (λ l. in_order (series_points all range column.schema.path) ∷ l) (columns_are all range marks columns shown read zip.1 tells.1 has.1 are.1)

  pub columns_read : (pin : Pin F S R P) (read : List (Vec Point Global)) → AllZip (IsColumnRead name pages pin.range pin.marks.marks) pin.columns read → (shown : state.PinState) (all : World)
      → TellPoints name pages told pin.columns → IsPinOf pin shown → PinStandsFor told shown all → vec_lists read ≡ map in_order (columns_in all pin.range pin.columns)
  columns_read pin read are shown all tells is stands = columns_are all pin.range pin.marks.marks pin.columns shown.columns read is.columns tells (pin_has told all pin shown is stands) are

  values_are : (all : World) (range : Range) (marks : List Mark) (columns : List (Column F S R P)) (shown : List state.ColumnState) (read : List (Option Figure))
      → AllZip IsColumnOf columns shown → TellPoints name pages told columns → Each (HasPointsOf told all range marks) columns → AllZip (IsValueRead name pages range marks) columns read
      → read ≡ values_in all range columns
  values_are all range marks [] shown [] zip tells has are = refl
  values_are all range marks [] shown (value ∷ read) zip tells has are = absurd are
  values_are all range marks (column ∷ columns) [] read zip tells has are = absurd zip
  values_are all range marks (column ∷ columns) (s ∷ shown) [] zip tells has are = absurd are
  values_are all range marks (column ∷ columns) (s ∷ shown) (value ∷ read) zip tells has are =
      let sources = all_points column.schema.path column.sources s.sources zip.0.sources tells.0 in
      let first : value ≡ item_value column.aggregate (series_points all range column.schema.path) =
      value_is column.aggregate (kept_of column.schema.path range marks column.sources sources.lists) (series_points all range column.schema.path) value (λ points merge. has.0 sources.lists points sources.are merge) (are.0 sources.lists sources.told_are sources.rising) in
      ap (λ l. l ∷ read) first ∙ ap (λ l. item_value column.aggregate (series_points all range column.schema.path) ∷ l) (values_are all range marks columns shown read zip.1 tells.1 has.1 are.1)

  pub values_read : (pin : Pin F S R P) (read : List (Option Figure)) → AllZip (IsValueRead name pages pin.range pin.marks.marks) pin.columns read → (shown : state.PinState) (all : World)
      → TellPoints name pages told pin.columns → IsPinOf pin shown → PinStandsFor told shown all → read ≡ values_in all pin.range pin.columns
  values_read pin read are shown all tells is stands = values_are all pin.range pin.marks.marks pin.columns shown.columns read is.columns tells (pin_has told all pin shown is stands) are

  -- what the stream of one column has left is told, and has the points of the series
  one_left : (all : World) (range : Range) (marks : List Mark) (column : Column F S R P) (shown : state.ColumnState)
      → IsColumnOf column shown → Each (TellsPoints name pages told column.schema.path) column.sources
      → HasPointsOf told all range marks column → (left : Option (List Point))
      → ((lists : List (List Point)) → AllZip (HasTold name pages column.schema.path) column.sources lists
      → Each IsRising lists → IsToldMergeOf (kept_of column.schema.path range marks column.sources lists) left)
      → left ≡ Some (in_order (series_points all range column.schema.path))
  one_left all range marks column shown is tells has left merged =
      let sources = all_points column.schema.path column.sources shown.sources is.sources tells in
      by left (merged sources.lists sources.told_are sources.rising) (λ points merge. has sources.lists points sources.are merge)
    where
      by : {lists : List (List Point)} (left : Option (List Point)) → IsToldMergeOf lists left
          → ((points : List Point) → IsMergeOf lists points → points ≡ in_order (series_points all range column.schema.path))
          → left ≡ Some (in_order (series_points all range column.schema.path))
      by None merge are = absurd merge
      by (Some points) merge are = ap (λ (l : List Point). Some l) (are points merge)

  some_left : (all : World) (range : Range) (marks : List Mark) (columns : List (Column F S R P))
      (shown : List state.ColumnState) (place : ℕ) (column : Column F S R P) → AllZip IsColumnOf columns shown
      → TellPoints name pages told columns → Each (HasPointsOf told all range marks) columns
      → slice_get columns place ≡ Some column → (left : Option (List Point))
      → ((lists : List (List Point)) → AllZip (HasTold name pages column.schema.path) column.sources lists
      → Each IsRising lists → IsToldMergeOf (kept_of column.schema.path range marks column.sources lists) left)
      → left ≡ Some (in_order (series_points all range column.schema.path))
  some_left all range marks [] shown place column zip tells has at left merged = absurd cc
  some_left all range marks (first ∷ columns) [] place column zip tells has at left merged = absurd zip
  some_left all range marks (first ∷ columns) (s ∷ shown) zero column zip tells has at left merged =
      let same : first ≡ column = cc in
      one_left all range marks column s (subst (λ (c : Column F S R P). IsColumnOf c s) same zip.0)
      (subst (λ (c : Column F S R P). Each (TellsPoints name pages told c.schema.path) c.sources) same tells.0)
      (subst (HasPointsOf told all range marks) same has.0) left merged
  some_left all range marks (first ∷ columns) (s ∷ shown) (suc place) column zip tells has at left merged =
      some_left all range marks columns shown place column zip.1 tells.1 has.1 at left merged

  pub column_left : (pin : Pin F S R P) (place : ℕ) (column : Column F S R P) (stream : Stream R)
      → slice_get pin.columns place ≡ Some column
      → IsColumnOpened name pages pin.range pin.marks.marks column stream → (shown : state.PinState) (all : World)
      → TellPoints name pages told pin.columns → IsPinOf pin shown → PinStandsFor told shown all
      → HasColumnLeft name pages all pin.range pin.columns place stream
  column_left pin place column stream at opened shown all tells is stands other there =
      let same : column ≡ other = cc in
      subst (λ (c : Column F S R P). stream_left name (pages c.schema.path) stream
      ≡ Some (in_order (series_points all pin.range c.schema.path))) same
      (some_left all pin.range pin.marks.marks pin.columns shown.columns place column is.columns tells
      (pin_has told all pin shown is stands) at (stream_left name (pages column.schema.path) stream) opened)
