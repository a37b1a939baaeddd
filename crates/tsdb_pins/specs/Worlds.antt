-- What a pin answers in a world, and what its sources have.
use Rattle.std.specs.Prelude.{◌≡◌, ℕ, List, [], ◌∷◌, map, filter, Option}
use Rattle.std.specs.FinMap.{get}
use Rattle.std.specs.List.{AllZip}
use Rattle.tsdb_base.specs.declared.answers.Figure.{Figure}
use Rattle.tsdb_base.specs.declared.point.Point.{Point}
use Rattle.tsdb_base.specs.declared.point.Range.{Range}
use Rattle.tsdb_model.specs.Apply.{item_value}
use Rattle.tsdb_model.specs.Folds.{in_order, within}
use Rattle.tsdb_model.specs.World.{PointMap, World, points_of_series}
use Rattle.tsdb_marks.specs.declared.marks.Mark.{Mark}
use Rattle.tsdb_merge.specs.Winners.{IsMergeOf}
use Rattle.tsdb_pin.specs.StateOfPin.{ArePointsOf}
use Rattle.tsdb_pin.specs.declared.pin.Column.{Column}
use Rattle.tsdb_pin.specs.declared.pin.PinnedSource.{PinnedSource}
use Rattle.tsdb_pin.specs.declared.pin.PinnedSource.TheVariants.{File, Part}
use Rattle.tsdb_streams.specs.KeptPoints.{is_kept}
use Rattle.tsdb_state.specs.State.{ToldContents}

-- the points that a series has in a range, in order of time
abbrev pub series_points : World → Range → List ℕ → PointMap
series_points world range path = within range (points_of_series (get world path))

module _ {F S R P : Type 0} where
  -- the points in the range that each column has in the world
  abbrev pub columns_in : World → Range → List (Column F S R P) → List PointMap
  columns_in world range columns = map (λ column. series_points world range column.schema.path) columns

  -- the aggregates that the columns ask for
  abbrev pub values_in : World → Range → List (Column F S R P) → List (Option Figure)
  values_in world range columns =
      map (λ column. item_value column.aggregate (series_points world range column.schema.path)) columns

  -- the stamp at which the points of a source were frozen
  abbrev pub born_of : PinnedSource F S R P → ℕ
  born_of (File number born right) = born.0
  born_of (Part born points) = born.0

  -- these are all points that a source has of the series, where it is told what files have
  abbrev pub IsSourceOf : ToldContents → List ℕ → PinnedSource F S R P → List Point → Type 0
  IsSourceOf told path (File number born right) points = ArePointsOf path points (told number.0)
  IsSourceOf told path (Part born copies) points = points ≡ copies

  -- the points of each source that are kept
  abbrev pub kept_of : List ℕ → Range → List Mark → List (PinnedSource F S R P) → List (List Point) → List (List Point)
  kept_of path range marks [] lists = []
  kept_of path range marks (source ∷ sources) [] = []
  kept_of path range marks (source ∷ sources) (points ∷ lists) =
      filter (is_kept path range marks (born_of source)) points ∷ kept_of path range marks sources lists

  -- The merge of what the sources of the column have, but for points outside of the range and those that marks delete,
  -- has the points of the series in the world.
  abbrev pub HasPointsOf : ToldContents → World → Range → List Mark → Column F S R P → Type 0
  HasPointsOf told world range marks column = (lists : List (List Point)) (points : List Point)
      → AllZip (IsSourceOf told column.schema.path) column.sources lists
      → IsMergeOf (kept_of column.schema.path range marks column.sources lists) points
      → points ≡ in_order (series_points world range column.schema.path)
