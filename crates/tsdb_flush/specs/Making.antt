-- A part in the making, as the code keeps it.
use Rattle.std.specs.Prelude.{◌≡◌, List, [], ◌∷◌, ◌++◌, length, map, sum_by}
use Rattle.std.specs.List.{AllByRecursion as Each}
use Rattle.tsdb_base.specs.declared.point.Point.{Point}
use Rattle.tsdb_flush.specs.MakingSteps.{ComeBefore, IsSoundSeries, filled_with}
use Rattle.tsdb_flush.specs.declared.part.PartBuilder.{PartBuilder}
use Rattle.tsdb_flush.specs.BuiltFile.{AreHullsOf, paths_of}
use Rattle.tsdb_flush.specs.Parts.{Filled, builder_series}
use Rattle.tsdb_model.specs.declared.command.Schema.{Schema}
use Rattle.tsfile_writer.specs.Pages.{IsInRange}
use Rattle.tsfile_writer.specs.Building.{WasGiven}
use Rattle.tsfile_writer.specs.BuilderInput.{MayTake}

-- these series were added, each with its points
pub record IsPartInMaking (part : List Filled) (making : PartBuilder) : Type 0 where
  pub given : WasGiven making.builder (map builder_series part)
  pub sound : Each IsSoundSeries part
  pub points : making.points ≡ sum_by (λ filled. length filled.points) part
  pub hulls : AreHullsOf part making.hulls.items
  pub paths : making.series.items ≡ paths_of part

-- the series comes behind those that were added
pub record MayAdd (making : PartBuilder) (schema : Schema) : Type 0 where
  pub part : List Filled
  pub is : IsPartInMaking part making
  pub before : ComeBefore part schema

-- these series were added, and the series of the schema was begun behind them and given these points
pub record IsSeriesOpen (part : List Filled) (schema : Schema) (points : List Point)
    (making : PartBuilder) : Type 0 where
  pub given : WasGiven making.builder (map builder_series (part ++ filled_with schema points ∷ []))
  pub in_range : Each IsInRange points
  pub before : ComeBefore part schema
  pub sound : Each IsSoundSeries part
  pub counted : making.points ≡ sum_by (λ filled. length filled.points) part
  pub hulls : AreHullsOf part making.hulls.items
  pub paths : making.series.items ≡ paths_of part

-- the series that was begun may get the point: it is of its type, and later than its points
pub record MayPut (point : Point) (making : PartBuilder) : Type 0 where
  pub part : List Filled
  pub schema : Schema
  pub points : List Point
  pub is : IsSeriesOpen part schema points making
  pub may : MayTake point (builder_series (filled_with schema points))
