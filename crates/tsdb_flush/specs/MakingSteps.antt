-- What a part in the making has, and what its steps do. Only private calls speak of it.
use Rattle.std.specs.Prelude.{◌≡◌, ℕ, ℤ, ◌<◌, ◌≤ℤ◌, List, [], ◌∷◌, ◌++◌, length, map}
use Rattle.std.specs.List.{AllByRecursion as Each}
use Rattle.tsdb_base.specs.declared.point.Point.{Point}
use Rattle.tsdb_base.specs.Values.{type_of}
use Rattle.tsdb_path.specs.Order.{AreNamesBefore}
use Rattle.tsdb_flush.specs.BuiltFile.{AreHullsOf}
use Rattle.tsdb_flush.specs.Parts.{Filled, schema_names, builder_series}
use Rattle.tsdb_base.specs.Lists.{Among}
use Rattle.tsdb_model.specs.declared.command.Schema.{Schema}
use Rattle.tsfile_writer.specs.Pages.{IsInRange}
use Rattle.tsdb_path.specs.Nodes.{IsName, IsPath, device_of, measurement_of}
use Rattle.tsdb_plan.specs.declared.entry.Hull.{Hull}
use Rattle.tsfile_writer.specs.Building.{WasGiven}
use Rattle.tsfile_writer.specs.declared.builder.Builder.{Builder}

-- each series comes before this one in the order of a tree
abbrev pub ComeBefore : List Filled → Schema → Type 0
ComeBefore part schema = Each (λ filled. AreNamesBefore (schema_names filled.schema) (schema_names schema)) part

-- the series of the schema, with these points
abbrev pub filled_with : Schema → List Point → Filled
filled_with schema points = record { schema = schema; points = points }

-- the last series has no point yet, and these are of its type
pub record HaveBegun (builder : Builder) (points : List Point) : Type 0 where
  pub part : List Filled
  pub schema : Schema
  pub given : WasGiven builder (map builder_series (part ++ filled_with schema [] ∷ []))
  pub typed : Each (λ point. type_of point.value ≡ schema.data_type) points

-- the points lie from the one time to the other, and both have a point
pub record AreFrom (points : List Point) (from to : ℤ) : Type 0 where
  pub between : Each (λ point. (from ≤ℤ point.time) × (point.time ≤ℤ to)) points
  pub first : Point
  pub has_first : Among first points
  pub at_first : first.time ≡ from
  pub last : Point
  pub has_last : Among last points
  pub at_last : last.time ≡ to

-- hulls of a part become those with one series of the device more, which comes behind the others
abbrev pub AddsTimes : List ℕ → List Point → List Hull → List Hull → Type 0
AddsTimes device points old new = (part : List Filled) (schema : Schema) → device_of schema.path ≡ device → ComeBefore part schema
    → AreHullsOf part old → AreHullsOf (part ++ filled_with schema points ∷ []) new

-- a series that has a point, whose names and points are as their types have them
pub record IsSoundSeries (filled : Filled) : Type 0 where
  pub some : 0 < length filled.points
  pub device : IsPath (device_of filled.schema.path)
  pub measurement : IsName (measurement_of filled.schema.path)
  pub points : Each IsInRange filled.points
