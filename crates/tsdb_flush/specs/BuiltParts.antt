-- A part of a flush as a content of the engine state, and what is kept of its file as an entry of that state.
use Rattle.std.specs.Prelude.{◌≡◌, ◌≢◌, ◌↔◌, ℕ, ◌<◌, ◌≤◌, List, length, map, Some}
use Rattle.std.specs.FinMap.{get}
use Rattle.std.specs.List.{AllByRecursion as Each, AllZip}
use Rattle.tsdb_base.specs.declared.ids.SeriesId.{SeriesId}
use Rattle.tsdb_base.specs.declared.ids.Space.{Space}
use Rattle.tsdb_base.specs.declared.point.Point.{Point}
use Rattle.tsdb_base.specs.declared.value.Value.{Value}
use Rattle.tsdb_flush.specs.Parts.{Filled}
use Rattle.tsdb_base.specs.Lists.{Among, EachPair}
use Rattle.tsdb_memory.specs.Places.{Content, PointPlace}
use Rattle.tsdb_model.specs.declared.command.Schema.{Schema}
use Rattle.tsdb_memory.specs.StateOfMemory.{number_of}
use Rattle.tsdb_memtable.specs.Pairs.{Pair, points_of}
use Rattle.tsdb_base.specs.Points.{IsRising}
use Rattle.tsdb_path.specs.Nodes.{node_count}
use Rattle.tsdb_plan.specs.declared.entry.FileEntry.{FileEntry}
use Rattle.tsdb_memory.specs.State.{KnownFile}

-- a series of the part has a point of this value at the place
pub record HasPartPoint (part : List Filled) (place : PointPlace) (value : Value) : Type 0 where
  pub filled : Filled
  pub in_part : Among filled part
  pub point : Point
  pub in_series : Among point filled.points
  pub path : filled.schema.path ≡ place.path
  pub time : point.time ≡ place.time
  pub has : point.value ≡ value

-- the content has the points of the part, and no others
abbrev pub IsContentOfPart : List Filled → Content → Type 0
IsContentOfPart part content = (place : PointPlace) (value : Value)
    → (get content place ≡ Some value) ↔ HasPartPoint part place value

-- a series has a path with a device, and points in order of time, one at least
pub record IsFilledSeries (filled : Filled) : Type 0 where
  pub nodes : 2 ≤ node_count filled.schema.path
  pub some : 0 < length filled.points
  pub rising : IsRising filled.points

-- one series at least, each with a path of its own
pub record IsPart (part : List Filled) : Type 0 where
  pub some : 0 < length part
  pub each : Each IsFilledSeries part
  pub differ : EachPair (λ a b. a.schema.path ≢ b.schema.path) part

-- what is kept of the file of these series
abbrev pub entry_of : FileEntry → List (List ℕ) → KnownFile
entry_of entry series = record { size = entry.size; points = entry.points; hulls = entry.hulls; series = series }

-- The schemas of a job are those of series that are there, each beside its number, and no other series has a point in the
-- pair, whose points are in order of time.
pub record IsJobOf (series : List Schema) (pair : Pair) (schemas : List Schema) (numbers : List SeriesId) : Type 0 where
  pub numbered : AllZip (λ schema number. number_of series schema.path ≡ Some number.0) schemas numbers
  pub whole : (space : Space) (number : ℕ) → 0 < length (points_of space number pair)
      → Among number (map (λ id. id.0) numbers)
  pub rising : (space : Space) (number : ℕ) → IsRising (points_of space number pair)
