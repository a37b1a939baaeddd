-- What entries of an index say of series, and what the steps of a summary do. Only private calls speak of it.
use Rattle.std.specs.Prelude.{◌≡◌, ℕ, List, [], ◌∷◌, ◌++◌, length, sum_by}
use Rattle.std.specs.List.{AllByRecursion as Each}
use Rattle.tsdb_base.specs.declared.point.Point.{Point}
use Rattle.tsdb_recover.specs.declared.summary.Summary.{Summary}
use Rattle.tsdb_flush.specs.MakingSteps.{AddsTimes}
use Rattle.tsdb_index.specs.declared.index.IndexEntry.{IndexEntry}
use Rattle.tsdb_flush.specs.BuiltFile.{AreHullsOf, paths_of}
use Rattle.tsdb_flush.specs.Parts.{Filled}
use Rattle.tsdb_base.specs.Points.{IsRising}
use Rattle.tsdb_path.specs.Nodes.{IsPath, child_of, device_of}
use Rattle.tsdb_plan.specs.declared.entry.Hull.{Hull}
use Rattle.tsdb_stats.specs.Statistics.{AreStatsOf}

-- the entry is that of the series
pub record SaysSeries (entry : IndexEntry) (filled : Filled) : Type 0 where
  pub path : filled.schema.path ≡ child_of entry.device entry.measurement
  pub device : device_of filled.schema.path ≡ entry.device
  pub stats : AreStatsOf filled.points entry.stats
  pub rising : IsRising filled.points

-- hulls of a part become those with the entry's series more, which comes behind the others
abbrev pub AddsHull : IndexEntry → List Hull → List Hull → Type 0
AddsHull entry old new = (points : List Point) → AreStatsOf points entry.stats → IsRising points
    → AddsTimes entry.device points old new

-- the path of the entry's series goes behind the others, where it is one
abbrev pub AddsPath : IndexEntry → List (List ℕ) → List (List ℕ) → Type 0
AddsPath entry old new = IsPath (child_of entry.device entry.measurement)
    → new ≡ old ++ child_of entry.device entry.measurement ∷ []

-- the points, the hulls and the paths of these series; the paths, where each is one
pub record IsSummary (part : List Filled) (summary : Summary) : Type 0 where
  pub points : summary.points ≡ sum_by (λ filled. length filled.points) part
  pub hulls : AreHullsOf part summary.hulls.items
  pub paths : Each (λ filled. IsPath filled.schema.path) part → summary.series.items ≡ paths_of part
