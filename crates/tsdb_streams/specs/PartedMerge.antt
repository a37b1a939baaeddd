-- A merge that is parted into pages of which the statistics are known, and the points between them.
use Rattle.std.specs.Prelude.{◌≡◌, ◌<ℤ◌, Bool, not, List, All, AllPairs, Option, Some, filter}
use Rattle.std.specs.List.{list_any}
use Rattle.tsdb_base.specs.declared.point.Point.{Point}
use Rattle.tsdb_base.specs.declared.point.Stats.{Stats}
use Rattle.tsdb_streams.specs.KeptPoints.{stats_range}
use Rattle.tsdb_model.specs.World.{is_in}
use Rattle.tsdb_merge.specs.Winners.{IsMergeOf}
use Rattle.tsdb_stats.specs.Statistics.{AreStatsOf}

-- the point is not within the times of any of the statistics
abbrev pub is_between : List Stats → Point → Bool
is_between clean point = not (list_any (λ stats. is_in (stats_range stats) point.time) clean)

abbrev pub points_within : Stats → List Point → List Point
points_within stats points = filter (λ point. is_in (stats_range stats) point.time) points

-- the statistics, in order of time, are those of the points within their times
pub record AreStatsInOrder (clean : List Stats) (points : List Point) : Type 0 where
  pub statistics : All (λ stats. AreStatsOf (points_within stats points) stats) clean
  pub order : AllPairs (λ a b. a.end <ℤ b.start) clean

-- the merge of the lists has points of these statistics, and what is left are the others
pub record IsParted (lists : List (List Point)) (clean : List Stats) (left : Option (List Point)) : Type 0 where
  pub points : List Point
  pub merge : IsMergeOf lists points
  pub taken : AreStatsInOrder clean points
  pub left_is : left ≡ Some (filter (is_between clean) points)
