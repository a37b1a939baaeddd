-- Private steps: the statistics of clean pages, and the points between them, are added in order of time.
use Rattle.std.specs.Prelude.{◌≡◌, ◌≤ℤ◌, Bool, true, int_lt, List, [], ◌∷◌, ◌++◌, filter, Option, None, Some}
use Rattle.tsdb_aggregate.specs.Steps.{IsTally}
use Rattle.tsdb_aggregate.specs.declared.tally.Tally.{Tally}
use Rattle.tsdb_base.specs.declared.answers.Aggregate.{Aggregate}
use Rattle.tsdb_base.specs.declared.point.Point.{Point}
use Rattle.tsdb_base.specs.declared.point.Stats.{Stats}
use Rattle.tsdb_streams.specs.PartedMerge.{AreStatsInOrder, is_between}
use Rattle.tsdb_base.specs.Points.{IsRising}

-- the tally is that of the first points, and of the rest the statistics and what is between them are still to be added
pub record Weaves (name : Aggregate) (all : List Point) (clean : List Stats) (left : List Point) (tally : Tally)
    : Type 0 where
  pub done : List Point
  pub rest : List Point
  pub split : all ≡ done ++ rest
  pub tally_is : IsTally name done tally
  pub taken : AreStatsInOrder clean rest
  pub left_is : left ≡ filter (is_between clean) rest
  pub rising : IsRising rest

-- the first point that is left, or none
abbrev pub IsNextPoint : Option Point → List Point → Type 0
IsNextPoint None left = left ≡ []
IsNextPoint (Some point) left = (rest : List Point) × (left ≡ point ∷ rest)

-- the statistics end before the point, if there is one
abbrev pub ends_before : Stats → Option Point → Bool
ends_before stats None = true
ends_before stats (Some point) = int_lt stats.end point.time

-- none of these end before the point, or there are none where there is no point
abbrev pub AreLater : Option Point → List Stats → Type 0
AreLater None clean = clean ≡ []
AreLater (Some point) [] = Unit {0}
AreLater (Some point) (stats ∷ clean) = point.time ≤ℤ stats.end
