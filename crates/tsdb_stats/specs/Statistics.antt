-- What the statistics of points say: each is an aggregate of the plain model. They may lack the sum.
use Rattle.std.specs.Prelude.{◌≡◌, ℤ, ◌+ℤ◌, List, Option, None, Some, length, FitsSigned, IfSome, SomeIff}
use Rattle.std.specs.Int.{w128}
use Rattle.tsdb_base.specs.declared.answers.Aggregate.TheVariants.{FirstValue, LastValue, MinValue, MaxValue}
use Rattle.tsdb_base.specs.declared.answers.Aggregate.TheVariants.{MinTime, MaxTime}
use Rattle.tsdb_base.specs.declared.point.Point.{Point}
use Rattle.tsdb_base.specs.declared.point.Stats.{Stats}
use Rattle.tsdb_base.specs.declared.value.Value.TheVariants.{I64}
use Rattle.tsdb_model.specs.Folds.{sum_of, value_of_points}

-- these are the statistics of these points, which stand in order of time
pub record AreStatsOf (points : List Point) (stats : Stats) : Type 0 where
  pub count : stats.count ≡ length points
  pub start : value_of_points MinTime points ≡ Some (I64 stats.start)
  pub end : value_of_points MaxTime points ≡ Some (I64 stats.end)
  pub first : value_of_points FirstValue points ≡ Some stats.first
  pub last : value_of_points LastValue points ≡ Some stats.last
  pub least : value_of_points MinValue points ≡ stats.least
  pub greatest : value_of_points MaxValue points ≡ stats.greatest
  pub sum : IfSome stats.sum (λ sum. sum_of points ≡ Some sum)

-- the sum of two lists from the sum of each: it is there where both are, and where 128 bits hold it
abbrev pub IsJoinedSum : Option ℤ → Option ℤ → Option ℤ → Type 0
IsJoinedSum None right sum = sum ≡ None
IsJoinedSum (Some a) None sum = sum ≡ None
IsJoinedSum (Some a) (Some b) sum = SomeIff sum (FitsSigned w128 (a +ℤ b)) (a +ℤ b)
