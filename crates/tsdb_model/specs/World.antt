-- The plain model: the series that are there, each with a type and a value at each time that has one.
use Rattle.std.specs.Prelude.{◌≡◌, ℕ, ℤ, Bool, ◌&&◌, not, int_le, List, Option, None, Some}
use Rattle.std.specs.Ordering.{nat_cmp, int_cmp}
use Rattle.std.specs.Cmp.Lexicographic.{slice_cmp}
use Rattle.std.specs.FinMap.{FinMap, get, insert, empty, retain_keys}
use Rattle.tsdb_base.specs.declared.point.Range.{Range}
use Rattle.tsdb_base.specs.declared.value.DataType.{DataType}
use Rattle.tsdb_base.specs.declared.value.Value.{Value}

-- values by their times
abbrev pub PointMap : Type 0
PointMap = FinMap int_cmp Value

-- a series: the type of its values, and its points
pub record Series : Type 0 where
  pub data_type : DataType
  pub points : PointMap

-- the series that are there, by the bytes of their paths
abbrev pub World : Type 0
World = FinMap (slice_cmp nat_cmp) Series

-- a time is in a range, which has both of its ends
abbrev pub is_in : Range → ℤ → Bool
is_in range time = int_le range.from time && int_le time range.to

-- a series without points
abbrev pub new_series : DataType → Series
new_series data_type = record { data_type = data_type; points = empty }

-- a series with this value at this time, in place of one that was there
abbrev pub put : ℤ → Value → Series → Series
put time value series = record { data_type = series.data_type; points = insert series.points time value }

-- a series without the times in the range
abbrev pub cut : Range → Series → Series
cut range series = record {
  data_type = series.data_type;
  points = retain_keys series.points (λ time. not (is_in range time));
}

-- the world where a series, if it is there, has become another
abbrev pub change_series : World → List ℕ → (Series → Series) → Option Series → World
change_series world path f None = world
change_series world path f (Some series) = insert world path (f series)

abbrev pub change : World → List ℕ → (Series → Series) → World
change world path f = change_series world path f (get world path)

-- the points of a series, and none where it is not there
abbrev pub points_of_series : Option Series → PointMap
points_of_series None = empty
points_of_series (Some series) = series.points

-- the value that a series has at a time, if there is one
abbrev pub value_at : World → List ℕ → ℤ → Option Value
value_at world path time = get (points_of_series (get world path)) time

-- no series has a point
abbrev pub HasNoPoint : World → Type 0
HasNoPoint world = (path : List ℕ) (time : ℤ) → value_at world path time ≡ None
