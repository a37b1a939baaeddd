-- The points of one series in one space, in order of time.
use Rattle.std.specs.Prelude.{ℕ, ℤ, ◌+◌, ◌<ℤ◌, Bool, not, ◌&&◌, List, ◌∷◌, ◌++◌, length, int_lt, int_le}
use Rattle.std.specs.List.{AllPairs, filter, sum_by}
use Rattle.tsdb_base.specs.declared.point.Point.{Point}
use Rattle.tsdb_base.specs.declared.point.Range.{Range}
use Rattle.tsdb_base.specs.declared.value.Value.{Value}
use Rattle.tsdb_base.specs.declared.value.Value.TheVariants as value

-- before the time
abbrev pub is_before : ℤ → Point → Bool
is_before time point = int_lt point.time time

-- after the time
abbrev pub is_after : ℤ → Point → Bool
is_after time point = int_lt time point.time

-- in the range
abbrev pub is_point_within : Range → Point → Bool
is_point_within range point = int_le range.from point.time && int_le point.time range.to

-- not in the range
abbrev pub is_outside : Range → Point → Bool
is_outside range point = not (is_point_within range point)

-- the points before its time, the point, and those after its time
abbrev pub with_point : Point → List Point → List Point
with_point point points = filter (is_before point.time) points ++ point ∷ filter (is_after point.time) points

-- how many bytes a value counts
abbrev pub value_bytes : Value → ℕ
value_bytes (value.Bool b) = 1
value_bytes (value.I32 n) = 4
value_bytes (value.I64 n) = 8
value_bytes (value.Text bytes) = length bytes

-- how many bytes a point counts: 8 for its time, and those of its value
abbrev pub point_bytes : Point → ℕ
point_bytes point = 8 + value_bytes point.value

abbrev pub counted_bytes : List Point → ℕ
counted_bytes points = sum_by point_bytes points
