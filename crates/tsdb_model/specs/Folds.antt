-- What a select computes from points: the rows of several series, and the aggregates of one.
use Rattle.std.specs.Prelude.{◌-◌, ℤ, pos, ◌+ℤ◌, Bool, false, int_lt, List, Option, None, Some, map, length, flat_map}
use Rattle.std.specs.Prelude.{slice_get, option_map, if◌then◌else◌}
use Rattle.std.specs.Ordering.{int_cmp}
use Rattle.std.specs.List.{filter_map, reduce}
use Rattle.std.specs.FinMap.{entries, get, keys, from_entries, retain_keys}
use Rattle.tsdb_base.specs.declared.answers.Aggregate.{Aggregate}
use Rattle.tsdb_base.specs.declared.answers.Aggregate.TheVariants.{Count, FirstValue, LastValue, MinValue, MaxValue}
use Rattle.tsdb_base.specs.declared.answers.Aggregate.TheVariants.{MinTime, MaxTime, Sum}
use Rattle.tsdb_base.specs.declared.answers.Figure.{Figure}
use Rattle.tsdb_base.specs.declared.answers.Figure.TheVariants as figure
use Rattle.tsdb_base.specs.declared.point.Point.{Point}
use Rattle.tsdb_base.specs.declared.point.Range.{Range}
use Rattle.tsdb_base.specs.declared.value.Value.{Value}
use Rattle.tsdb_base.specs.declared.value.Value.TheVariants as value
use Rattle.tsdb_model.specs.declared.reply.Line.{Line}
use Rattle.tsdb_model.specs.World.{PointMap, is_in}

-- the points in a range
abbrev pub within : Range → PointMap → PointMap
within range points = retain_keys points (is_in range)

-- the points, in order of time
abbrev pub in_order : PointMap → List Point
in_order points = map (λ entry. record { time = entry.0; value = entry.1 }) (entries points)

-- each time at which a column has a value, once, in order
abbrev pub line_times : List PointMap → List ℤ
line_times columns = keys (from_entries {R = int_cmp} (flat_map entries columns))

-- what the columns have at a time
abbrev pub line_at : List PointMap → ℤ → Line
line_at columns time = record { time = time; values = map (λ points. get points time) columns }

-- a line for each time at which a column has a value, in order of time
abbrev pub rows : List PointMap → List Line
rows columns = map (line_at columns) (line_times columns)

-- the number that a value is; a boolean and a text are none
abbrev pub as_number : Value → Option ℤ
as_number (value.I32 number) = Some number
as_number (value.I64 number) = Some number
as_number value = None

abbrev pub is_number_below : Option ℤ → Option ℤ → Bool
is_number_below (Some a) (Some b) = int_lt a b
is_number_below a b = false

-- both are numbers, and the first is less than the second
abbrev pub is_less : Value → Value → Bool
is_less a b = is_number_below (as_number a) (as_number b)

-- the value itself, where it is a number
abbrev pub if_number : Option ℤ → Value → Option Value
if_number None value = None
if_number (Some number) value = Some value

-- those of the points' values that are numbers
abbrev pub numbers : List Point → List Value
numbers points = filter_map (λ point. if_number (as_number point.value) point.value) points

abbrev pub lesser_value : Value → Value → Value
lesser_value a b = if is_less b a then b else a

abbrev pub greater : Value → Value → Value
greater a b = if is_less a b then b else a

-- what the points' values that are numbers are together, however large; none where none is a number
abbrev pub sum_of : List Point → Option ℤ
sum_of points = reduce (λ a b. a +ℤ b) (filter_map (λ point. as_number point.value) points)

-- an aggregate that is a value, of points in order of time: over no points 0 for a count, and else none. Count and times
-- are whole numbers of 64 bits. The least and the greatest value are among those that are numbers. A sum is no value
abbrev pub value_of_points : Aggregate → List Point → Option Value
value_of_points Count points = Some (value.I64 (pos (length points)))
value_of_points FirstValue points = option_map (λ point. point.value) (slice_get points 0)
value_of_points LastValue points = option_map (λ point. point.value) (slice_get points (length points - 1))
value_of_points MinValue points = reduce lesser_value (numbers points)
value_of_points MaxValue points = reduce greater (numbers points)
value_of_points MinTime points = option_map (λ point. value.I64 point.time) (slice_get points 0)
value_of_points MaxTime points = option_map (λ point. value.I64 point.time) (slice_get points (length points - 1))
value_of_points Sum points = None

-- the aggregate of points in order of time: their sum, or one that is a value
abbrev pub aggregate_of : Aggregate → List Point → Option Figure
aggregate_of Sum points = option_map figure.Sum (sum_of points)
aggregate_of aggregate points = option_map figure.Value (value_of_points aggregate points)
