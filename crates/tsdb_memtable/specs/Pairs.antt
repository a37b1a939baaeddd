-- A pair: for each series that has room its points in both spaces.
use Rattle.std.specs.Prelude.{◌≡◌, ◌⊎◌, ℕ, ◌+◌, ◌-◌, Bool, not, ◌==◌, List, [], map, length}
use Rattle.std.specs.List.Sorted.{IsStrictlySortedBy}
use Rattle.std.specs.Map.{keys_of, lookup, set_value, values_of}
use Rattle.std.specs.Option.{unwrap_or}
use Rattle.std.specs.Ordering.{nat_cmp, is_eq}
use Rattle.std.specs.List.{filter, sum_by}
use Rattle.tsdb_base.specs.declared.ids.Space.{Space}
use Rattle.tsdb_base.specs.declared.ids.Space.TheVariants.{Sequence, Unsequence}
use Rattle.tsdb_base.specs.declared.point.Point.{Point}
use Rattle.tsdb_base.specs.declared.point.Range.{Range}
use Rattle.tsdb_memtable.specs.Points.{with_point, is_outside, counted_bytes}

-- the points of a series in each space, in order of time, and for how many more there is room
pub record SeriesPoints : Type 0 where
  pub sequence : List Point
  pub unsequence : List Point
  pub spare : ℕ

-- the series that have room or points, in order of their numbers
abbrev pub Pair : Type 0
Pair = List (ℕ × SeriesPoints)

-- the numbers of the series rise
abbrev pub HasRisingSeries : Pair → Type 0
HasRisingSeries pair = IsStrictlySortedBy nat_cmp (keys_of pair)

-- without a point, and without room
abbrev pub blank : SeriesPoints
blank = record { sequence = []; unsequence = []; spare = 0 }

abbrev pub points_in : Space → SeriesPoints → List Point
points_in Sequence series = series.sequence
points_in Unsequence series = series.unsequence

abbrev pub is_series : ℕ → ℕ → Bool
is_series series other = is_eq (nat_cmp series other)

abbrev pub series_at : ℕ → Pair → SeriesPoints
series_at series pair = unwrap_or (lookup (is_series series) pair) blank

-- the points of a series in a space
abbrev pub points_of : Space → ℕ → Pair → List Point
points_of space series pair = points_in space (series_at series pair)

-- for how many points of a series there is room in either space
abbrev pub spare_of : ℕ → Pair → ℕ
spare_of series pair = (series_at series pair).spare

-- there is the room that there was, or there was none, and is some for one point
abbrev pub IsProvided : ℕ → ℕ → Type 0
IsProvided old new = (new ≡ old) ⊎ ((old ≡ 0) × (new ≡ 1))

-- each series has the room that it had, or had none and has room for one point
abbrev pub UsesSpareRoom : Pair → Pair → Type 0
UsesSpareRoom old new = (series : ℕ) → IsProvided (spare_of series old) (spare_of series new)

-- the point in this space, in place of one at its time; it uses up room for one
abbrev pub put_in : Space → Point → SeriesPoints → SeriesPoints
put_in Sequence point series =
    record { sequence = with_point point series.sequence; unsequence = series.unsequence; spare = series.spare - 1 }
put_in Unsequence point series =
    record { sequence = series.sequence; unsequence = with_point point series.unsequence; spare = series.spare - 1 }

-- without the points of both spaces in the range
abbrev pub without_range : Range → SeriesPoints → SeriesPoints
without_range range series = record {
  sequence = filter (is_outside range) series.sequence;
  unsequence = filter (is_outside range) series.unsequence;
  spare = series.spare;
}

-- the pair where one series has become another, and the others stay
abbrev pub change_points : ℕ → (SeriesPoints → SeriesPoints) → Pair → Pair
change_points series f pair = set_value (is_series series) pair (f (series_at series pair))

-- the series with points in the space, and their points there
abbrev pub table : Space → Pair → List (ℕ × List Point)
table space pair = filter (λ entry. not (length entry.1 == 0)) (map (λ entry. (entry.0, points_in space entry.1)) pair)

-- how many points are in the space
abbrev pub space_count : Space → Pair → ℕ
space_count space pair = sum_by (λ series. length (points_in space series)) (values_of pair)

-- how many bytes a series' points count
abbrev pub series_bytes : SeriesPoints → ℕ
series_bytes series = counted_bytes series.sequence + counted_bytes series.unsequence

-- how many bytes the points of both spaces count
abbrev pub byte_count : Pair → ℕ
byte_count pair = sum_by series_bytes (values_of pair)
