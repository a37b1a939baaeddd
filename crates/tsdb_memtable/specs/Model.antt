-- What holds of the points of a series as they are kept.
use Rattle.std.specs.Prelude.{◌≡◌, ℕ, ◌+◌, ◌*◌, ◌≤◌, length, vec_len, vec_capacity}
use Rattle.tsdb_memtable.specs.declared.series.SeriesPoints.TheInside.{Inside}
use Rattle.tsdb_memtable.specs.declared.series.Totals.{Totals}
use Rattle.tsdb_base.specs.Limits.{max_point_bytes}
use Rattle.tsdb_memtable.specs.Limits.{max_bytes}
use Rattle.tsdb_base.specs.Points.{IsRising}
use Rattle.tsdb_memtable.specs.Pairs.{SeriesPoints, series_bytes}

abbrev pub points_view : Inside → SeriesPoints
points_view inside = record {
  sequence = inside.sequence.items;
  unsequence = inside.unsequence.items;
  spare = inside.spare;
}

-- how many bytes there are where all room is used
abbrev pub most_bytes : SeriesPoints → ℕ
most_bytes series = series_bytes series + series.spare * max_point_bytes

-- with room for so many more points
abbrev pub with_room : ℕ → SeriesPoints → SeriesPoints
with_room cells series =
    record { sequence = series.sequence; unsequence = series.unsequence; spare = series.spare + cells }

abbrev pub totals_of : SeriesPoints → Totals
totals_of series = record {
  sequence = length series.sequence;
  unsequence = length series.unsequence;
  bytes = series_bytes series;
  spare = series.spare;
}

pub record ArePointsKept (inside : Inside) : Type 0 where
  pub sequence_rising : IsRising inside.sequence.items
  pub unsequence_rising : IsRising inside.unsequence.items
  pub sequence_room : vec_len inside.sequence + inside.spare ≤ vec_capacity inside.sequence
  pub unsequence_room : vec_len inside.unsequence + inside.spare ≤ vec_capacity inside.unsequence
  pub bytes : inside.bytes ≡ series_bytes (points_view inside)
  pub most : most_bytes (points_view inside) ≤ max_bytes
