-- Which points of a series a stream keeps.
use Rattle.std.specs.Prelude.{ℕ, ℤ, Bool, ◌&&◌, List, filter}
use Rattle.tsdb_base.specs.declared.point.Point.{Point}
use Rattle.tsdb_base.specs.declared.point.Range.{Range}
use Rattle.tsdb_base.specs.declared.point.Stats.{Stats}
use Rattle.tsdb_state.specs.Marks.{survives}
use Rattle.tsdb_state.specs.Places.{PointPlace}
use Rattle.tsdb_model.specs.World.{is_in}
use Rattle.tsdb_marks.specs.declared.marks.Mark.{Mark}
use Rattle.tsdb_streams.specs.Survivors.{place_at as at}

-- whether a point of a source that was born so is kept: it is in the range, and no mark deletes it
abbrev pub is_kept : List ℕ → Range → List Mark → ℕ → Point → Bool
is_kept path range marks born point = is_in range point.time && survives marks (at path point.time) born

-- the points that are kept
abbrev pub kept : List ℕ → Range → List Mark → ℕ → List Point → List Point
kept path range marks born points = filter (is_kept path range marks born) points

-- the times from the start to the end of statistics
abbrev pub stats_range : Stats → Range
stats_range stats = record { from = stats.start; to = stats.end }
