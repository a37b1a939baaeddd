-- Pieces with what a loader holds of them: their hulls, what has to be so of them, and what may be loaded.
use Rattle.std.specs.Prelude.{◌≡◌, ℕ, Bool, false, not, ◌&&◌, ◌||◌, List, [], All, AllPairs, IsTrue, if◌then◌else◌}
use Rattle.std.specs.Prelude.{Option, None, Some, is_some, sum_by, true}
use Rattle.tsdb_base.specs.declared.answers.Aggregate.{Aggregate}
use Rattle.tsdb_base.specs.declared.answers.Aggregate.TheVariants.{Sum}
use Rattle.tsdb_base.specs.declared.point.Point.{Point}
use Rattle.tsdb_base.specs.declared.point.Range.{Range}
use Rattle.tsdb_base.specs.declared.point.Stats.{Stats}
use Rattle.tsdb_model.specs.World.{is_in}
use Rattle.tsdb_base.specs.Points.{IsRising}
use Rattle.tsdb_merge.specs.Winners.{HasNoneAt}
use Rattle.tsdb_stats.specs.Statistics.{AreStatsOf}
use Rattle.tsdb_aggregate.specs.Loads.{Held}
use Rattle.tsdb_aggregate.specs.declared.piece.Piece.{Piece}

-- a piece, and what is held of it
abbrev pub HeldPiece : Type 0
HeldPiece = Piece × Held

-- the times from the start to the end of a piece
abbrev pub hull : Piece → Range
hull piece = record { from = piece.stats.start; to = piece.stats.end }

-- the points that are told of a piece
abbrev pub told_points : Option (List Point) → List Point
told_points None = []
told_points (Some points) = points

abbrev pub piece_points : HeldPiece → List Point
piece_points part = told_points part.1.points

-- two ranges have a time in common: the start of one of them is in both
abbrev pub overlap : Range → Range → Bool
overlap a b = (is_in a b.from && is_in b b.from) || (is_in b a.from && is_in a a.from)

-- the points of a piece are told, and stand in order of time, within its hull
pub record HasOrder (part : HeldPiece) : Type 0 where
  pub told : part.1.points ≡ Some (piece_points part)
  pub rising : IsRising (piece_points part)
  pub within : All (λ point. IsTrue (is_in (hull part.0) point.time)) (piece_points part)

-- statistics answer an aggregate: they may lack the sum
abbrev pub has_asked : Aggregate → Stats → Bool
has_asked Sum stats = is_some stats.sum
has_asked aggregate stats = true

-- a piece that is clean has the statistics of its points, and these answer the aggregate; its hull is in the range
pub record IsCleanIn (name : Aggregate) (range : Range) (part : HeldPiece) : Type 0 where
  pub statistics : AreStatsOf (piece_points part) part.0.stats
  pub asked : IsTrue (has_asked name part.0.stats)
  pub from : IsTrue (is_in range part.0.stats.start)
  pub to : IsTrue (is_in range part.0.stats.end)

-- two pieces of one source have no time in common, and nothing lies over a clean piece
pub record ArePiecesApart (a b : HeldPiece) : Type 0 where
  pub times : a.0.source ≡ b.0.source → All (λ point. HasNoneAt point.time (piece_points b)) (piece_points a)
  pub hulls : IsTrue (a.0.clean || b.0.clean) → overlap (hull a.0) (hull b.0) ≡ false

-- what has to be so of the pieces, all of which are told, for the answer to be the aggregate of the winners
pub record ArePiecesSound (name : Aggregate) (range : Range) (parts : List HeldPiece) : Type 0 where
  pub order : All HasOrder parts
  pub clean : All (λ part. IsTrue part.0.clean → IsCleanIn name range part) parts
  pub apart : AllPairs ArePiecesApart parts

-- a piece that meets the range and is not clean may be loaded
abbrev pub cost_in : Range → HeldPiece → ℕ
cost_in range part = if overlap range (hull part.0) && not part.0.clean then part.1.cost else 0

-- the most that all loads together may cost
abbrev pub most_loads : Range → List HeldPiece → ℕ
most_loads range parts = sum_by (cost_in range) parts
