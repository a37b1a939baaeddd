-- Which points win where several sources have one at the same time, and their aggregate.
use Rattle.std.specs.Prelude.{◌≡◌, ℕ, ◌≤◌, List, Option, All, Contains, IsTrue}
use Rattle.tsdb_base.specs.declared.answers.Aggregate.{Aggregate}
use Rattle.tsdb_base.specs.declared.point.Point.{Point}
use Rattle.tsdb_base.specs.declared.point.Range.{Range}
use Rattle.tsdb_base.specs.declared.answers.Figure.{Figure}
use Rattle.tsdb_model.specs.Folds.{aggregate_of}
use Rattle.tsdb_model.specs.World.{is_in}
use Rattle.tsdb_base.specs.Points.{IsRising}
use Rattle.tsdb_aggregate.specs.Pieces.{HeldPiece, piece_points}

-- a piece of the source has the point
pub record Has (parts : List HeldPiece) (source : ℕ) (point : Point) : Type 0 where
  pub part : HeldPiece
  pub among : Contains parts part
  pub of : part.0.source ≡ source
  pub has : Contains (piece_points part) point

-- a source has the point, and no later source has a point at its time
pub record IsWinnerOfPieces (parts : List HeldPiece) (point : Point) : Type 0 where
  pub source : ℕ
  pub has : Has parts source point
  pub last : (other : ℕ) (rival : Point) → Has parts other rival → rival.time ≡ point.time → other ≤ source

-- the winners in the range, in order of time, and nothing else
pub record AreWinners (parts : List HeldPiece) (range : Range) (points : List Point) : Type 0 where
  pub rising : IsRising points
  pub only : All (λ point. IsWinnerOfPieces parts point × IsTrue (is_in range point.time)) points
  pub complete : (point : Point) → IsWinnerOfPieces parts point → IsTrue (is_in range point.time) → Contains points point

-- the aggregate of the winners in the range
pub record IsAggregate (parts : List HeldPiece) (range : Range) (name : Aggregate)
    (answer : Option Figure) : Type 0 where
  pub points : List Point
  pub winners : AreWinners parts range points
  pub is : answer ≡ aggregate_of name points
