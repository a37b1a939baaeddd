-- Lists of points in order of time, and which points win where several lists have one at the same time.
use Rattle.std.specs.Prelude.{◌≡◌, ◌≢◌, ◌⊎◌, ℤ, ◌<ℤ◌, List, [], ◌∷◌, Option, Some, None, All, AllPairs, Contains}
use Rattle.tsdb_base.specs.Points.{IsRising}
use Rattle.tsdb_base.specs.declared.point.Point.{Point}

-- the list has no point at the time
abbrev pub HasNoneAt : ℤ → List Point → Type 0
HasNoneAt time points = All (λ point. point.time ≢ time) points

-- the point is that of the last list which has a point at its time: it wins among the later lists, or it is a point of
-- the first list and no later list has its time
abbrev pub IsWinner : List (List Point) → Point → Type 0
IsWinner [] point = ⊥
IsWinner (first ∷ later) point = IsWinner later point ⊎ (Contains first point × All (HasNoneAt point.time) later)

-- the winners of the lists, in order of time, and nothing else
pub record IsMergeOf (lists : List (List Point)) (points : List Point) : Type 0 where
  pub rising : IsRising points
  pub winners : All (IsWinner lists) points
  pub complete : (point : Point) → IsWinner lists point → Contains points point

-- the list is told, and is the merge of the lists
abbrev pub IsToldMergeOf : List (List Point) → Option (List Point) → Type 0
IsToldMergeOf lists None = ⊥
IsToldMergeOf lists (Some points) = IsMergeOf lists points

-- the first point of a list is taken, or there is none
abbrev pub TakesFirst : List Point → Option Point → List Point → Type 0
TakesFirst before None after = (before ≡ []) × (after ≡ [])
TakesFirst before (Some point) after = before ≡ point ∷ after

-- where the list is told, its first point is taken, or there is none, and what is left is told
abbrev pub TakesTold : Option (List Point) → Option Point → Option (List Point) → Type 0
TakesTold None point after = Unit {0}
TakesTold (Some before) point None = ⊥
TakesTold (Some before) point (Some after) = TakesFirst before point after
