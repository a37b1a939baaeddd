-- What a supply has left of each source, and what a call that moves points out of it does.
use Rattle.std.specs.Prelude.{◌≡◌, ◌≢◌, ℕ, ◌≤◌, Bool, true, false, List, [], ◌++◌, Option, Some, None, get_or, length}
use Rattle.tsdb_base.specs.declared.point.Point.{Point}

-- what is left of the source at a place, where it is told
abbrev pub left_at : List (Option (List Point)) → ℕ → Option (List Point)
left_at lists source = get_or lists source None

-- where the list is told, the points are moved from its front, and what is left is told; where there are none, the list
-- has ended
abbrev pub Moves : Option (List Point) → Bool → List Point → Option (List Point) → Type 0
Moves None more points after = Unit {0}
Moves (Some before) more points None = ⊥
Moves (Some before) true points (Some after) = before ≡ points ++ after
Moves (Some before) false points (Some after) = (before ≡ []) × (after ≡ [])

-- 1 to 1,000 points, or none at the end
abbrev pub IsFilled : Bool → List Point → Type 0
IsFilled true points = (1 ≤ length points) × (length points ≤ 1000)
IsFilled false points = points ≡ []

-- every other source has left what it had
pub record KeepsOthers (source : ℕ) (before after : List (Option (List Point))) : Type 0 where
  pub sources : length after ≡ length before
  pub others : (other : ℕ) → other ≢ source → left_at after other ≡ left_at before other
