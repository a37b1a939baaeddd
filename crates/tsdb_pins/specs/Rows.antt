-- Private steps: columns of points that are taken by time, line by line.
use Rattle.std.specs.Prelude.{◌≡◌, ◌⊎◌, ℤ, ◌≤ℤ◌, int_lt, List, [], ◌∷◌, map, Option, None, Some, ⊤, if◌then◌else◌}
use Rattle.std.specs.List.{AllByRecursion as Each}
use Rattle.std.specs.declared.alloc.Global.{Global}
use Rattle.std.specs.declared.collections.VecDeque.{VecDeque}
use Rattle.std.specs.declared.vec.Vec.{Vec}
use Rattle.tsdb_base.specs.declared.point.Point.{Point}
use Rattle.tsdb_base.specs.declared.value.Value.{Value}
use Rattle.tsdb_model.specs.declared.reply.Line.{Line}

-- the points of each column
abbrev pub vec_lists : List (Vec Point Global) → List (List Point)
vec_lists columns = map (λ column. column.items) columns

abbrev pub lists_of : List (VecDeque Point Global) → List (List Point)
lists_of columns = map (λ column. column.items) columns

-- the first point is at the time
abbrev pub BeginsAt : ℤ → List Point → Type 0
BeginsAt time [] = ⊥
BeginsAt time (point ∷ points) = point.time ≡ time

-- no point is first that is before the time
abbrev pub BeginsFrom : ℤ → List Point → Type 0
BeginsFrom time [] = ⊤
BeginsFrom time (point ∷ points) = time ≤ℤ point.time

-- one of them is so
abbrev pub OneBeginsAt : ℤ → List (List Point) → Type 0
OneBeginsAt time [] = ⊥
OneBeginsAt time (column ∷ columns) = BeginsAt time column ⊎ OneBeginsAt time columns

-- the least time of the first points, if a point is left
abbrev pub IsFirstTime : List (List Point) → Option ℤ → Type 0
IsFirstTime columns None = Each (λ column. column ≡ []) columns
IsFirstTime columns (Some time) = Each (BeginsFrom time) columns × OneBeginsAt time columns

-- the time of the first point, if one is left
abbrev pub IsTimeOfFirst : List Point → Option ℤ → Type 0
IsTimeOfFirst [] first = first ≡ None
IsTimeOfFirst (point ∷ points) first = first ≡ Some point.time

-- the earlier of two times, where they are there
abbrev pub earlier_of : Option ℤ → Option ℤ → Option ℤ
earlier_of None other = other
earlier_of (Some time) None = Some time
earlier_of (Some time) (Some other) = Some (if int_lt other time then other else time)

-- the first point is taken where it is at the time
abbrev pub IsTakenAt : ℤ → List Point → Option Value → List Point → Type 0
IsTakenAt time before None after = (after ≡ before) × (BeginsAt time before → ⊥)
IsTakenAt time before (Some value) after = before ≡ record { time = time; value = value } ∷ after

-- so of each column
abbrev pub AreTakenAt : ℤ → List (List Point) → List (Option Value) → List (List Point) → Type 0
AreTakenAt time [] [] [] = ⊤
AreTakenAt time (before ∷ befores) (value ∷ values) (after ∷ afters) =
    IsTakenAt time before value after × AreTakenAt time befores values afters
AreTakenAt time befores values afters = ⊥

-- a line is taken
abbrev pub TakesLine : ℤ → List (List Point) → Line → List (List Point) → Type 0
TakesLine time befores line afters = (line.time ≡ time) × AreTakenAt time befores line.values afters
