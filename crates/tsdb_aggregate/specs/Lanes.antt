-- Private steps: lanes of pieces, which are loaded one behind the other.
use Rattle.std.specs.Prelude.{◌≡◌, ℕ, ◌+◌, ◌*◌, ◌^◌, ◌≤◌, ◌<◌, Bool, false, List, [], ◌∷◌, ◌++◌, All, Option, None, Some}
use Rattle.std.specs.Prelude.{Result, AllPairs, ◌<ℤ◌, flat_map, length, map, sum_by}
use Rattle.std.specs.Vec.Iter.{into_iter_items}
use Rattle.tsdb_base.specs.declared.point.Point.{Point}
use Rattle.tsdb_merge.specs.Supplies.{IsFilled}
use Rattle.tsdb_merge.specs.declared.points.PullFault.{PullFault}
use Rattle.tsdb_aggregate.specs.Loads.{Held, LoaderState, Spends, held_at}
use Rattle.std.specs.List.{AllZip}
use Rattle.std.specs.List.Sorted.{IsPermutation}
use Rattle.tsdb_aggregate.specs.declared.entry.PieceEntry.{PieceEntry}
use Rattle.tsdb_aggregate.specs.declared.lanes.Lane.{Lane}

-- two lists one behind the other, where both are told
abbrev pub append_told : Option (List Point) → Option (List Point) → Option (List Point)
append_told None later = None
append_told (Some points) None = None
append_told (Some points) (Some later) = Some (points ++ later)

-- the points of the pieces at these places, one behind the other, where all are told
abbrev pub told_behind : List Held → List ℕ → Option (List Point)
told_behind held [] = Some []
told_behind held (place ∷ places) = append_told (held_at held place).points (told_behind held places)

-- what is left of a lane, where it is told
abbrev pub lane_left : List Held → Lane → Option (List Point)
lane_left held lane = append_told (Some (into_iter_items lane.rest)) (told_behind held (into_iter_items lane.waiting))

-- what is left of each lane
abbrev pub lefts : List Held → List Lane → List (Option (List Point))
lefts held lanes = map (lane_left held) lanes

-- what the loads of these pieces cost
abbrev pub cost_behind : List Held → List ℕ → ℕ
cost_behind held places = sum_by (λ place. (held_at held place).cost) places

-- what the loads that a lane still needs cost
abbrev pub lane_cost : List Held → Lane → ℕ
lane_cost held lane = cost_behind held (into_iter_items lane.waiting)

-- the most points that a lane still has: a list has fewer than 2^64
abbrev pub lane_most : Lane → ℕ
lane_most lane = length (into_iter_items lane.rest) + 2 ^ 64 * length (into_iter_items lane.waiting)

-- the pieces that a lane waits for are among so many
abbrev pub HasPiecePlaces : ℕ → Lane → Type 0
HasPiecePlaces count lane = All (λ place. place < count) (into_iter_items lane.waiting)

-- points were taken from the front of a list, 1 to 1,000, or none at its end
pub record IsFrontTaken (before : List Point) (more : Bool) (points after : List Point) : Type 0 where
  pub all : before ≡ points ++ after
  pub filled : IsFilled more points
  pub end : more ≡ false → after ≡ []

-- loads cost no more than what was to be loaded before and is no longer
pub record SpendsDown {T : Type 0} (waiting waiting_now : ℕ) (before now : LoaderState) (pages pages_now : ℕ)
    (result : Result T PullFault) : Type 0 where
  pub cost : ℕ
  pub fewer : cost + waiting_now ≤ waiting
  pub spends : Spends cost before now pages pages_now result

-- entries of one source, one at least, of which each ends before the next one begins
pub record IsRowOfPieces (entries : List PieceEntry) : Type 0 where
  pub some : 0 < length entries
  pub source : AllPairs (λ a b. a.piece.now.source ≡ b.piece.now.source) entries
  pub order : AllPairs (λ a b. a.piece.now.stats.end <ℤ b.piece.now.stats.start) entries

-- a lane of these entries, of which nothing is loaded yet
pub record IsLaneOf (entries : List PieceEntry) (lane : Lane) : Type 0 where
  pub waiting : into_iter_items lane.waiting ≡ map (λ entry. entry.place) entries
  pub rest : into_iter_items lane.rest ≡ []

-- the entries of all rows, one row behind the other
abbrev pub rows_joined : List (List PieceEntry) → List PieceEntry
rows_joined rows = flat_map (λ row. row) rows

-- the entries of a group stand in rows, one behind the other in the order of their sources, and each lane is one row
pub record AreLanesOf (group : List PieceEntry) (lanes : List Lane) : Type 0 where
  pub rows : List (List PieceEntry)
  pub all : IsPermutation group (rows_joined rows)
  pub order : AllPairs (λ a b. a.piece.now.source ≤ b.piece.now.source) (rows_joined rows)
  pub each : All IsRowOfPieces rows
  pub lanes_are : AllZip IsLaneOf rows lanes
