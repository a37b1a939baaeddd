-- Sources that are given in pieces, one behind the other.
use Rattle.std.specs.Prelude.{List, All, AllPairs, flat_map}
use Rattle.tsdb_base.specs.declared.point.Point.{Point}
use Rattle.tsdb_merge.specs.Winners.{HasNoneAt}

-- the pieces of a source, one behind the other
abbrev pub joined : List (List Point) → List Point
joined pieces = flat_map (λ piece. piece) pieces

-- no two of the pieces have a time in common
abbrev pub HaveNoCommonTime : List (List Point) → Type 0
HaveNoCommonTime pieces = AllPairs (λ piece other. All (λ point. HasNoneAt point.time other) piece) pieces
