use Rattle.std.proofs.Common.{◌≡◌, take}
use Rattle.std.specs.Prelude.{◌≤ℤ◌, All}
use Rattle.tsdb_aggregate.specs.Lanes.{IsRowOfPieces}
use Rattle.tsdb_aggregate.proofs.group.lane_length.Given as goal

abbrev pub invariant-loop-place : goal.invariant-loop-place
invariant-loop-place l = All (λ entry. entry.piece.now.stats.end ≤ℤ l.end) (take l.place l.entries)
    × All (λ entry. entry.piece.now.source ≡ l.first.source) (take l.place l.entries) × IsRowOfPieces (take l.place l.entries)
