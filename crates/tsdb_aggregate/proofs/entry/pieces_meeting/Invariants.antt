use Rattle.std.proofs.Common.{◌≡◌, ◌<◌, List, filter, length, take}
use Rattle.std.specs.Prelude.{All}
use Rattle.std.specs.List.{zip}
use Rattle.tsdb_aggregate.specs.Loads.{Held}
use Rattle.tsdb_aggregate.specs.Pieces.{hull, overlap}
use Rattle.tsdb_aggregate.specs.Steps.{held_parts}
use Rattle.tsdb_aggregate.proofs.entry.pieces_meeting.Given as goal

abbrev pub invariant-loop-place : goal.invariant-loop-place
invariant-loop-place l = All (λ entry. entry.place < length l.pieces) l.entries.items
    × ((held : List Held) → length held ≡ length l.pieces → held_parts held l.entries.items ≡ filter (λ part. overlap l.range (hull part.0)) (take l.place (zip l.pieces held)))
