use Rattle.std.proofs.Common.{◌≡◌, map, take}
use Rattle.tsdb_aggregate.proofs.group.lane_of.Given as goal

abbrev pub invariant-loop-i : goal.invariant-loop-i
invariant-loop-i l = l.places.items ≡ map (λ entry. entry.place) (take l.i l.entries)
