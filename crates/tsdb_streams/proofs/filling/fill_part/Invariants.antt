use Rattle.std.proofs.Common.{◌≡◌, ◌≤◌, [], length}
use Rattle.tsdb_streams.specs.Lanes.{keep_of, part_left}
use Rattle.tsdb_streams.proofs.filling.fill_part.Given as goal

abbrev pub invariant-loop-lane : goal.invariant-loop-lane
invariant-loop-lane l = (part_left (keep_of l.kept) l.fn.lane ≡ part_left (keep_of l.kept) l.lane) × (l.into.items ≡ []) × (length l.lane.rest.now ≤ length l.fn.lane.rest.now)

abbrev pub decreases-loop-lane : goal.decreases-loop-lane
decreases-loop-lane l = length l.lane.rest.now
