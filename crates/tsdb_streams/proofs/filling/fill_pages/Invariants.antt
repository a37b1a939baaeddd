use Rattle.std.proofs.Common.{◌-◌, length}
use Rattle.tsdb_streams.proofs.PageLoop.{IsReading}
use Rattle.tsdb_streams.specs.Lanes.{keep_of}
use Rattle.tsdb_streams.proofs.filling.fill_pages.Given as goal

abbrev pub invariant-loop-lane : goal.invariant-loop-lane
invariant-loop-lane g l = IsReading g.P.Right.ReadRight.file (keep_of l.kept) (g.P.Port.store l.fn.port) (g.P.Port.store l.port) (g.P.Counted.faults l.fn.port) (g.P.Counted.faults l.port) l.fn.lane l.lane l.into.items

abbrev pub decreases-loop-lane : goal.decreases-loop-lane
decreases-loop-lane g l = length l.lane.entry.pages - l.lane.next
