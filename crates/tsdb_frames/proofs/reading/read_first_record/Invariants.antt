use Rattle.std.proofs.Common.{◌-◌, ◌≤◌}
use Rattle.tsdb_outside.specs.Disk.{Keeps}
use Rattle.tsdb_frames.proofs.reading.read_first_record.Given as goal

-- the disk is as it was
abbrev pub invariant-loop-frame : goal.invariant-loop-frame
invariant-loop-frame g l = record {
  some : 1 ≤ l.size;
  most : l.size ≤ l.length;
  keeps : Keeps (g.J.Disk.state l.fn.journal) (g.J.Disk.state l.journal);
  later : g.J.Counted.faults l.fn.journal ≤ g.J.Counted.faults l.journal;
}

abbrev pub decreases-loop-frame : goal.decreases-loop-frame
decreases-loop-frame g l = l.length - l.size
