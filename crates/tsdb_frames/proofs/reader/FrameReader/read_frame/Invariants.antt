use Rattle.std.proofs.Common.{◌≡◌, ◌≤◌}
use Rattle.tsdb_frames.specs.Readers.{StaysReading, faults_read, gate_of, unheld_of}
use Rattle.tsdb_frames.proofs.reader.FrameReader.read_frame.Given as goal

-- no frame is read, and the disk is as it was
abbrev pub invariant-loop-frame : goal.invariant-loop-frame
invariant-loop-frame g l = record {
  stays : StaysReading l.fn.self l.self;
  gate : gate_of l.self ≡ gate_of l.fn.self;
  later : faults_read l.fn.self ≤ faults_read l.self;
}

abbrev pub decreases-loop-frame : goal.decreases-loop-frame
decreases-loop-frame g l = unheld_of l.self
