use Rattle.std.proofs.Common.{[], ◌≤◌}
use Rattle.tsdb_outside.specs.declared.disk.Slot.{Slot}
use Rattle.tsdb_frames.specs.Readers.{IsReading, faults_read, unread_of}
use Rattle.tsdb_frames.proofs.reader.FrameReader.read_all.Given as goal

-- the frames are those that were read
abbrev pub invariant-loop-frames : goal.invariant-loop-frames
invariant-loop-frames g l = record {
  reading : (journal : g.row.J.Denot) (place : Slot) → IsReading journal place l.fn.self [] → IsReading journal place l.self l.frames.items;
  later : faults_read l.fn.self ≤ faults_read l.self;
}

abbrev pub decreases-loop-frames : goal.decreases-loop-frames
decreases-loop-frames g l = unread_of l.self
