use Rattle.std.proofs.Common.{◌+◌, ◌*◌, ◌^◌, ◌≤◌}
use Rattle.tsdb_frames.specs.Readers.{faults_read, unheld_of, unread_of}
use Rattle.tsdb_recover.specs.Replaying.{IsReplaying, IsUnreadLog}
use Rattle.tsdb_recover.proofs.log.replay.Given as goal

-- the frames that were read are replayed
abbrev pub invariant-loop-frame : goal.invariant-loop-frame
invariant-loop-frame g l = record {
  replaying : (journal : g.row.J.Denot) → IsUnreadLog journal l.fn.reader → IsReplaying journal l.reader l.opening;
  later : faults_read l.fn.reader ≤ faults_read l.reader;
}

abbrev pub decreases-loop-frame : goal.decreases-loop-frame
decreases-loop-frame g l = unread_of l.reader * 2 ^ 64 + unheld_of l.reader
