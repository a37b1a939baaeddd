use Rattle.std.proofs.Common.{take}
use Rattle.tsdb_outside.specs.Disk.{in_slot}
use Rattle.mem_outside.specs.Record.{after_calls}
use Rattle.mem_outside.specs.RecordedDisk.{disk_first}
use Rattle.mem_outside.specs.Replay.{IsDiskReplay}
use Rattle.mem_outside.proofs.record.RecordedDisk.after_stop.Given as goal

abbrev pub invariant-loop-call : goal.invariant-loop-call
invariant-loop-call l = IsDiskReplay l.stop (after_calls l.slot (in_slot l.slot (disk_first l.self)) (take l.call-index l.call-items)) l.seen.items l.left.items
