-- Marks may cross threads.
use denote.Param.Send.{IsSend, sendable}
use Rattle.std.proofs.Crossing.{crosses}
use Rattle.std.proofs.MapsCrossing as maps
use Rattle.tsdb_marks.specs.contracts.marks.Marks as marks

pub marks_send : IsSend marks.the_row
marks_send = search (sendable, crosses, maps.crosses) depth 40
