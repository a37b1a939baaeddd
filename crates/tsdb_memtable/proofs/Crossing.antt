-- The points in memory may cross threads, and be seen by several.
use denote.Param.Send.{IsSend, IsSync, sendable}
use Rattle.std.proofs.Crossing.{crosses}
use Rattle.std.proofs.MapsCrossing as maps
use Rattle.tsdb_memtable.specs.contracts.pair.Pair as pair

pub pair_send : IsSend pair.the_row
pair_send = search (sendable, crosses, maps.crosses) depth 40 fits 20000

pub pair_sync : IsSync pair.the_row
pair_sync = search (sendable, crosses, maps.crosses) depth 40 fits 20000
