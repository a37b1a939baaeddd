use denote.Param.Send.{sendable}
use Rattle.tsdb_turn.proofs.Crossing.{turn_sync}
use Rattle.tsdb_turn.proofs.laws.a_turn_is_shared.Goals as goal

pub is_shared-requires-sync-T : goal.is_shared-requires-sync-T
is_shared-requires-sync-T g c = search (sendable, turn_sync) depth 40
