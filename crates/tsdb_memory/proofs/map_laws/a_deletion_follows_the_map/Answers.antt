use Rattle.tsdb_memory.proofs.Following.{deletion_follows}
use Rattle.tsdb_memory.proofs.map_laws.a_deletion_follows_the_map.Goals as goal

pub returns : goal.returns
returns c told store state path range answer memory order is =
    deletion_follows told store state memory order path range answer is
