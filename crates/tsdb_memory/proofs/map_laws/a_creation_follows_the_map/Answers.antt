use Rattle.tsdb_memory.proofs.Following.{creation_follows}
use Rattle.tsdb_memory.proofs.map_laws.a_creation_follows_the_map.Goals as goal

pub returns : goal.returns
returns c told store state schema answer memory order formed is =
    creation_follows told store state memory order schema answer formed is
