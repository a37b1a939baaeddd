use Rattle.tsdb_memory.proofs.Following.{froze_stands}
use Rattle.tsdb_memory.proofs.map_laws.a_freeze_keeps_the_world.Goals as goal

pub returns : goal.returns
returns c = froze_stands
