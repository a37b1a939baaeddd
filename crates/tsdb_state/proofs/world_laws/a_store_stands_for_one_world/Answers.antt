use Rattle.tsdb_state.proofs.OneWorld.{stands_once}
use Rattle.tsdb_state.proofs.world_laws.a_store_stands_for_one_world.Goals as goal

pub returns : goal.returns
returns c = λ told state one other is also. stands_once told state one other is also
