use Rattle.tsdb_state.proofs.OneWorld.{stands_for_world, world_of}
use Rattle.tsdb_state.proofs.world_laws.a_store_in_order_stands_for_a_world.Goals as goal

pub returns : goal.returns
returns c = λ told state order. (world_of told state, stands_for_world told state order.live)
