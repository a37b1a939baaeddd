use Rattle.tsdb_state.proofs.NewStore.{new_store_in_order, new_store_stands}
use Rattle.tsdb_state.proofs.world_laws.a_new_store_is_in_order.Goals as goal

pub returns-clause-order : goal.returns-clause-order
returns-clause-order c = λ told. new_store_in_order told

pub returns-clause-world : goal.returns-clause-world
returns-clause-world c = λ told. new_store_stands told
