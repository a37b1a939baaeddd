use Rattle.tsdb_state.proofs.Told.{opened_in_order}
use Rattle.tsdb_state.proofs.world_laws.an_opened_engine_is_in_order.Goals as goal

pub returns : goal.returns
returns c = opened_in_order
