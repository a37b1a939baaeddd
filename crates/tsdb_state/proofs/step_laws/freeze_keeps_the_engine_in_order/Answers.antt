use Rattle.tsdb_state.proofs.EngineRecords.{freeze_step}
use Rattle.tsdb_state.proofs.step_laws.freeze_keeps_the_engine_in_order.Goals as goal

pub returns : goal.returns
returns c told known named state order can = freeze_step told known named state order can
