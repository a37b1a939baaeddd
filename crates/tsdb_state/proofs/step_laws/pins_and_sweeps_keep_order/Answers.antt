use Rattle.tsdb_state.proofs.EngineRest.{pin_step, sweep_step, swept_free, unpin_step}
use Rattle.tsdb_state.proofs.step_laws.pins_and_sweeps_keep_order.Goals as goal

pub returns-clause-pin : goal.returns-clause-pin
returns-clause-pin c told known named state pin order takes = pin_step told known named state order pin takes

pub returns-clause-unpin : goal.returns-clause-unpin
returns-clause-unpin c told known named state pin others order out =
    unpin_step told known named state order pin others out

pub returns-clause-sweep : goal.returns-clause-sweep
returns-clause-sweep c told known named state numbers order sweeps =
    sweep_step told known named state order numbers sweeps

pub returns-clause-free : goal.returns-clause-free
returns-clause-free c told known named state numbers order sweeps =
    swept_free told known named state order numbers sweeps
