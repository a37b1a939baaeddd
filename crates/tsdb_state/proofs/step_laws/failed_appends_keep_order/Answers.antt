use Rattle.tsdb_state.proofs.EngineDoubts.{doubt_is}
use Rattle.tsdb_state.proofs.EngineRecords.{fail_step, settle_step}
use Rattle.tsdb_state.proofs.step_laws.failed_appends_keep_order.Goals as goal

pub returns-clause-fail : goal.returns-clause-fail
returns-clause-fail c told known named state item order doubt = fail_step told known named state order item doubt

pub returns-clause-settle : goal.returns-clause-settle
returns-clause-settle c told known named state order = settle_step told known named state order

pub returns-clause-in_doubt : goal.returns-clause-in_doubt
returns-clause-in_doubt c told known named state item order is = doubt_is told known named state order item is
