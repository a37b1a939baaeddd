use Rattle.tsdb_state.proofs.EngineRecords.{create_step, delete_step, insert_step}
use Rattle.tsdb_state.proofs.step_laws.commands_keep_order.Goals as goal

pub returns-clause-create : goal.returns-clause-create
returns-clause-create c told known named state schema order can = create_step told known named state order schema can

pub returns-clause-insert : goal.returns-clause-insert
returns-clause-insert c told known named state time cells order can bytes =
    insert_step told known named state order time cells can bytes

pub returns-clause-delete : goal.returns-clause-delete
returns-clause-delete c told known named state path range order can =
    delete_step told known named state order path range can
