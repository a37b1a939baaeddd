use Rattle.tsdb_state.proofs.EngineRecords.{create_doubt, delete_doubt, freeze_doubt, insert_doubt}
use Rattle.tsdb_state.proofs.step_laws.commands_may_be_in_doubt.Goals as goal

pub returns-clause-create : goal.returns-clause-create
returns-clause-create c told known named state schema order can = create_doubt told known named state order schema can

pub returns-clause-insert : goal.returns-clause-insert
returns-clause-insert c told known named state time cells order can bytes =
    insert_doubt told known named state order time cells can bytes

pub returns-clause-delete : goal.returns-clause-delete
returns-clause-delete c told known named state path range order can =
    delete_doubt told known named state order path range can

pub returns-clause-freeze : goal.returns-clause-freeze
returns-clause-freeze c told known named state order can = freeze_doubt told known named state order can
