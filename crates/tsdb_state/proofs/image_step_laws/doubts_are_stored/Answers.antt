use Rattle.tsdb_state.proofs.ImageLemmas.Storing.{create_failed, delete_failed, freeze_failed, insert_failed, settled_stored}
use Rattle.tsdb_state.proofs.image_step_laws.doubts_are_stored.Goals as goal

pub returns-clause-create : goal.returns-clause-create
returns-clause-create c items kept told known state schema stored can good =
    create_failed items kept told known state stored schema can good

pub returns-clause-insert : goal.returns-clause-insert
returns-clause-insert c items kept told known state time cells stored can bytes good =
    insert_failed items kept told known state stored time cells can bytes good

pub returns-clause-delete : goal.returns-clause-delete
returns-clause-delete c items kept told known state path range stored can good =
    delete_failed items kept told known state stored path range can good

pub returns-clause-freeze : goal.returns-clause-freeze
returns-clause-freeze c items kept told known state stored can good =
    freeze_failed items kept told known state stored can good

pub returns-clause-settle : goal.returns-clause-settle
returns-clause-settle c items kept told known state stored = settled_stored items kept told known state stored
