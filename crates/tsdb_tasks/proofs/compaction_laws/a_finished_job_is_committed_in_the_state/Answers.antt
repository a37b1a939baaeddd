use Rattle.tsdb_tasks.proofs.InCommit.{committed_in_state}
use Rattle.tsdb_tasks.proofs.compaction_laws.a_finished_job_is_committed_in_the_state.Goals as goal

pub returns : goal.returns
returns g c = λ old new known engine compaction others file runs place are kept open_place is fresh output some stand at
    inputs said up.
    committed_in_state c.args._job.now runs old new known engine compaction file place are is stand output some up kept
    open_place fresh at inputs said others
