use Rattle.tsdb_tasks.proofs.InState.{ended_in_state}
use Rattle.tsdb_tasks.proofs.compaction_laws.a_job_given_up_ends_in_the_state.Goals as goal

pub returns : goal.returns
returns g c = λ old new known engine compaction others file are kept place is fresh up.
    ended_in_state c.args._job.now old new known engine compaction file are kept place is fresh up others
