use Rattle.tsdb_tasks.proofs.InState.{began_in_state}
use Rattle.tsdb_tasks.proofs.compaction_laws.a_begun_job_begins_in_the_state.Goals as goal

pub returns : goal.returns
returns g c = λ space output runs old new known engine compaction are within inputs begun.
    began_in_state g.F.Right.ReadRight.file space output runs old new known engine compaction c.args._taken.now are
    within inputs begun
