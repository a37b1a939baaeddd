use Rattle.std.proofs.Common.{refl}
use Rattle.tsdb_tasks.proofs.InRuns.{inputs_stand}
use Rattle.tsdb_tasks.proofs.compaction_laws.the_runs_of_a_job_have_its_inputs.Goals as goal

pub returns : goal.returns
returns g c = λ told files known engine compaction runs are kept is kind stands stand.
    inputs_stand c.args._job.now told files known engine compaction runs are kept is stand c.args._job.now.space refl
    kind stands
