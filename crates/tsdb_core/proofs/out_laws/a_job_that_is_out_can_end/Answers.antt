use Rattle.tsdb_core.proofs.Out.{job_can_end}
use Rattle.tsdb_core.proofs.out_laws.a_job_that_is_out_can_end.Goals as goal

pub returns : goal.returns
returns g c = job_can_end g.F.Right.ReadRight.file c.args._core.now c.args._job.now
