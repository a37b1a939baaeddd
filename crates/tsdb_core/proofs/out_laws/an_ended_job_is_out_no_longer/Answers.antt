use Rattle.tsdb_core.proofs.Out.{job_leaves}
use Rattle.tsdb_core.proofs.out_laws.an_ended_job_is_out_no_longer.Goals as goal

pub returns : goal.returns
returns g c = job_leaves g.F.Right.ReadRight.file c.args._old.now c.args._new.now c.args._job.now
