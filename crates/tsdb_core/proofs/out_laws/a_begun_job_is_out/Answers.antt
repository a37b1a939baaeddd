use Rattle.tsdb_core.proofs.Out.{job_joins}
use Rattle.tsdb_core.proofs.out_laws.a_begun_job_is_out.Goals as goal

pub returns : goal.returns
returns g c = λ space runs. job_joins g.F.Right.ReadRight.file space runs c.args._old.now c.args._new.now c.args._job.now
