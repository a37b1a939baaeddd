use Rattle.tsdb_core.proofs.LoansTold.{job_told}
use Rattle.tsdb_core.proofs.laws.a_kept_compaction_tells.Goals as goal

pub returns : goal.returns
returns g c = λ outside engine flushes compactions lent begun seen keeps among truth.
    job_told g.F.Right.ReadRight.file c.args._core.now c.args._job.now outside engine seen lent keeps.rights among begun
    truth
