use Rattle.tsdb_core.proofs.LoansOut.{job_out}
use Rattle.tsdb_core.proofs.laws.a_kept_compaction_is_out.Goals as goal

pub returns : goal.returns
returns g c = λ compaction others compactions flushes lent handed is out among keeps.
    job_out g.F.Right.ReadRight.file c.args._core.now c.args._job.now compaction others compactions flushes lent handed is
    out among keeps
