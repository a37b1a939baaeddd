use Rattle.tsdb_core.proofs.LoansOut.{flush_out}
use Rattle.tsdb_core.proofs.laws.a_kept_flush_is_out.Goals as goal

pub returns : goal.returns
returns g c = flush_out c.args._core.now c.args._job.now
