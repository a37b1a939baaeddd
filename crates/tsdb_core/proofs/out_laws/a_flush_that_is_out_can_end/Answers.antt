use Rattle.tsdb_core.proofs.Out.{flush_can_end}
use Rattle.tsdb_core.proofs.out_laws.a_flush_that_is_out_can_end.Goals as goal

pub returns : goal.returns
returns g c = flush_can_end c.args._core.now c.args._job.now
