use Rattle.tsdb_core.proofs.Out.{flush_joins}
use Rattle.tsdb_core.proofs.out_laws.a_taken_flush_is_out.Goals as goal

pub returns : goal.returns
returns g c = flush_joins c.args._old.now c.args._new.now c.args._job.now
