use Rattle.tsdb_core.proofs.Out.{flush_leaves}
use Rattle.tsdb_core.proofs.out_laws.an_ended_flush_is_out_no_longer.Goals as goal

pub returns : goal.returns
returns g c = flush_leaves c.args._old.now c.args._new.now c.args._job.now
