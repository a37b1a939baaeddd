use Rattle.tsdb_core.proofs.Out.{none_out, none_read}
use Rattle.tsdb_core.proofs.out_laws.nothing_is_out.Goals as goal

pub returns-clause-none : goal.returns-clause-none
returns-clause-none g c = none_out c.args._core.now

pub returns-clause-unread : goal.returns-clause-unread
returns-clause-unread g c = none_read c.args._core.now
