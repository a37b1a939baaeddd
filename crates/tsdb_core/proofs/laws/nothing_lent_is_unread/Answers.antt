use Rattle.tsdb_core.proofs.LoansOut.{none_lent}
use Rattle.tsdb_core.proofs.laws.nothing_lent_is_unread.Goals as goal

pub returns : goal.returns
returns g c = none_lent c.args._core.now
