use Rattle.tsdb_core.proofs.LoansOut.{nothing_lent}
use Rattle.tsdb_core.proofs.laws.nothing_is_lent.Goals as goal

pub returns : goal.returns
returns g c = nothing_lent c.args._core.now
