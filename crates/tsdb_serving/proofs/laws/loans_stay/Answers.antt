use Rattle.tsdb_serving.proofs.Lent.{lent_still}
use Rattle.tsdb_serving.proofs.laws.loans_stay.Goals as goal

pub returns : goal.returns
returns g c = λ store. lent_still g.F.Right.ReadRight.file store c.args._old.now c.args._new.now
