use Rattle.tsdb_serving.proofs.Lent.{can_end}
use Rattle.tsdb_serving.proofs.laws.a_loan_can_be_ended.Goals as goal

pub returns : goal.returns
returns g c = λ store. can_end g.F.Right.ReadRight.file store c.args._core.now c.args._one.now
