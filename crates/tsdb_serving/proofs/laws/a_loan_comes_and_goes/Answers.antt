use Rattle.tsdb_serving.proofs.Lent.{lent_with, lent_without}
use Rattle.tsdb_serving.proofs.laws.a_loan_comes_and_goes.Goals as goal

pub returns-clause-comes : goal.returns-clause-comes
returns-clause-comes g c = λ store. lent_with g.F.Right.ReadRight.file store c.args._old.now c.args._new.now c.args._one.now

pub returns-clause-goes : goal.returns-clause-goes
returns-clause-goes g c = λ store. lent_without g.F.Right.ReadRight.file store c.args._old.now c.args._new.now
    c.args._one.now
