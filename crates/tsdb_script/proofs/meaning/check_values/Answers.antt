use Rattle.tsdb_script.specs.Meaning.{Scalar}
use Rattle.tsdb_script.proofs.WordLists.{bad_at, good_next, passed_on}
use Rattle.tsdb_script.proofs.meaning.check_values.Goals as goal

pub returns-in_err-literal-clause-bad : goal.returns-in_err-literal-clause-bad
returns-in_err-literal-clause-bad c =
    passed_on _ _ _ _ c.from_residual.ensures.1 c.in_err-literal.ensures.bad
    (λ kind bad. bad_at Scalar _ _ _ kind c.loop-operand-test.true c.operand-item.is c.loop-operand.invariant bad)

pub loop-operand-preserved : goal.loop-operand-preserved
loop-operand-preserved c =
    good_next Scalar _ _ _ c.loop-operand-test.true c.operand-item.is c.loop-operand.invariant (c.in_ok-literal.field-0, c.in_ok-literal.ensures.found)
