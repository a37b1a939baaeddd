use Rattle.std.proofs.lemmas.Grind.{common_steps}
use Rattle.std.proofs.Common.{arith}
use Rattle.tsdb_script.specs.Meaning.{IsLiteral, Scalar}
use Rattle.tsdb_script.proofs.WordLists.{bad_at, each_next, good_next, passed_on}
use Rattle.tsdb_script.proofs.Cells.{one_more_value}
use Rattle.tsdb_script.proofs.meaning.cells.Goals as goal

pub returns-in_err-value-clause-bad : goal.returns-in_err-value-clause-bad
returns-in_err-value-clause-bad c =
    passed_on _ _ _ _ c.from_residual-in_err-value.ensures.1 c.in_err-value.ensures.bad
    (λ kind bad. bad_at Scalar _ _ _ kind c.loop-operand-test.true c.operand-item.is c.loop-operand.invariant.good bad)

pub loop-operand-preserved : goal.loop-operand-preserved
loop-operand-preserved c = record {
  names = grind (arith, common_steps);
  values = each_next IsLiteral _ _ _ _ _ _ c.loop-operand-test.true c.operand-item.is c.loop-operand.invariant.values c.in_ok-value.ensures.found
      (one_more_value _ _ _ c.in_ok-push.ensures.items);
  good = good_next Scalar _ _ _ c.loop-operand-test.true c.operand-item.is c.loop-operand.invariant.good (c.in_ok-value.value, c.in_ok-value.ensures.found);
  left = grind (arith, common_steps);
}
