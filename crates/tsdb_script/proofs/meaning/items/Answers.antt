use Rattle.std.proofs.Common.{arith}
use Rattle.std.proofs.lemmas.Grind.{common_steps}
use Rattle.tsdb_script.specs.Meaning.{IsItem, column_role}
use Rattle.tsdb_script.proofs.WordLists.{bad_among, each_next, good_among, passed_on}
use Rattle.tsdb_script.proofs.meaning.items.Goals as goal

pub returns-in_err-item-clause-bad : goal.returns-in_err-item-clause-bad
returns-in_err-item-clause-bad c =
    passed_on _ _ _ _ c.from_residual-in_err-item.ensures.1 c.in_err-item.ensures.bad
    (λ kind bad. bad_among column_role _ _ _ kind c.loop-column-test.true c.column-item.is c.loop-column.invariant.good bad)

pub loop-column-preserved : goal.loop-column-preserved
loop-column-preserved c = record {
  found = each_next IsItem _ _ _ _ _ _ c.loop-column-test.true c.column-item.is c.loop-column.invariant.found c.in_ok-item.ensures.found c.in_ok-push.ensures.items;
  good = good_among column_role _ _ _ c.loop-column-test.true c.column-item.is c.loop-column.invariant.good c.in_ok-item.ensures.good;
}

pub returns-clause-found : goal.returns-clause-found
returns-clause-found c = grind (arith, common_steps)

pub returns-clause-good : goal.returns-clause-good
returns-clause-good c = grind (arith, common_steps)
