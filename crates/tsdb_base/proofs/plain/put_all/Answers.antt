use Rattle.std.proofs.Common.{rules, arith}
use Rattle.std.proofs.lemmas.Grind.{common_steps}
use Rattle.tsdb_base.proofs.GrowthLemmas.{grew_at}
use Rattle.tsdb_base.proofs.plain.put_all.Goals as goal

pub returns-in_err-put-clause-memory : goal.returns-in_err-put-clause-memory
returns-in_err-put-clause-memory g c =
    let grew = grew_at g.T.PlainValue.spelling c.args.values.now c.loop-value.value-index c.value-item.result c.args.into.now.items c.loop-value.into.items c.put.new.into.items
    c.loop-value-test.true c.value-item.is c.loop-value.invariant c.in_err-put.ensures.memory in
    search (rules, grew)

pub loop-value-preserved : goal.loop-value-preserved
loop-value-preserved g c = grind (arith, common_steps)

pub returns-clause-ok : goal.returns-clause-ok
returns-clause-ok g c = grind (arith, common_steps)
