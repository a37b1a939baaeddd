use Rattle.std.proofs.Common.{arith, rules}
use Rattle.std.proofs.lemmas.Grind.{common_steps}
use Rattle.tsdb_script.proofs.token.Quoted.content.Goals as goal

pub returns-in_err-bytes : goal.returns-in_err-bytes
returns-in_err-bytes c = search rules

pub loop-first-init : goal.loop-first-init
loop-first-init c = search rules

pub returns-in_err-push : goal.returns-in_err-push
returns-in_err-push c = search rules

pub loop-first-smaller-then-first-quote : goal.loop-first-smaller-then-first-quote
loop-first-smaller-then-first-quote c = search rules

pub loop-first-preserved-then-first-quote : goal.loop-first-preserved-then-first-quote
loop-first-preserved-then-first-quote c = grind (arith, common_steps)

pub loop-first-smaller : goal.loop-first-smaller
loop-first-smaller c = search rules

pub loop-first-preserved : goal.loop-first-preserved
loop-first-preserved c = grind (arith, common_steps)

pub returns-in-Ok : goal.returns-in-Ok
returns-in-Ok c = search rules

pub returns-in-Err-Memory : goal.returns-in-Err-Memory
returns-in-Err-Memory c = search rules

pub unreachable-requires : goal.unreachable-requires
unreachable-requires c = search rules

pub unreachable-unreachable : goal.unreachable-unreachable
unreachable-unreachable c = search rules
