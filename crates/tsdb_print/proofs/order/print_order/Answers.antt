use Rattle.std.proofs.Common.{arith}
use Rattle.std.proofs.lemmas.Grind.{common_steps}
use Rattle.tsdb_print.proofs.order.print_order.Goals as goal

pub loop-session-preserved : goal.loop-session-preserved
loop-session-preserved c = grind (arith, common_steps)

pub returns : goal.returns
returns c = grind (arith, common_steps)
