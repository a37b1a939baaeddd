use Rattle.std.proofs.Common.{arith}
use Rattle.std.proofs.lemmas.Grind.{common_steps}
use Rattle.tsdb_pages.proofs.body.join.Goals as goal

pub loop-value-preserved : goal.loop-value-preserved
loop-value-preserved c = record { times = grind (arith, common_steps); values = grind (arith, common_steps) }

pub returns : goal.returns
returns c = record { times = grind (arith, common_steps); values = grind (arith, common_steps) }
