use Rattle.std.proofs.Common.{arith}
use Rattle.std.proofs.lemmas.Grind.{common_steps}
use Rattle.tsdb_pages.proofs.body.times_of.Goals as goal

pub loop-point-preserved : goal.loop-point-preserved
loop-point-preserved c = record { same = grind (arith, common_steps); fit = grind (arith, common_steps) }

pub returns : goal.returns
returns c = record { same = grind (arith, common_steps); fit = grind (arith, common_steps) }
