use Rattle.std.proofs.Common.{arith}
use Rattle.std.proofs.lemmas.Grind.{common_steps}
use Rattle.outside_tests.proofs.many.read_all.Goals as goal

pub loop-sealed-preserved : goal.loop-sealed-preserved
loop-sealed-preserved g c = grind (arith, common_steps)
