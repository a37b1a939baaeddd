use Rattle.std.proofs.Common.{arith}
use Rattle.std.proofs.lemmas.Grind.{common_steps}
use Rattle.mem_outside.proofs.entry.copy_cut.Goals as goal

pub loop-entry-preserved-in_ok-push_back : goal.loop-entry-preserved-in_ok-push_back
loop-entry-preserved-in_ok-push_back c = grind (arith, common_steps)

pub loop-entry-preserved : goal.loop-entry-preserved
loop-entry-preserved c = grind (arith, common_steps)
