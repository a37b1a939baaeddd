use Rattle.std.proofs.Common.{arith}
use Rattle.std.proofs.lemmas.Grind.{common_steps}
use Rattle.tsfile_reader.proofs.same.are_same_pages.Goals as goal

pub returns-then-not-is_same_page : goal.returns-then-not-is_same_page
returns-then-not-is_same_page c = grind (arith, common_steps)

pub loop-i-preserved : goal.loop-i-preserved
loop-i-preserved c = grind (arith, common_steps)

pub returns : goal.returns
returns c = grind (arith, common_steps)
