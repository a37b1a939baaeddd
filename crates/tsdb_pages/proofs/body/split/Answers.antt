use Rattle.std.proofs.Common.{arith}
use Rattle.std.proofs.lemmas.Grind.{common_steps}
use Rattle.tsdb_pages.proofs.body.split.Goals as goal

pub returns-then-parts-length-clause-bad : goal.returns-then-parts-length-clause-bad
returns-then-parts-length-clause-bad c = grind (arith, common_steps)
