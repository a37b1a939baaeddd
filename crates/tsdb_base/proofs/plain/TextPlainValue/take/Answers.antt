use Rattle.std.proofs.Common.{arith}
use Rattle.std.proofs.lemmas.Grind.{common_steps}
use Rattle.tsdb_base.proofs.plain.TextPlainValue.take.Goals as goal

pub returns-then-rest-len-clause-bad : goal.returns-then-rest-len-clause-bad
returns-then-rest-len-clause-bad c = grind (arith, common_steps)
