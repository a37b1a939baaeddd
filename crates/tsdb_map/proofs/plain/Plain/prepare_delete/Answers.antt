use Rattle.std.proofs.Common.{arith}
use Rattle.std.proofs.lemmas.Grind.{common_steps}
use Rattle.tsdb_map.proofs.plain.Plain.prepare_delete.Goals as goal

pub returns-then-is_none-clause-prepared : goal.returns-then-is_none-clause-prepared
returns-then-is_none-clause-prepared c = grind (arith, common_steps)

pub returns-clause-prepared : goal.returns-clause-prepared
returns-clause-prepared c = grind (arith, common_steps)
