use Rattle.std.proofs.Common.{arith}
use Rattle.std.proofs.lemmas.Grind.{common_steps}
use Rattle.tsdb_map.proofs.plain.Plain.prepare_create.Goals as goal

pub create-requires : goal.create-requires
create-requires c = grind (arith, common_steps)

pub returns-then-is_some-clause-prepared : goal.returns-then-is_some-clause-prepared
returns-then-is_some-clause-prepared c = grind (arith, common_steps)

pub returns-clause-prepared : goal.returns-clause-prepared
returns-clause-prepared c = grind (arith, common_steps)
