use Rattle.std.proofs.Common.{arith}
use Rattle.std.proofs.lemmas.Grind.{common_steps}
use Rattle.tsdb_base.proofs.field.DataTypePlainValue.take.Goals as goal

pub returns-in-0-clause-found : goal.returns-in-0-clause-found
returns-in-0-clause-found c = grind (arith, common_steps)

pub returns-in-1-clause-found : goal.returns-in-1-clause-found
returns-in-1-clause-found c = grind (arith, common_steps)

pub returns-in-2-clause-found : goal.returns-in-2-clause-found
returns-in-2-clause-found c = grind (arith, common_steps)

pub returns-in-5-clause-found : goal.returns-in-5-clause-found
returns-in-5-clause-found c = grind (arith, common_steps)
