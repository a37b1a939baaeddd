use Rattle.std.proofs.Common.{arith}
use Rattle.std.proofs.lemmas.Grind.{common_steps}
use Rattle.tsdb_bits.proofs.leb.get_leb.Goals as goal

pub returns-in-Ok-clause-read : goal.returns-in-Ok-clause-read
returns-in-Ok-clause-read c = grind (arith, common_steps)

pub returns-in-Ok-clause-short : goal.returns-in-Ok-clause-short
returns-in-Ok-clause-short c = grind (arith, common_steps)

pub returns-in-Err-Cut-clause-fault : goal.returns-in-Err-Cut-clause-fault
returns-in-Err-Cut-clause-fault c = grind (arith, common_steps)

pub returns-in-Err-Cut-clause-none : goal.returns-in-Err-Cut-clause-none
returns-in-Err-Cut-clause-none c = grind (arith, common_steps)

pub returns-in-Err-Overlong-clause-short : goal.returns-in-Err-Overlong-clause-short
returns-in-Err-Overlong-clause-short c = grind (arith, common_steps)

pub returns-in-Err-Overlong-clause-fault : goal.returns-in-Err-Overlong-clause-fault
returns-in-Err-Overlong-clause-fault c = grind (arith, common_steps)

pub returns-in-Err-Overlong-clause-none : goal.returns-in-Err-Overlong-clause-none
returns-in-Err-Overlong-clause-none c = grind (arith, common_steps)
