use Rattle.std.proofs.Common.{arith}
use Rattle.std.proofs.lemmas.Grind.{common_steps}
use Rattle.tsdb_fields.proofs.writing.write_counted.Goals as goal

pub returns-clause-ok : goal.returns-clause-ok
returns-clause-ok c = grind (arith, common_steps)

pub returns-in_err-extend_from_slice-2-clause-memory : goal.returns-in_err-extend_from_slice-2-clause-memory
returns-in_err-extend_from_slice-2-clause-memory c = grind (arith, common_steps)
