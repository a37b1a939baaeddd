use Rattle.std.proofs.Common.{arith}
use Rattle.std.proofs.lemmas.Grind.{common_steps}
use Rattle.enc_rle.proofs.encode.put_run.Goals as goal

pub returns-in_err-put_leb-clause-kept : goal.returns-in_err-put_leb-clause-kept
returns-in_err-put_leb-clause-kept c = grind (arith, common_steps)

pub returns-in_err-put_leb-2-clause-kept : goal.returns-in_err-put_leb-2-clause-kept
returns-in_err-put_leb-2-clause-kept c = grind (arith, common_steps)

pub returns-clause-ok : goal.returns-clause-ok
returns-clause-ok c = grind (arith, common_steps)

pub returns-clause-kept : goal.returns-clause-kept
returns-clause-kept c = grind (arith, common_steps)
