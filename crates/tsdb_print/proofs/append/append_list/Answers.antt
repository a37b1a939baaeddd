use Rattle.std.proofs.Common.{arith}
use Rattle.std.proofs.lemmas.Grind.{common_steps}
use Rattle.tsdb_print.proofs.append.append_list.Goals as goal

pub returns-in_ok-append-in-len1-up : goal.returns-in_ok-append-in-len1-up
returns-in_ok-append-in-len1-up c = grind (arith, common_steps)
