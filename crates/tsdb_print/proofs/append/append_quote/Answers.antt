use Rattle.std.proofs.Common.{arith, rules}
use Rattle.std.proofs.lemmas.Grind.{common_steps}
use Rattle.tsdb_print.proofs.append.append_quote.Goals as goal

pub returns-in_err-push : goal.returns-in_err-push
returns-in_err-push c = search rules

pub loop-byte-init : goal.loop-byte-init
loop-byte-init c = search rules

pub returns-in_err-append_escape : goal.returns-in_err-append_escape
returns-in_err-append_escape c = search rules

pub loop-byte-preserved : goal.loop-byte-preserved
loop-byte-preserved c = grind (arith, common_steps)

pub returns-in_err-push-2 : goal.returns-in_err-push-2
returns-in_err-push-2 c = search rules

pub returns : goal.returns
returns c = grind (arith, common_steps)
