use Rattle.std.proofs.Common.{arith}
use Rattle.std.proofs.lemmas.Grind.{common_steps}
use Rattle.tsdb_script.proofs.lexer.text.Goals as goal

pub returns-then-length-gt-MAX_TEXT_BYTES-clause-bad : goal.returns-then-length-gt-MAX_TEXT_BYTES-clause-bad
returns-then-length-gt-MAX_TEXT_BYTES-clause-bad c = grind (arith, common_steps)
