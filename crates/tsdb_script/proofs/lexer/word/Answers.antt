use Rattle.std.proofs.Common.{arith, rules}
use Rattle.std.proofs.lemmas.Grind.{common_steps}
use Rattle.tsdb_script.proofs.lexer.word.Goals as goal

pub loop-at-init : goal.loop-at-init
loop-at-init c = search rules

pub bounds-bytes-at : goal.bounds-bytes-at
bounds-bytes-at c = search rules

pub split_at-requires : goal.split_at-requires
split_at-requires c = search rules

pub returns-then-not-is_word_byte : goal.returns-then-not-is_word_byte
returns-then-not-is_word_byte c = grind (arith, common_steps)

pub loop-at-preserved : goal.loop-at-preserved
loop-at-preserved c = grind (arith, common_steps)

pub returns : goal.returns
returns c = grind (arith, common_steps)
