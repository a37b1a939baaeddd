use Rattle.std.proofs.Common.{◌≡◌, ◌++◌, take, drop}
use Rattle.tsdb_script.specs.Steps.{word_parts}
use Rattle.tsdb_script.proofs.lexer.word.Given as goal

abbrev pub invariant-loop-at : goal.invariant-loop-at
invariant-loop-at l = word_parts l.bytes ≡ (take l.at l.bytes ++ (word_parts (drop l.at l.bytes)).0, (word_parts (drop l.at l.bytes)).1)
