use Rattle.std.proofs.Common.{◌≡◌, drop}
use Rattle.tsdb_script.specs.Steps.{after_blanks}
use Rattle.tsdb_script.proofs.lexer.behind_blanks.Given as goal

abbrev pub invariant-loop-at : goal.invariant-loop-at
invariant-loop-at l = after_blanks l.bytes ≡ after_blanks (drop l.at l.bytes)
