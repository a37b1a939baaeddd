use Rattle.std.proofs.Common.{◌≡◌, false, length}
use Rattle.tsdb_script.specs.Tokens.{AreTokensAnd, is_blank, starts}
use Rattle.tsdb_script.proofs.lexer.read_tokens.Given as goal

abbrev pub invariant-loop-rest : goal.invariant-loop-rest
invariant-loop-rest l = record { so_far : AreTokensAnd l.tokens.items l.line l.rest; solid : starts is_blank l.rest ≡ false }

abbrev pub decreases-loop-rest : goal.decreases-loop-rest
decreases-loop-rest l = length l.rest
