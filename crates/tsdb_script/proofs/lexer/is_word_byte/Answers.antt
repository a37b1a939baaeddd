use Rattle.std.proofs.Common.{get_or, eqb, refl, arith}
use Rattle.std.proofs.lemmas.Bool.{agree_below_at}
use Rattle.tsdb_script.specs.declared.lexer.TheConstants.{WORD_BYTES}
use Rattle.tsdb_script.specs.Tokens.{is_word_byte}
use Rattle.tsdb_script.proofs.lexer.is_word_byte.Goals as goal

-- the table has 1 for a byte of a word
pub returns : goal.returns
returns c = rw c.from.ensures (agree_below_at (λ b. eqb (get_or WORD_BYTES b 0) 1) is_word_byte 256 c.args.byte refl (omega arith))
