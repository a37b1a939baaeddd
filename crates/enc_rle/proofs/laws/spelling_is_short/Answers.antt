use Rattle.std.proofs.Common.{FitsSigned}
use Rattle.std.specs.Int.{w64}
use Rattle.tsdb_bits.specs.Zigzag.{zigzag}
use Rattle.enc_rle.specs.Spelling.{bool_code}
use Rattle.enc_rle.specs.CodeLaws.{bool_code-lt, zigzag_i64-lt}
use Rattle.enc_rle.proofs.Runs.{length-spelling}
use Rattle.enc_rle.proofs.laws.spelling_is_short.Goals as goal

pub returns-clause-bool : goal.returns-clause-bool
returns-clause-bool c = length-spelling bool_code (λ _. Unit {0}) bool_code-lt

pub returns-clause-int : goal.returns-clause-int
returns-clause-int c = length-spelling zigzag (FitsSigned w64) zigzag_i64-lt
