use Rattle.tsdb_bits.specs.Zigzag.{zigzag}
use Rattle.enc_rle.specs.Spelling.{bool_code}
use Rattle.enc_rle.specs.CodeLaws.{bool_code-one_to_one, same_from_zigzag}
use Rattle.enc_rle.proofs.Runs.{same_from_spelling}
use Rattle.enc_rle.proofs.laws.one_spelling.Goals as goal

pub returns-clause-bool : goal.returns-clause-bool
returns-clause-bool c = same_from_spelling bool_code bool_code-one_to_one

pub returns-clause-int : goal.returns-clause-int
returns-clause-int c = same_from_spelling zigzag same_from_zigzag
