use Rattle.enc_ts2diff.proofs.Parts.{same_from_spelling}
use Rattle.enc_ts2diff.proofs.laws.one_spelling.Goals as goal

pub returns : goal.returns
returns c = same_from_spelling
