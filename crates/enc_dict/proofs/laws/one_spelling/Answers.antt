use Rattle.enc_dict.proofs.SpellingLaws.{same_from_spelling}
use Rattle.enc_dict.proofs.laws.one_spelling.Goals as goal

pub returns : goal.returns
returns c = same_from_spelling
