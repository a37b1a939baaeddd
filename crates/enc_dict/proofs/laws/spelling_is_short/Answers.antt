use Rattle.enc_dict.proofs.SpellingLaws.{length-spelling}
use Rattle.enc_dict.proofs.laws.spelling_is_short.Goals as goal

pub returns : goal.returns
returns c = length-spelling
