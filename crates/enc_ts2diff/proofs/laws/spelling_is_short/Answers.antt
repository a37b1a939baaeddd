use Rattle.enc_ts2diff.proofs.Canonical.{length-spelling}
use Rattle.enc_ts2diff.proofs.laws.spelling_is_short.Goals as goal

pub returns : goal.returns
returns c = length-spelling
