use Rattle.tsfile_reader.proofs.Blames as blames
use Rattle.tsfile_reader.proofs.laws.one_blame.Goals as goal

pub returns : goal.returns
returns c = blames.one_blame
