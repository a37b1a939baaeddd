use Rattle.tsfile_reader.proofs.Blames as blames
use Rattle.tsfile_reader.proofs.laws.a_whole_file_is_not_blamed.Goals as goal

pub returns : goal.returns
returns c = blames.not_blamed
