use Rattle.tsfile_writer.proofs.Same.{one_file_of}
use Rattle.tsfile_writer.proofs.laws.one_file_of_series.Goals as goal

pub returns : goal.returns
returns c = one_file_of
