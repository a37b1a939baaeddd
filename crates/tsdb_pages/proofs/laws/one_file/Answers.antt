use Rattle.tsdb_pages.proofs.OneFile.{one_file}
use Rattle.tsdb_pages.proofs.laws.one_file.Goals as goal

pub returns : goal.returns
returns c = one_file
