use Rattle.tsdb_pages.proofs.Places.{file_ends}
use Rattle.tsdb_pages.proofs.laws.file_ends.Goals as goal

pub returns : goal.returns
returns c = file_ends
