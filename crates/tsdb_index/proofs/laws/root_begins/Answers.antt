use Rattle.tsdb_index.proofs.OneSpelling.{root_begins}
use Rattle.tsdb_index.proofs.laws.root_begins.Goals as goal

pub returns : goal.returns
returns c = root_begins
