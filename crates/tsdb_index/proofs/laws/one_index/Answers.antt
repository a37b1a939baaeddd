use Rattle.tsdb_index.proofs.OneSpelling.{one_index}
use Rattle.tsdb_index.proofs.laws.one_index.Goals as goal

pub returns : goal.returns
returns c = one_index
