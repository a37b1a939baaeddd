use Rattle.tsdb_index.proofs.OneSpelling.{one_spelling}
use Rattle.tsdb_index.proofs.laws.one_spelling.Goals as goal

pub returns : goal.returns
returns c = one_spelling
