use Rattle.tsdb_pages.proofs.TreeIndex.{entries_are_index}
use Rattle.tsdb_pages.proofs.laws.entries_are_index.Goals as goal

pub returns : goal.returns
returns c = entries_are_index
