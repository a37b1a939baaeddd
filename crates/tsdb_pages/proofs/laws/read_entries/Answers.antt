use Rattle.tsdb_pages.proofs.TreeIndex.{read_entries}
use Rattle.tsdb_pages.proofs.laws.read_entries.Goals as goal

pub returns : goal.returns
returns c = read_entries
