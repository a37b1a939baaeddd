use Rattle.tsdb_pages.proofs.Files.{one_tree}
use Rattle.tsdb_pages.proofs.laws.one_tree.Goals as goal

pub returns : goal.returns
returns c = one_tree
