use Rattle.tsdb_map.proofs.LawLemmas.{removes}
use Rattle.tsdb_map.proofs.laws.deletion_removes_its_range.Goals as goal

pub returns : goal.returns
returns c = removes
