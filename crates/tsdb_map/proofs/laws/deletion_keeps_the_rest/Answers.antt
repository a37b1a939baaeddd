use Rattle.tsdb_map.proofs.LawLemmas.{keeps}
use Rattle.tsdb_map.proofs.laws.deletion_keeps_the_rest.Goals as goal

pub returns : goal.returns
returns c = keeps
