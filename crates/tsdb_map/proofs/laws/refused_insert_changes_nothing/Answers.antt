use Rattle.tsdb_map.proofs.LawLemmas.{refused}
use Rattle.tsdb_map.proofs.laws.refused_insert_changes_nothing.Goals as goal

pub returns : goal.returns
returns c = refused
