use Rattle.tsdb_map.proofs.LawLemmas.{others}
use Rattle.tsdb_map.proofs.laws.other_values_stay_in_map.Goals as goal

pub returns : goal.returns
returns c = others
