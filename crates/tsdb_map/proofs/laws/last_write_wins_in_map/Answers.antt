use Rattle.tsdb_map.proofs.LawLemmas.{last_wins}
use Rattle.tsdb_map.proofs.laws.last_write_wins_in_map.Goals as goal

pub returns : goal.returns
returns c = last_wins
