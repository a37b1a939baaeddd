use Rattle.tsdb_memory.proofs.RowLemmas.Counts.{empty_pair}
use Rattle.tsdb_memory.proofs.row_laws.a_pair_without_points_is_empty.Goals as goal

pub returns : goal.returns
returns c pair shown counts = empty_pair pair shown counts
