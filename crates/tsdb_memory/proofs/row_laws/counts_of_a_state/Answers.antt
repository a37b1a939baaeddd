use Rattle.tsdb_memory.proofs.RowLemmas.Counts.{has_counts}
use Rattle.tsdb_memory.proofs.row_laws.counts_of_a_state.Goals as goal

pub returns : goal.returns
returns c memory state sound rising is = has_counts memory state sound rising is
