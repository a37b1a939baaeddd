use Rattle.tsdb_state.proofs.LayerLemmas.Moves.{value_purge}
use Rattle.tsdb_state.proofs.layer_laws.marks_are_purged.Goals as goal

pub returns : goal.returns
returns c = value_purge
