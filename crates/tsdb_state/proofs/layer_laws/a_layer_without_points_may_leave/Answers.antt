use Rattle.tsdb_state.proofs.LayerLemmas.Moves.{value_without}
use Rattle.tsdb_state.proofs.layer_laws.a_layer_without_points_may_leave.Goals as goal

pub returns : goal.returns
returns c = value_without
