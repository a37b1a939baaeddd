use Rattle.tsdb_state.proofs.LayerLemmas.Moves.{before_none}
use Rattle.tsdb_state.proofs.layer_laws.earlier_layers_share_no_place.Goals as goal

pub returns : goal.returns
returns c = before_none
