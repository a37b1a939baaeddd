use Rattle.tsdb_state.proofs.LayerLemmas.Places.{get_cut}
use Rattle.tsdb_state.proofs.layer_laws.a_range_is_cut.Goals as goal

pub returns : goal.returns
returns c path range content place = get_cut content path range place
