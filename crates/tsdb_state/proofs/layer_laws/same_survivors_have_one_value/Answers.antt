use Rattle.tsdb_state.proofs.LayerLemmas.Values.{value_of_survivors}
use Rattle.tsdb_state.proofs.layer_laws.same_survivors_have_one_value.Goals as goal

pub returns : goal.returns
returns c = value_of_survivors
