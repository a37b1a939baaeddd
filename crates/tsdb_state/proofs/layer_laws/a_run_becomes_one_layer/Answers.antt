use Rattle.std.proofs.Common.{refl}
use Rattle.tsdb_state.proofs.LayerLemmas.Values.{value_middle}
use Rattle.tsdb_state.proofs.layer_laws.a_run_becomes_one_layer.Goals as goal

pub returns : goal.returns
returns c marks place below run output above is = value_middle marks marks place below above output run refl refl is
