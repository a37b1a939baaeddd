use Rattle.std.proofs.Common.{◌++◌, refl}
use Rattle.tsdb_state.proofs.LayerLemmas.Values.{value_middle, value_swap}
use Rattle.tsdb_state.proofs.layer_laws.neighbours_change_places.Goals as goal

pub returns : goal.returns
returns c marks place below run other above none = value_middle marks marks place below above (run ++ other)
    (other ++ run) refl refl (value_swap marks place run other none)
