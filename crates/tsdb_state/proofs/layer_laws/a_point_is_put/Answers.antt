use Rattle.tsdb_state.proofs.LayerLemmas.Moves.{put_elsewhere, put_survives, value_layer, value_top}
use Rattle.tsdb_state.specs.Places.{put_content}
use Rattle.tsdb_state.proofs.layer_laws.a_point_is_put.Goals as goal

pub returns-clause-here : goal.returns-clause-here
returns-clause-here c marks place value born content below above lives none =
    value_top marks place value below (record { born = born; content = put_content place value content }) above
    (put_survives marks place value born content lives) none

pub returns-clause-elsewhere : goal.returns-clause-elsewhere
returns-clause-elsewhere c marks place other value born content below above apart =
    value_layer marks other below (record { born = born; content = put_content place value content })
    (record { born = born; content = content }) above (put_elsewhere marks place other value born content apart)
