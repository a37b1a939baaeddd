use Rattle.tsdb_state.proofs.ImageLemmas.Storing.{opened_stored}
use Rattle.tsdb_state.proofs.image_laws.an_opened_engine_is_stored.Goals as goal

pub returns : goal.returns
returns c = opened_stored
