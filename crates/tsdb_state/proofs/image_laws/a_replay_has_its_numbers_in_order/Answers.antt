use Rattle.tsdb_state.proofs.ImageLemmas.Numbers.{opened_numbers}
use Rattle.tsdb_state.proofs.image_laws.a_replay_has_its_numbers_in_order.Goals as goal

pub returns : goal.returns
returns c = opened_numbers
