use Rattle.tsdb_state.proofs.ReplayLemmas.Stores.{stands_once}
use Rattle.tsdb_state.proofs.replay_laws.store_stands_for_one_state.Goals as goal

pub returns : goal.returns
returns c = λ files bytes one other is also. stands_once files bytes one other is also
