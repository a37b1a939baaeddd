use Rattle.tsdb_state.proofs.ReplayLemmas.Parted.{replay_once}
use Rattle.tsdb_state.proofs.replay_laws.log_is_replayed_to_one_state.Goals as goal

pub returns : goal.returns
returns g c = λ bytes one other is also. replay_once g.R.Replayed.steps g.R.Replayed.determinate bytes one other is also
