use Rattle.tsdb_state.proofs.ReplayLemmas.Parted.{damaged_none, damaged_once}
use Rattle.tsdb_state.proofs.replay_laws.log_is_damaged_at_one_place.Goals as goal

pub returns-clause-once : goal.returns-clause-once
returns-clause-once g c =
    λ at place bytes one other. damaged_once g.R.Replayed.steps g.R.Replayed.determinate at place bytes one other

pub returns-clause-none : goal.returns-clause-none
returns-clause-none g c =
    λ at bytes state damaged is. damaged_none g.R.Replayed.steps g.R.Replayed.determinate at bytes state damaged is
