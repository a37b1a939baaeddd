use Rattle.tsdb_state.proofs.ReplayLemmas.Doubts.{replays_more}
use Rattle.tsdb_state.proofs.replay_laws.replay_goes_on.Goals as goal

pub returns : goal.returns
returns g c =
    λ items item old middle new first leads. replays_more g.R.Replayed.steps items item old middle new first leads
