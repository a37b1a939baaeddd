use Rattle.tsdb_state.proofs.ReplayLemmas.Doubts.{one_or_more}
use Rattle.tsdb_state.proofs.replay_laws.record_in_doubt_leads_on.Goals as goal

pub returns : goal.returns
returns g c = λ items doubt state bytes good replayed follows has. one_or_more g.R.Replayed.steps items doubt state
    bytes good replayed follows has
