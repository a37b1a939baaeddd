use Rattle.tsdb_state.proofs.ReplayLemmas.Stores.{new_log_stands}
use Rattle.tsdb_state.proofs.replay_laws.a_new_log_stands_for_no_series.Goals as goal

pub returns : goal.returns
returns c = λ files. new_log_stands files
