use Rattle.tsdb_state.proofs.ReplayLemmas.Stores.{stands_with_more}
use Rattle.tsdb_state.proofs.replay_laws.strays_say_nothing.Goals as goal

pub returns : goal.returns
returns c = λ files more bytes world there stands. stands_with_more files more bytes world there stands
