use Rattle.tsdb_state.proofs.ReplayLemmas.Stores.{stands_for_one_of}
use Rattle.tsdb_state.proofs.replay_laws.store_in_doubt_stands_for_one_of_two_states.Goals as goal

pub returns : goal.returns
returns c = λ files items doubt recorded world next bytes good replayed store leads has. stands_for_one_of files items
    doubt recorded world next bytes good replayed store leads has
