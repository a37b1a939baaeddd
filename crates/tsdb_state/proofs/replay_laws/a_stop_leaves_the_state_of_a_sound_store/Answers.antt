use Rattle.tsdb_state.proofs.ReplayLemmas.Stores.{sound_images}
use Rattle.tsdb_state.proofs.replay_laws.a_stop_leaves_the_state_of_a_sound_store.Goals as goal

pub returns : goal.returns
returns g c = λ slot files world image sound left. sound_images slot (g.D.Disk.state c.args._disk.now) files world image
    sound left
