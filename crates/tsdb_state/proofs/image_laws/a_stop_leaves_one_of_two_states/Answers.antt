use Rattle.tsdb_state.proofs.ImageLemmas.Leaving.{image_stands}
use Rattle.tsdb_state.proofs.image_laws.a_stop_leaves_one_of_two_states.Goals as goal

pub returns : goal.returns
returns g c = λ items kept told known state world next slot gate image stored stands leads log left.
    image_stands items kept told known state stored world next stands leads slot (g.D.Disk.state c.args._disk.now)
    gate image log left
