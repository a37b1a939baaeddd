use Rattle.tsdb_state.proofs.ImageLemmas.Leaving.{settled_is_sound}
use Rattle.tsdb_state.proofs.image_laws.a_settled_engine_leaves_a_sound_store.Goals as goal

pub returns : goal.returns
returns g c = λ items kept told known state world slot gate files stored none stands log settled holds.
    settled_is_sound items kept told known state stored (g.D.Disk.state c.args._disk.now)
    (g.D.Disk.lawful c.args._disk.now) world slot gate files none stands log settled holds
