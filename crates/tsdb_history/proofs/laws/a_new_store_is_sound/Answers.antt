use Rattle.tsdb_history.proofs.Joined.{new_is_sound}
use Rattle.tsdb_history.proofs.laws.a_new_store_is_sound.Goals as goal

pub returns : goal.returns
returns g c = λ slot files image seen new leaves. new_is_sound slot (g.D.Disk.state c.args._disk.now) files image seen new
    leaves
