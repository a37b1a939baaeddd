use Rattle.tsdb_run.proofs.Stopped.{new_place_sound}
use Rattle.tsdb_run.proofs.laws.a_new_place_is_sound.Goals as goal

pub returns : goal.returns
returns g c = λ image seen here leaves none. new_place_sound (g.P.Disk.state c.args._place.now)
    (g.P.Place.stored c.args._place.now) image seen here leaves none
