use Rattle.tsdb_base.specs.Causes.{Rose}
use Rattle.tsdb_run.proofs.Stopped.{stopped_joined, stopped_sound}
use Rattle.tsdb_run.specs.Store.{contents}
use Rattle.tsdb_run.proofs.laws.a_stop_leaves_a_sound_store.Goals as goal

pub returns-clause-sound : goal.returns-clause-sound
returns-clause-sound g c = λ start first before now is.
    stopped_sound (contents (g.P.Disk.state c.args._before.now) (g.P.Place.stored c.args._before.now))
    (contents (g.P.Disk.state c.args._behind.now) (g.P.Place.stored c.args._behind.now))
    (contents (g.P.Disk.state c.args._left.now) (g.P.Place.stored c.args._left.now)) start first (Rose before now) is

pub returns-clause-joined : goal.returns-clause-joined
returns-clause-joined g c = λ start middle last first second before now is sound legal.
    stopped_joined (contents (g.P.Disk.state c.args._before.now) (g.P.Place.stored c.args._before.now))
    (contents (g.P.Disk.state c.args._behind.now) (g.P.Place.stored c.args._behind.now))
    (contents (g.P.Disk.state c.args._left.now) (g.P.Place.stored c.args._left.now)) start first (Rose before now) is
    middle last second sound legal
