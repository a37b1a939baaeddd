use Rattle.tsdb_base.specs.Causes.{Rose}
use Rattle.tsdb_run.proofs.Following.{follows}
use Rattle.tsdb_run.proofs.laws.a_run_follows_another.Goals as goal

pub returns : goal.returns
returns g c = λ files start middle last first second count now run sound legal.
    follows (g.P.Disk.state c.args._before.now) (g.P.Disk.state c.args._between.now)
    (g.P.Place.stored c.args._between.now) (g.P.Disk.lawful c.args._between.now) files start middle last first second
    (Rose count now) run sound legal
