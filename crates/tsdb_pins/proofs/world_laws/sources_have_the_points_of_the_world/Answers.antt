use Rattle.tsdb_pins.proofs.Points.{pin_has}
use Rattle.tsdb_pins.proofs.world_laws.sources_have_the_points_of_the_world.Goals as goal

pub returns : goal.returns
returns g c = λ told shown world is stands. pin_has told world c.args.pin.now shown is stands
