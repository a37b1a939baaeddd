use Rattle.tsdb_core.proofs.Out.{pin_is_held}
use Rattle.tsdb_core.proofs.out_laws.a_pin_that_is_out_is_held.Goals as goal

pub returns : goal.returns
returns g c = pin_is_held g.F.Right.ReadRight.file c.args._core.now c.args._pin.now
