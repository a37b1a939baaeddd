use Rattle.tsdb_core.proofs.Out.{pin_joins}
use Rattle.tsdb_core.proofs.out_laws.a_taken_pin_is_out.Goals as goal

pub returns : goal.returns
returns g c = pin_joins g.F.Right.ReadRight.file c.args._old.now c.args._new.now c.args._pin.now
