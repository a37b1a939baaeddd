use Rattle.tsdb_core.proofs.Out.{pin_leaves}
use Rattle.tsdb_core.proofs.out_laws.a_pin_given_back_is_out_no_longer.Goals as goal

pub returns : goal.returns
returns g c = pin_leaves g.F.Right.ReadRight.file c.args._old.now c.args._new.now c.args._pin.now
