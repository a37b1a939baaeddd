use Rattle.tsdb_pins.proofs.Held.{columns_of}
use Rattle.tsdb_pins.proofs.laws.rights_are_of_the_store.Goals as goal

pub returns : goal.returns
returns g c = λ files store held of. columns_of g.F.Right.ReadRight.file files store of c.args.pin.now.columns held
