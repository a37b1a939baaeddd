use Rattle.tsdb_pins.proofs.Items.{pin_columns, pin_values}
use Rattle.tsdb_pins.proofs.world_laws.columns_are_those_of_the_items.Goals as goal

pub returns-clause-rows : goal.returns-clause-rows
returns-clause-rows g c = λ files store device items range world is. pin_columns g.F.Right.ReadRight.file files store device range world items c.args.pin.now is

pub returns-clause-values : goal.returns-clause-values
returns-clause-values g c = λ files store device items range world is. pin_values g.F.Right.ReadRight.file files store device range world items c.args.pin.now is
