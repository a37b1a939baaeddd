use Rattle.tsdb_state.proofs.Inserting.{inserted_in_order}
use Rattle.tsdb_state.proofs.laws.insert_keeps_order.Goals as goal

pub returns : goal.returns
returns c = inserted_in_order
