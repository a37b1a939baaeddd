use Rattle.tsdb_state.proofs.Creating.{created_in_order}
use Rattle.tsdb_state.proofs.laws.create_keeps_order.Goals as goal

pub returns : goal.returns
returns c = created_in_order
