use Rattle.tsdb_state.proofs.Deleting.{deleted_in_order}
use Rattle.tsdb_state.proofs.laws.delete_keeps_order.Goals as goal

pub returns : goal.returns
returns c = deleted_in_order
