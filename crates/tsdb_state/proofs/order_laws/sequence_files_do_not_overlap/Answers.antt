use Rattle.tsdb_state.proofs.Parts.{files_rise}
use Rattle.tsdb_state.proofs.order_laws.sequence_files_do_not_overlap.Goals as goal

pub returns : goal.returns
returns c told state order = files_rise told state order.layers
