use Rattle.tsdb_state.proofs.Winning.{rest_stays}
use Rattle.tsdb_state.proofs.order_laws.other_values_stay.Goals as goal

pub returns : goal.returns
returns c told time cells state place order can apart = rest_stays told time cells state order can place apart
