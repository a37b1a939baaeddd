use Rattle.tsdb_state.proofs.Winning.{last_wins}
use Rattle.tsdb_state.proofs.order_laws.last_write_wins.Goals as goal

pub returns : goal.returns
returns c told time cells state cell order can among = last_wins told time cells state order can cell among
