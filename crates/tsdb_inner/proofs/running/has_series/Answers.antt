use Rattle.tsdb_inner.proofs.All.{has_some}
use Rattle.tsdb_inner.proofs.running.has_series.Goals as goal

pub returns : goal.returns
returns c = λ filled is. has_some c.is_empty.result filled (c.is_empty.ensures filled is)
