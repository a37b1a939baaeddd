use Rattle.std.proofs.iter.Serving.{serving}
use Rattle.tsdb_run.proofs.output.order.Goals as goal

pub returns : goal.returns
returns c = grind serving
