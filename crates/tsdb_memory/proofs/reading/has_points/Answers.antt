use Rattle.tsdb_memory.proofs.Emptiness.{filled_by}
use Rattle.tsdb_memory.proofs.reading.has_points.Goals as goal

pub returns : goal.returns
returns c = filled_by c.args.space c.args.pair.now c.points.result c.points.ensures.rising c.points.ensures.count
