use Rattle.tsdb_run.proofs.SeenLemmas.{adds_end}
use Rattle.tsdb_run.proofs.seen.Seen.end.Goals as goal

pub returns : goal.returns
returns c = let s = c.args.self.now in adds_end s.directory s.pair_points s.workers s.ended
