use Rattle.std.specs.Arc.{arc_value}
use Rattle.tsdb_flush.proofs.PartsInMaking.{HasGathered}
use Rattle.tsdb_flush.proofs.flush.gather.Given as goal

abbrev pub invariant-loop-place : goal.invariant-loop-place
invariant-loop-place l = HasGathered l.fn.space (arc_value l.fn.job.pair) l.fn.job.schemas l.fn.job.series l.place l.part
