use Rattle.std.proofs.Common.{length}
use Rattle.tsdb_run.proofs.PutLemmas.{HasPut}
use Rattle.tsdb_run.proofs.put.put_lines.Given as goal

abbrev pub invariant-loop-rest : goal.invariant-loop-rest
invariant-loop-rest g l = HasPut (g.K.Sink.held l.fn.out) (g.K.Sink.held l.out) l.text l.rest (g.K.Counted.faults l.fn.out) (g.K.Counted.faults l.out)

abbrev pub decreases-loop-rest : goal.decreases-loop-rest
decreases-loop-rest g l = length l.rest
