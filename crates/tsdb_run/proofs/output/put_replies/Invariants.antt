-- The replies to the commands up to here are put.
use Rattle.std.proofs.Common.{drop}
use Rattle.tsdb_run.specs.Output.{replies_text}
use Rattle.tsdb_run.proofs.PutLemmas.{HasPut}
use Rattle.tsdb_run.proofs.TextLemmas.{side_by_side}
use Rattle.tsdb_run.proofs.output.put_replies.Given as goal

abbrev pub invariant-loop-at : goal.invariant-loop-at
invariant-loop-at g l =
    HasPut (g.K.Sink.held l.fn.out) (g.K.Sink.held l.out) (replies_text l.script l.history l.session)
    (side_by_side l.session (drop l.at l.script) (drop l.at l.history)) (g.K.Counted.faults l.fn.out) (g.K.Counted.faults l.out)
