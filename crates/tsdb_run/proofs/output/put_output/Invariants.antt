-- The parts of the sessions up to here are put.
use Rattle.std.proofs.Common.{◌++◌, drop, map}
use Rattle.std.specs.List.{flat_map}
use Rattle.tsdb_print.specs.Text.{order_text}
use Rattle.tsdb_run.specs.Output.{output_text, session_part}
use Rattle.tsdb_run.proofs.PutLemmas.{HasPut}
use Rattle.tsdb_run.proofs.output.put_output.Given as goal

abbrev pub invariant-loop-session : goal.invariant-loop-session
invariant-loop-session g l =
    HasPut (g.K.Sink.held l.fn.out) (g.K.Sink.held l.out) (output_text l.script l.history)
    (flat_map (session_part l.script l.history) (drop l.session-index l.session-items) ++ order_text (map (λ told. told.session) l.history))
    (g.K.Counted.faults l.fn.out) (g.K.Counted.faults l.out)
