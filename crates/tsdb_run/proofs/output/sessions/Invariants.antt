-- The sessions of the commands up to here.
use Rattle.std.proofs.Common.{◌≡◌, take}
use Rattle.tsdb_run.specs.Output.{distinct_sessions}
use Rattle.tsdb_run.proofs.output.sessions.Given as goal

abbrev pub invariant-loop-numbered : goal.invariant-loop-numbered
invariant-loop-numbered l = l.sessions.items ≡ distinct_sessions (take l.numbered-index l.script)
