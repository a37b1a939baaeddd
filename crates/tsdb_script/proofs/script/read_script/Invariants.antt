use Rattle.std.proofs.Common.{length}
use Rattle.tsdb_script.proofs.ScriptLemmas.{IsReadSoFar}
use Rattle.tsdb_script.proofs.script.read_script.Given as goal

abbrev pub invariant-loop-rest : goal.invariant-loop-rest
invariant-loop-rest l = IsReadSoFar l.bytes l.script.items l.sessions.items l.rest l.number

abbrev pub decreases-loop-rest : goal.decreases-loop-rest
decreases-loop-rest l = length l.rest
