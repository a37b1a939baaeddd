use Rattle.std.proofs.Common.{◌≡◌, ◌++◌, length}
use Rattle.tsdb_script.specs.Steps.{unescape}
use Rattle.tsdb_script.proofs.token.Quoted.content.Given as goal

abbrev pub invariant-loop-first : goal.invariant-loop-first
invariant-loop-first l = l.bytes.items ++ unescape l.quote l.rest ≡ l.fn.self

abbrev pub decreases-loop-first : goal.decreases-loop-first
decreases-loop-first l = length l.rest
