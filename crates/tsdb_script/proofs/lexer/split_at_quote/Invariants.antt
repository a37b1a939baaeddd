use Rattle.std.proofs.Common.{◌-◌, ◌≤◌, length}
use Rattle.tsdb_script.proofs.TextLemmas.{IsContentSoFar}
use Rattle.tsdb_script.proofs.lexer.split_at_quote.Given as goal

abbrev pub invariant-loop-at : goal.invariant-loop-at
invariant-loop-at l = record { within : l.at ≤ length l.bytes; few : l.length ≤ l.at; so_far : IsContentSoFar l.quote l.bytes l.at l.length }

abbrev pub decreases-loop-at : goal.decreases-loop-at
decreases-loop-at l = length l.bytes - l.at
