use Rattle.std.proofs.Common.{◌≡◌, length, drop}
use Rattle.tsdb_script.specs.Parse.{begins_at}
use Rattle.tsdb_script.proofs.parser.begins.Given as goal

abbrev pub invariant-loop-place : goal.invariant-loop-place
invariant-loop-place l = begins_at l.row (drop l.at l.tokens.items) ≡ begins_at l.places l.tokens.items

abbrev pub decreases-loop-place : goal.decreases-loop-place
decreases-loop-place l = length l.row
