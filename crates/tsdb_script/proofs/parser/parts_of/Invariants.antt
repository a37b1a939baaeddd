use Rattle.std.proofs.Common.{◌≡◌, length, option_map}
use Rattle.tsdb_script.specs.Parse.{parts_at}
use Rattle.tsdb_script.proofs.PartLemmas.{behind_parts}
use Rattle.tsdb_script.proofs.parser.parts_of.Given as goal

abbrev pub invariant-loop-place : goal.invariant-loop-place
invariant-loop-place l = option_map (behind_parts l.parts.items) (parts_at l.row l.tokens.items) ≡ parts_at l.places l.fn.tokens.items

abbrev pub decreases-loop-place : goal.decreases-loop-place
decreases-loop-place l = length l.row
