use Rattle.std.proofs.Common.{◌≡◌, option_map, length}
use Rattle.tsdb_script.specs.Parse.{items_at}
use Rattle.tsdb_script.specs.Steps.{onto}
use Rattle.tsdb_script.proofs.TextLemmas.{with_front}
use Rattle.tsdb_script.proofs.parser.further.Given as goal

abbrev pub invariant-loop-turns : goal.invariant-loop-turns
invariant-loop-turns g l =
    option_map (with_front l.items.items) (items_at l.fn.between g.P.Listed.at l.turns l.tokens.items)
    ≡ option_map (onto l.fn.first) (items_at l.fn.between g.P.Listed.at (length l.fn.tokens.items) l.fn.tokens.items)

abbrev pub decreases-loop-turns : goal.decreases-loop-turns
decreases-loop-turns g l = l.turns
