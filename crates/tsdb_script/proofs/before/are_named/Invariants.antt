use Rattle.std.proofs.Common.{◌≡◌, map, take}
use Rattle.tsdb_script.proofs.before.are_named.Given as goal

abbrev pub invariant-loop-at : goal.invariant-loop-at
invariant-loop-at l = take l.at l.names ≡ map (λ cell. cell.measurement) (take l.at l.cells)
