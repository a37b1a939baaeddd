use Rattle.std.proofs.Common.{◌≡◌, fold, map, take}
use Rattle.std.specs.Int.{int_max}
use Rattle.tsdb_fileset.proofs.lines.greatest_time.Given as goal

abbrev pub invariant-loop-hull : goal.invariant-loop-hull
invariant-loop-hull l = l.greatest ≡ fold int_max l.first (map (λ hull. hull.to) (take l.hull-index l.hulls))
