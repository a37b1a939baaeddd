use Rattle.std.proofs.Common.{◌≡◌, fold, map, take}
use Rattle.std.specs.Int.{int_min}
use Rattle.tsdb_fileset.proofs.lines.least_time.Given as goal

abbrev pub invariant-loop-hull : goal.invariant-loop-hull
invariant-loop-hull l = l.least ≡ fold int_min l.first (map (λ hull. hull.from) (take l.hull-index l.hulls))
