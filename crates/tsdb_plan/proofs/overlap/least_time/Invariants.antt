use Rattle.std.proofs.Common.{take}
use Rattle.std.specs.Prelude.{All, ◌≤ℤ◌}
use Rattle.tsdb_plan.proofs.overlap.least_time.Given as goal

abbrev pub invariant-loop-hull : goal.invariant-loop-hull
invariant-loop-hull l = All (λ hull. l.least ≤ℤ hull.from) (take l.hull-index l.hulls)
