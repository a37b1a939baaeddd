use Rattle.std.proofs.Common.{take}
use Rattle.std.specs.Prelude.{All, ◌≤ℤ◌}
use Rattle.tsdb_plan.proofs.overlap.greatest_time.Given as goal

abbrev pub invariant-loop-hull : goal.invariant-loop-hull
invariant-loop-hull l = All (λ hull. hull.to ≤ℤ l.greatest) (take l.hull-index l.hulls)
