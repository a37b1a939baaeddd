use Rattle.std.proofs.Common.{◌+◌, ◌↔◌, length}
use Rattle.tsdb_plan.specs.Files.{AreHullsRising}
use Rattle.tsdb_plan.specs.Steps.{Reaches}
use Rattle.tsdb_plan.proofs.overlap.reaches.Given as goal

-- what is left reaches exactly where the whole does
abbrev pub invariant-loop-xs : goal.invariant-loop-xs
invariant-loop-xs l = record {
  late : AreHullsRising l.xs;
  early : AreHullsRising l.ys;
  same : Reaches l.late l.early ↔ Reaches l.xs l.ys;
}

abbrev pub decreases-loop-xs : goal.decreases-loop-xs
decreases-loop-xs l = length l.xs + length l.ys
