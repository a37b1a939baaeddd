use Rattle.std.proofs.Common.{take}
use Rattle.tsdb_plan.specs.Files.{AreHullsRising}
use Rattle.tsdb_plan.proofs.overlap.are_rising.Given as goal

abbrev pub invariant-loop-i : goal.invariant-loop-i
invariant-loop-i l = AreHullsRising (take l.i l.hulls)
