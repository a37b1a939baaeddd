use Rattle.std.proofs.Common.{◌≡◌, take}
use Rattle.tsdb_model.specs.Folds.{sum_of}
use Rattle.tsdb_stats.specs.Steps.{IsSumWithin}
use Rattle.tsdb_stats.proofs.sum.sum_of.Given as goal

abbrev pub invariant-loop-point : goal.invariant-loop-point
invariant-loop-point l = (l.sum ≡ sum_of (take l.point-index l.points)) × IsSumWithin l.point-index l.sum
