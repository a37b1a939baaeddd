use Rattle.std.proofs.Common.{◌≡◌, take}
use Rattle.std.specs.Prelude.{option_map}
use Rattle.std.specs.List.{reduce}
use Rattle.tsdb_model.specs.Folds.{lesser_value, numbers}
use Rattle.tsdb_stats.specs.Steps.{as_value}
use Rattle.tsdb_stats.proofs.extreme.least_of.Given as goal

abbrev pub invariant-loop-point : goal.invariant-loop-point
invariant-loop-point l = option_map as_value l.least ≡ reduce lesser_value (numbers (take l.point-index l.points))
