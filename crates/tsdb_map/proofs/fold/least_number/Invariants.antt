use Rattle.std.proofs.Common.{◌≡◌, map}
use Rattle.std.specs.List.{reduce}
use Rattle.std.specs.Map.Iter.{deref_pair}
use Rattle.std.specs.Option.{option_copied}
use Rattle.tsdb_model.specs.Folds.{lesser_value, numbers}
use Rattle.tsdb_map.specs.Model.{points_of_entries}
use Rattle.tsdb_map.proofs.fold.least_number.Given as goal

abbrev pub invariant-loop-value : goal.invariant-loop-value
invariant-loop-value l = option_copied l.least ≡ reduce lesser_value (numbers (points_of_entries (map deref_pair l.yielded)))
