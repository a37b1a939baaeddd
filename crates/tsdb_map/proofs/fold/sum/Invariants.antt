use Rattle.std.proofs.Common.{◌≡◌, map}
use Rattle.std.specs.Map.Iter.{deref_pair}
use Rattle.tsdb_model.specs.Folds.{sum_of}
use Rattle.tsdb_map.specs.Model.{points_of_entries}
use Rattle.tsdb_map.proofs.fold.sum.Given as goal

abbrev pub invariant-loop-value : goal.invariant-loop-value
invariant-loop-value l = l.sum ≡ sum_of (points_of_entries (map deref_pair l.yielded))
