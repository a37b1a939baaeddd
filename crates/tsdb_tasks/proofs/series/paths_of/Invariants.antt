use Rattle.std.proofs.Common.{◌≡◌, map, take}
use Rattle.tsdb_tasks.specs.Series.{input_path}
use Rattle.tsdb_tasks.proofs.series.paths_of.Given as goal

abbrev pub invariant-loop-one : goal.invariant-loop-one
invariant-loop-one l = l.paths.items ≡ map input_path (take l.one-index l.series)
