use Rattle.std.proofs.Common.{◌++◌, map, take}
use Rattle.tsdb_tasks.specs.Series.{AreOfPaths, input_path}
use Rattle.tsdb_tasks.proofs.series.add_paths.Given as goal

abbrev pub invariant-loop-path : goal.invariant-loop-path
invariant-loop-path l = AreOfPaths (map input_path l.initial.all.items ++ take l.path-index l.paths) l.all.items
