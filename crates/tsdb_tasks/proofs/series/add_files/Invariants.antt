use Rattle.std.proofs.Common.{◌++◌, map, take}
use Rattle.std.specs.List.{flat_map}
use Rattle.tsdb_plan.specs.declared.entry.FileEntry.{FileEntry}
use Rattle.tsdb_tasks.specs.Series.{AreOfPaths, input_path, series_in}
use Rattle.tsdb_tasks.proofs.series.add_files.Given as goal

abbrev pub invariant-loop-entry : goal.invariant-loop-entry
invariant-loop-entry g l = AreOfPaths (map input_path l.initial.all.items
    ++ flat_map (λ (entry : FileEntry). series_in l.files entry.number.0) (take l.entry-index l.entries)) l.all.items
