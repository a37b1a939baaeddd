use Rattle.std.proofs.Common.{[], map, subst, sym, take, ◌+◌, ◌++◌}
use Rattle.std.specs.Global.{Vec as Items}
use Rattle.std.specs.List.{flat_map}
use Rattle.tsdb_tasks.proofs.Gathering.{file_added, no_series, none_added, series_found}
use Rattle.tsdb_tasks.specs.Series.{AreOfPaths, input_path, series_in}
use Rattle.tsdb_tasks.specs.declared.series.InputSeries.{InputSeries}
use Rattle.tsdb_plan.specs.declared.entry.FileEntry.{FileEntry}
use Rattle.tsdb_tasks.proofs.series.add_files.Goals.{in-Some+in_ok-add_paths, in_default}
use Rattle.tsdb_tasks.proofs.series.add_files.Goals as goal

pub loop-entry-init : goal.loop-entry-init
loop-entry-init g c = none_added _ c.requires

pub loop-entry-preserved : goal.loop-entry-preserved
loop-entry-preserved g c =
    let files = c.args.files.now in
    let before = map input_path c.args.all.now.items in
    let i = c.loop-entry.entry-index in
    let entry = c.entry-item.result in
    elim c.match-series.branch [
      | in-Some+in_ok-add_paths w ↦
          subst (λ (v : Items InputSeries). AreOfPaths (before
          ++ flat_map (λ (e : FileEntry). series_in files e.number.0) (take (i + 1) c.args.entries.now)) v.items)
          (sym w.all-is) (file_added (λ (e : FileEntry). series_in files e.number.0) before c.args.entries.now i entry _
          c.loop-entry.all.items _ c.loop-entry-test.true c.loop-entry.invariant c.entry-item.is
          (series_found (λ paths. paths.now) files entry.number.0 _ _ c.series.ensures w.in-Some.is)
          w.in_ok-add_paths.ensures)
      | in_default w ↦
          subst (λ (v : Items InputSeries). AreOfPaths (before
          ++ flat_map (λ (e : FileEntry). series_in files e.number.0) (take (i + 1) c.args.entries.now)) v.items)
          (sym w.all-is) (file_added (λ (e : FileEntry). series_in files e.number.0) before c.args.entries.now i entry []
          c.loop-entry.all.items _ c.loop-entry-test.true c.loop-entry.invariant c.entry-item.is
          (no_series (λ paths. paths.now) files entry.number.0 _ c.series.ensures w.in_default.is)
          (none_added c.loop-entry.all.items c.loop-entry.invariant.named))
    ]
