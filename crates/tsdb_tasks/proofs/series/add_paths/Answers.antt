use Rattle.std.proofs.Common.{List, map, subst, sym, take, ◌+◌, ◌++◌}
use Rattle.tsdb_tasks.proofs.Gathering.{none_added, path_added}
use Rattle.tsdb_tasks.specs.Series.{AreOfPaths, input_path}
use Rattle.tsdb_tasks.specs.declared.series.InputSeries.{InputSeries}
use Rattle.tsdb_tasks.proofs.series.add_paths.Goals as goal

pub loop-path-init : goal.loop-path-init
loop-path-init c = none_added _ c.requires

pub loop-path-preserved : goal.loop-path-preserved
loop-path-preserved c =
    let before = map input_path c.args.all.now.items in
    subst (λ (items : List InputSeries). AreOfPaths (before ++ take (c.loop-path.path-index + 1) c.args.paths.now) items)
    (sym c.in_ok-push.ensures.items) (path_added before c.args.paths.now c.loop-path.path-index _ c.loop-path.all.items _
    c.loop-path-test.true c.loop-path.invariant c.path-item.is (record {
      device = c.names_in_tree.ensures.device_of_series;
      measurement = c.names_in_tree.ensures.measurement_of_series;
      joined = c.names_in_tree.ensures.joined;
    }))
