use Rattle.std.proofs.Common.{◌≡◌, take}
use Rattle.std.specs.List.{flat_map}
use Rattle.tsdb_tasks.specs.Series.{input_path, schemas_at}
use Rattle.tsdb_tasks.specs.declared.series.InputSeries.{InputSeries}
use Rattle.tsdb_tasks.proofs.series.schemas_of.Given as goal

abbrev pub invariant-loop-one : goal.invariant-loop-one
invariant-loop-one l = l.schemas.items
    ≡ flat_map (λ (one : InputSeries). schemas_at l.memory.series (input_path one)) (take l.one-index l.series)
