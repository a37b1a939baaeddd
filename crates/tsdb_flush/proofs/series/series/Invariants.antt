use Rattle.std.proofs.Common.{◌≡◌, map, take}
use Rattle.std.specs.List.{AllByRecursion as Each}
use Rattle.tsdb_flush.specs.TakingSteps.{IsSeriesOf}
use Rattle.tsdb_flush.specs.declared.series.PairSeries.{PairSeries}
use Rattle.tsdb_flush.proofs.series.series.Given as goal

abbrev pub invariant-loop-id : goal.invariant-loop-id
invariant-loop-id l = (map (λ (one : PairSeries). one.id) l.all.items ≡ take l.id-index l.id-items) × Each (IsSeriesOf l.memory.series l.pair) l.all.items
