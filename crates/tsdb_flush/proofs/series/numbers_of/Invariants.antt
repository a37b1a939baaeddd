use Rattle.std.proofs.Common.{◌≡◌, map, take}
use Rattle.tsdb_flush.specs.declared.series.PairSeries.{PairSeries}
use Rattle.tsdb_flush.proofs.series.numbers_of.Given as goal

abbrev pub invariant-loop-one : goal.invariant-loop-one
invariant-loop-one l = l.numbers.items ≡ map (λ (one : PairSeries). one.id) (take l.one-index l.series)
