use Rattle.std.proofs.Common.{◌≡◌, ◌++◌, map}
use Rattle.tsdb_memtable.specs.Pairs.{table}
use Rattle.tsdb_memtable.proofs.pair.Pair.series.Given as goal

abbrev pub invariant-loop-series : goal.invariant-loop-series
invariant-loop-series l = map (λ id. id.0) l.all.items ++ map (λ entry. entry.0) (table l.space l.series-iterator) ≡ map (λ entry. entry.0) (table l.space l.self)
