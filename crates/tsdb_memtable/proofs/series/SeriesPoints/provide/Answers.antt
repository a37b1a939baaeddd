use Rattle.std.proofs.Common.{rules}
use Rattle.tsdb_memtable.proofs.series.SeriesPoints.provide.Goals as goal

pub returns-clause-spare : goal.returns-clause-spare
returns-clause-spare c = search rules
