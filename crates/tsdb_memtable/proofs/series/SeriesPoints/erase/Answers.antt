use Rattle.std.proofs.Common.{rules}
use Rattle.tsdb_memtable.proofs.series.SeriesPoints.erase.Goals as goal

pub returns-clause-value : goal.returns-clause-value
returns-clause-value c = search rules
