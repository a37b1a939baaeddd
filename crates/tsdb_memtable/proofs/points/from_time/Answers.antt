use Rattle.std.proofs.Common.{rules}
use Rattle.tsdb_memtable.proofs.points.from_time.Goals as goal

pub returns-clause-value : goal.returns-clause-value
returns-clause-value c = search rules
