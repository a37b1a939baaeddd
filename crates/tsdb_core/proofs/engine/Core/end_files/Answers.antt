use Rattle.std.proofs.Common.{rules}
use Rattle.tsdb_core.proofs.engine.Core.end_files.Goals as goal

pub returns-in-Err-clause-files : goal.returns-in-Err-clause-files
returns-in-Err-clause-files c = search rules

pub finish-requires-clause-runs : goal.finish-requires-clause-runs
finish-requires-clause-runs c = search rules

pub returns-in-Ok-clause-files : goal.returns-in-Ok-clause-files
returns-in-Ok-clause-files c = search rules
