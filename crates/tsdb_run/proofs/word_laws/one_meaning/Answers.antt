use Rattle.tsdb_run.proofs.OneReading.{one_asked, within_limits}
use Rattle.tsdb_run.proofs.word_laws.one_meaning.Goals as goal

pub returns-clause-one : goal.returns-clause-one
returns-clause-one c = one_asked

pub returns-clause-limits : goal.returns-clause-limits
returns-clause-limits c = within_limits
