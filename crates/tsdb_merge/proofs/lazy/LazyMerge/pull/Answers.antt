use Rattle.std.proofs.Common.{rules}
use Rattle.tsdb_merge.proofs.lazy.LazyMerge.pull.Goals as goal

pub returns-in_default-root-clause-cause : goal.returns-in_default-root-clause-cause
returns-in_default-root-clause-cause c = search rules

pub returns-in-Some-clause-again : goal.returns-in-Some-clause-again
returns-in-Some-clause-again c = search rules

pub returns-in-Some-clause-next : goal.returns-in-Some-clause-next
returns-in-Some-clause-next c = search rules

pub returns-in-Some-clause-working : goal.returns-in-Some-clause-working
returns-in-Some-clause-working c = search rules
