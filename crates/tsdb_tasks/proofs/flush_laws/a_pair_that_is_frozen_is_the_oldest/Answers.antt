use Rattle.tsdb_tasks.proofs.Committing.{due_is_oldest, frozen_is_oldest}
use Rattle.tsdb_tasks.proofs.flush_laws.a_pair_that_is_frozen_is_the_oldest.Goals as goal

pub returns-clause-frozen : goal.returns-clause-frozen
returns-clause-frozen c = frozen_is_oldest

pub returns-clause-due : goal.returns-clause-due
returns-clause-due c = due_is_oldest
