use Rattle.std.proofs.Common.{refl}
use Rattle.tsdb_state.proofs.step_laws.other_steps_leave_the_store.Goals as goal

pub returns-clause-flush : goal.returns-clause-flush
returns-clause-flush c flush others built state = (refl, refl)

pub returns-clause-compaction : goal.returns-clause-compaction
returns-clause-compaction c job others built state = (refl, refl)

pub returns-clause-pin : goal.returns-clause-pin
returns-clause-pin c pin others state = (refl, refl)

pub returns-clause-sweep : goal.returns-clause-sweep
returns-clause-sweep c numbers state = refl

pub returns-clause-doubt : goal.returns-clause-doubt
returns-clause-doubt c item state = (refl, refl)
