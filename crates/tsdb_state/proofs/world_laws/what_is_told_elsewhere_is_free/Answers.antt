use Rattle.tsdb_state.proofs.Told.{order_same, value_same}
use Rattle.tsdb_state.proofs.world_laws.what_is_told_elsewhere_is_free.Goals as goal

pub returns-clause-order : goal.returns-clause-order
returns-clause-order c = order_same

pub returns-clause-values : goal.returns-clause-values
returns-clause-values c told other state place sequence unsequence =
    value_same told other state sequence unsequence place
