use Rattle.tsdb_state.proofs.Freezing.{froze_in_order, froze_keeps}
use Rattle.tsdb_state.proofs.laws.freeze_keeps_order_and_world.Goals as goal

pub returns-clause-order : goal.returns-clause-order
returns-clause-order c = froze_in_order

pub returns-clause-world : goal.returns-clause-world
returns-clause-world c = froze_keeps
