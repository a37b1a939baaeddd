use Rattle.tsdb_state.proofs.Flushing.{flushed_in_order, flushed_keeps}
use Rattle.tsdb_state.proofs.laws.flush_keeps_order_and_world.Goals as goal

pub returns-clause-order : goal.returns-clause-order
returns-clause-order c = flushed_in_order

pub returns-clause-world : goal.returns-clause-world
returns-clause-world c = flushed_keeps
