use Rattle.tsdb_state.proofs.Committing.{committed_in_order, committed_keeps}
use Rattle.tsdb_state.proofs.laws.compaction_keeps_order_and_world.Goals as goal

pub returns-clause-order : goal.returns-clause-order
returns-clause-order c told state job output place order marked gives some file kind stands at =
    committed_in_order told state job output place order marked gives some file kind stands at

pub returns-clause-world : goal.returns-clause-world
returns-clause-world c told state job output place order marked gives some file kind stands at =
    committed_keeps told state job output place order marked gives some file kind stands at
