use Rattle.tsdb_querying.specs.Out.{nothing_out}
use Rattle.use_core.proofs.writing.put.Goals as goal

pub insert-requires-clause-ready : goal.insert-requires-clause-ready
insert-requires-clause-ready g c = λ lifetimes lives. (nothing_out, c.requires.ready)

pub returns-clause-ready : goal.returns-clause-ready
returns-clause-ready g c = c.insert.ensures.serves.keeps_all nothing_out c.requires.ready

pub returns-clause-same_store : goal.returns-clause-same_store
returns-clause-same_store g c = c.insert.ensures.serves.same_store
