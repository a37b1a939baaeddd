use Rattle.tsdb_core.proofs.Out.{swept_handed}
use Rattle.jobs_tests.proofs.calls.sweep.Goals as goal

pub sweep-requires-clause-store : goal.sweep-requires-clause-store
sweep-requires-clause-store g c = λ lifetimes lives. c.requires.1.of_store

pub returns-clause-hands : goal.returns-clause-hands
returns-clause-hands g c = swept_handed c.args.core.now c.sweep.new.self c.sweep.result c.sweep.ensures.swept
    (g.F.Port.Port.store c.args.port.now)
