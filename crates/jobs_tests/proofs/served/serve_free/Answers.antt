use Rattle.jobs_tests.proofs.Ready.{free_ready, ready_free}
use Rattle.tsdb_core.specs.Out.{nothing_out}
use Rattle.jobs_tests.proofs.served.serve_free.Goals as goal

pub serve-requires-clause-ready : goal.serve-requires-clause-ready
serve-requires-clause-ready g c = λ lifetimes lives. (
  nothing_out,
  free_ready (g.F.Port.Port.store c.args.port.now) c.args.core.now c.requires.free,
)

pub returns-clause-free : goal.returns-clause-free
returns-clause-free g c = ready_free (g.F.Port.Port.store c.args.port.now) c.serve.new.core
    (c.serve.ensures.serves.keeps_all nothing_out
    (free_ready (g.F.Port.Port.store c.args.port.now) c.args.core.now c.requires.free))

pub returns-clause-same_store : goal.returns-clause-same_store
returns-clause-same_store g c = c.serve.ensures.serves.same_store
