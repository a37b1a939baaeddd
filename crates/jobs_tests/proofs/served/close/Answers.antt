use Rattle.std.proofs.Common.{subst, sym}
use Rattle.jobs_tests.proofs.Ready.{free_ready}
use Rattle.tsdb_serving.specs.Flushing.{IsReady}
use Rattle.jobs_tests.proofs.served.close.Goals as goal

pub close-journal-requires-clause-ready : goal.close-journal-requires-clause-ready
close-journal-requires-clause-ready c κs = subst (λ store. IsReady store c.args.served.core) (sym c.args.served.same)
    (free_ready _ c.args.served.core c.args.served.free)
