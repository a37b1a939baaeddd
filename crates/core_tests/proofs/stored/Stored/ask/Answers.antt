use Rattle.std.proofs.Common.{[]}
use Rattle.core_tests.proofs.stored.Stored.ask.Goals as goal

pub invariant_of-self-clause-ready : goal.invariant_of-self-clause-ready
invariant_of-self-clause-ready g c = c.ask.ensures (g.F.Port.Port.store c.args.self.now.port) [] c.args.self.now.ready
