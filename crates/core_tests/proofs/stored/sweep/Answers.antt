use Rattle.std.proofs.Common.{[]}
use Rattle.core_tests.proofs.Ready.{of_new_port, swept_ready}
use Rattle.core_tests.proofs.stored.sweep.Goals as goal

pub returns-clause-ready : goal.returns-clause-ready
returns-clause-ready g c = of_new_port c.sweep.new.self (g.F.Port.Port.store c.args.port.now)
    (g.F.Port.Port.store c.sweep.new.port) [] c.sweep.ensures.same_store
    (swept_ready c.args.core.now c.sweep.new.self c.sweep.result c.sweep.ensures.swept
    (g.F.Port.Port.store c.args.port.now) [] c.requires.ready)
