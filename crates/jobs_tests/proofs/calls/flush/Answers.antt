use Rattle.std.proofs.Common.{refl}
use Rattle.jobs_tests.proofs.Out.{handed_then, none_taken, kept_then, some_taken, taken_has, takes_and_ends}
use Rattle.jobs_tests.proofs.calls.flush.Goals as goal

pub run-requires-after_bounds : goal.run-requires-after_bounds
run-requires-after_bounds g c κs within = taken_has (g.F.Port.Port.store c.args.port.now) c.freeze.new.core c.take.new.core c.in-Some.job
    (some_taken c.freeze.new.core c.take.new.core c.take.result c.in-Some.job c.in-Some.is c.take.ensures)
    (kept_then (g.F.Port.Port.store c.args.port.now) (g.F.Port.Port.store c.args.port.now) c.args.core.now c.freeze.new.core refl
    (c.freeze.ensures (g.F.Port.Port.store c.args.port.now)) c.requires)

pub returns-in-Some-clause-hands : goal.returns-in-Some-clause-hands
returns-in-Some-clause-hands g c = handed_then (g.F.Port.Port.store c.args.port.now) (g.F.Port.Port.store c.args.port.now) c.args.core.now
    c.freeze.new.core c.run.new.core refl
    (c.freeze.ensures (g.F.Port.Port.store c.args.port.now)) (takes_and_ends (g.F.Port.Port.store c.args.port.now) c.freeze.new.core
    c.take.new.core c.run.new.core c.in-Some.job
    (some_taken c.freeze.new.core c.take.new.core c.take.result c.in-Some.job c.in-Some.is c.take.ensures)
    c.run.ensures.hands)

pub returns-in-None-clause-hands : goal.returns-in-None-clause-hands
returns-in-None-clause-hands g c = handed_then (g.F.Port.Port.store c.args.port.now) (g.F.Port.Port.store c.args.port.now) c.args.core.now
    c.freeze.new.core c.take.new.core refl
    (c.freeze.ensures (g.F.Port.Port.store c.args.port.now))
    (none_taken c.freeze.new.core c.take.new.core c.take.result c.in-None.is c.take.ensures (g.F.Port.Port.store c.args.port.now))
