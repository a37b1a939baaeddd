use Rattle.std.proofs.Common.{◌∙◌}
use Rattle.jobs_tests.proofs.Out.{handed_then, kept_then}
use Rattle.jobs_tests.proofs.course.follow.Goals as goal

pub see-requires-after_bounds : goal.see-requires-after_bounds
see-requires-after_bounds g c κs within = kept_then (g.F.Port.Port.store c.args.port.now) (g.F.Port.Port.store c.take_steps-done.new.port)
    c.args.core.now
    c.take_steps-done.new.core
    c.take_steps-done.ensures.same_store c.take_steps-done.ensures.hands c.requires

pub returns-in-Some-clause-hands : goal.returns-in-Some-clause-hands
returns-in-Some-clause-hands g c = handed_then (g.F.Port.Port.store c.args.port.now) (g.F.Port.Port.store c.take_steps-done.new.port)
    c.args.core.now
    c.take_steps-done.new.core c.see.new.core
    c.take_steps-done.ensures.same_store c.take_steps-done.ensures.hands c.see.ensures.hands

pub returns-in-Some-clause-same_store : goal.returns-in-Some-clause-same_store
returns-in-Some-clause-same_store g c = c.see.ensures.same_store ∙ c.take_steps-done.ensures.same_store

pub returns-in_default-clause-hands : goal.returns-in_default-clause-hands
returns-in_default-clause-hands g c = c.take_steps-done.ensures.hands
