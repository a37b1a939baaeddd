use Rattle.std.proofs.Common.{◌∙◌}
use Rattle.jobs_tests.proofs.Out.{kept_then, kept_twice, thrice}
use Rattle.jobs_tests.proofs.course.take_course.Goals as goal

pub take_steps-done-requires-after_bounds : goal.take_steps-done-requires-after_bounds
take_steps-done-requires-after_bounds g c κs within = kept_then (g.F.Port.Port.store c.args.port.now)
    (g.F.Port.Port.store c.compact_course-compacted.new.port) c.args.core.now
    c.compact_course-compacted.new.core c.compact_course-compacted.ensures.same_store c.compact_course-compacted.ensures.hands
    c.requires

pub sweep-swept-requires-after_bounds : goal.sweep-swept-requires-after_bounds
sweep-swept-requires-after_bounds g c κs within = kept_twice (g.F.Port.Port.store c.args.port.now)
    (g.F.Port.Port.store c.compact_course-compacted.new.port)
    (g.F.Port.Port.store c.take_steps-done.new.port) c.args.core.now c.compact_course-compacted.new.core c.take_steps-done.new.core
    c.compact_course-compacted.ensures.same_store c.take_steps-done.ensures.same_store c.compact_course-compacted.ensures.hands
    c.take_steps-done.ensures.hands c.requires

pub returns-in-Some-clause-hands : goal.returns-in-Some-clause-hands
returns-in-Some-clause-hands g c = thrice (g.F.Port.Port.store c.args.port.now) (g.F.Port.Port.store c.compact_course-compacted.new.port)
    (g.F.Port.Port.store c.take_steps-done.new.port) c.args.core.now c.compact_course-compacted.new.core c.take_steps-done.new.core
    c.sweep-swept.new.core
    c.compact_course-compacted.ensures.same_store c.take_steps-done.ensures.same_store c.compact_course-compacted.ensures.hands
    c.take_steps-done.ensures.hands
    c.sweep-swept.ensures.hands

pub returns-in-Some-clause-same_store : goal.returns-in-Some-clause-same_store
returns-in-Some-clause-same_store g c = c.sweep-swept.ensures.same_store ∙ c.take_steps-done.ensures.same_store ∙
    c.compact_course-compacted.ensures.same_store

pub returns-in_default-clause-hands : goal.returns-in_default-clause-hands
returns-in_default-clause-hands g c = thrice (g.F.Port.Port.store c.args.port.now) (g.F.Port.Port.store c.compact_course-compacted.new.port)
    (g.F.Port.Port.store c.take_steps-done.new.port) c.args.core.now c.compact_course-compacted.new.core c.take_steps-done.new.core
    c.sweep-swept.new.core
    c.compact_course-compacted.ensures.same_store c.take_steps-done.ensures.same_store c.compact_course-compacted.ensures.hands
    c.take_steps-done.ensures.hands
    c.sweep-swept.ensures.hands

pub returns-in_default-2-clause-hands : goal.returns-in_default-2-clause-hands
returns-in_default-2-clause-hands g c = thrice (g.F.Port.Port.store c.args.port.now) (g.F.Port.Port.store c.compact_course-compacted.new.port)
    (g.F.Port.Port.store c.take_steps-done.new.port) c.args.core.now c.compact_course-compacted.new.core c.take_steps-done.new.core
    c.sweep-swept.new.core
    c.compact_course-compacted.ensures.same_store c.take_steps-done.ensures.same_store c.compact_course-compacted.ensures.hands
    c.take_steps-done.ensures.hands
    c.sweep-swept.ensures.hands

pub returns-in_default-clause-same_store : goal.returns-in_default-clause-same_store
returns-in_default-clause-same_store g c = c.sweep-swept.ensures.same_store ∙ c.take_steps-done.ensures.same_store ∙
    c.compact_course-compacted.ensures.same_store

pub returns-in_default-2-clause-same_store : goal.returns-in_default-2-clause-same_store
returns-in_default-2-clause-same_store g c = c.sweep-swept.ensures.same_store ∙ c.take_steps-done.ensures.same_store ∙
    c.compact_course-compacted.ensures.same_store
