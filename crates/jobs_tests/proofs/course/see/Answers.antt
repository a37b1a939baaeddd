use Rattle.std.proofs.Common.{◌∙◌}
use Rattle.jobs_tests.proofs.Out.{kept_then, kept_twice, thrice}
use Rattle.jobs_tests.proofs.course.see.Goals as goal

pub sweep-swept-requires-after_bounds : goal.sweep-swept-requires-after_bounds
sweep-swept-requires-after_bounds g c κs within = kept_then (g.F.Port.Port.store c.args.port.now)
    (g.F.Port.Port.store c.lead_pinned-first.new.port) c.args.core.now
    c.lead_pinned-first.new.core c.lead_pinned-first.ensures.same_store c.lead_pinned-first.ensures.hands
    c.requires

pub look-rows-requires-after_bounds : goal.look-rows-requires-after_bounds
look-rows-requires-after_bounds g c κs within = kept_twice (g.F.Port.Port.store c.args.port.now)
    (g.F.Port.Port.store c.lead_pinned-first.new.port)
    (g.F.Port.Port.store c.sweep-swept.new.port) c.args.core.now c.lead_pinned-first.new.core c.sweep-swept.new.core
    c.lead_pinned-first.ensures.same_store c.sweep-swept.ensures.same_store c.lead_pinned-first.ensures.hands c.sweep-swept.ensures.hands
    c.requires

pub returns-clause-hands : goal.returns-clause-hands
returns-clause-hands g c = thrice (g.F.Port.Port.store c.args.port.now) (g.F.Port.Port.store c.lead_pinned-first.new.port)
    (g.F.Port.Port.store c.sweep-swept.new.port) c.args.core.now c.lead_pinned-first.new.core c.sweep-swept.new.core c.look-rows.new.core
    c.lead_pinned-first.ensures.same_store c.sweep-swept.ensures.same_store c.lead_pinned-first.ensures.hands c.sweep-swept.ensures.hands
    c.look-rows.ensures.hands

pub returns-clause-same_store : goal.returns-clause-same_store
returns-clause-same_store g c = c.look-rows.ensures.same_store ∙ c.sweep-swept.ensures.same_store ∙ c.lead_pinned-first.ensures.same_store
