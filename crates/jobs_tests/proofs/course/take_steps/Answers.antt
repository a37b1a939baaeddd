use Rattle.std.proofs.Common.{refl, ◌∙◌}
use Rattle.jobs_tests.proofs.Out.{handed_then, kept_then, same_core}
use Rattle.jobs_tests.proofs.course.take_steps.Goals as goal

pub loop-place-init : goal.loop-place-init
loop-place-init g c = (same_core (g.F.Port.Port.store c.args.port.now) c.args.core.now, refl)

pub take_step-requires-after_bounds : goal.take_step-requires-after_bounds
take_step-requires-after_bounds g c κs within = kept_then (g.F.Port.Port.store c.args.port.now) (g.F.Port.Port.store c.loop-place.port)
    c.args.core.now c.loop-place.core
    c.loop-place.invariant.1 c.loop-place.invariant.0 c.requires

pub loop-place-preserved : goal.loop-place-preserved
loop-place-preserved g c = (
  handed_then (g.F.Port.Port.store c.args.port.now) (g.F.Port.Port.store c.loop-place.port) c.args.core.now c.loop-place.core c.take_step.new.core
      c.loop-place.invariant.1 c.loop-place.invariant.0 c.take_step.ensures.hands,
  c.take_step.ensures.same_store ∙ c.loop-place.invariant.1,
)

pub returns-then-not-take_step-clause-hands : goal.returns-then-not-take_step-clause-hands
returns-then-not-take_step-clause-hands g c = handed_then (g.F.Port.Port.store c.args.port.now) (g.F.Port.Port.store c.loop-place.port)
    c.args.core.now c.loop-place.core
    c.take_step.new.core c.loop-place.invariant.1 c.loop-place.invariant.0 c.take_step.ensures.hands

pub returns-then-not-take_step-clause-same_store : goal.returns-then-not-take_step-clause-same_store
returns-then-not-take_step-clause-same_store g c = c.take_step.ensures.same_store ∙ c.loop-place.invariant.1

pub returns-clause-hands : goal.returns-clause-hands
returns-clause-hands g c = c.loop-place.invariant.0

pub returns-clause-same_store : goal.returns-clause-same_store
returns-clause-same_store g c = c.loop-place.invariant.1
