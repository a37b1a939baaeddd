use Rattle.std.proofs.Common.{refl, ◌∙◌}
use Rattle.jobs_tests.proofs.Out.{handed_then, kept_then, same_core}
use Rattle.jobs_tests.proofs.course.first_other.Goals as goal

pub loop-place-init : goal.loop-place-init
loop-place-init g c = (same_core (g.F.Port.Port.store c.args.port.now) c.args.core.now, refl)

pub is_seen-requires-after_bounds : goal.is_seen-requires-after_bounds
is_seen-requires-after_bounds g c κs within = kept_then (g.F.Port.Port.store c.args.port.now) (g.F.Port.Port.store c.loop-place.port)
    c.args.core.now c.loop-place.core
    c.loop-place.invariant.1 c.loop-place.invariant.0 c.requires

pub loop-place-preserved : goal.loop-place-preserved
loop-place-preserved g c = (
  handed_then (g.F.Port.Port.store c.args.port.now) (g.F.Port.Port.store c.loop-place.port) c.args.core.now c.loop-place.core c.is_seen.new.core
      c.loop-place.invariant.1 c.loop-place.invariant.0 c.is_seen.ensures.hands,
  c.is_seen.ensures.same_store ∙ c.loop-place.invariant.1,
)

pub returns-then-not-branch-clause-hands : goal.returns-then-not-branch-clause-hands
returns-then-not-branch-clause-hands g c = handed_then (g.F.Port.Port.store c.args.port.now) (g.F.Port.Port.store c.loop-place.port)
    c.args.core.now c.loop-place.core
    c.is_seen.new.core c.loop-place.invariant.1 c.loop-place.invariant.0 c.is_seen.ensures.hands

pub returns-then-not-branch-clause-same_store : goal.returns-then-not-branch-clause-same_store
returns-then-not-branch-clause-same_store g c = c.is_seen.ensures.same_store ∙ c.loop-place.invariant.1

pub returns-in_err-is_seen-clause-hands : goal.returns-in_err-is_seen-clause-hands
returns-in_err-is_seen-clause-hands g c = handed_then (g.F.Port.Port.store c.args.port.now) (g.F.Port.Port.store c.loop-place.port)
    c.args.core.now c.loop-place.core
    c.is_seen.new.core c.loop-place.invariant.1 c.loop-place.invariant.0 c.is_seen.ensures.hands

pub returns-in_err-is_seen-clause-same_store : goal.returns-in_err-is_seen-clause-same_store
returns-in_err-is_seen-clause-same_store g c = c.is_seen.ensures.same_store ∙ c.loop-place.invariant.1

pub returns-clause-hands : goal.returns-clause-hands
returns-clause-hands g c = c.loop-place.invariant.0

pub returns-clause-same_store : goal.returns-clause-same_store
returns-clause-same_store g c = c.loop-place.invariant.1
