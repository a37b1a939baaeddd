use Rattle.std.proofs.Common.{◌≡◌}
use Rattle.jobs_tests.specs.Out.{IsHandedOn}
use Rattle.jobs_tests.proofs.course.take_steps.Given as goal

abbrev pub invariant-loop-place : goal.invariant-loop-place
invariant-loop-place g l = IsHandedOn (g.F.Port.Port.store l.initial.port) l.initial.core l.core
    × (g.F.Port.Port.store l.port ≡ g.F.Port.Port.store l.initial.port)
