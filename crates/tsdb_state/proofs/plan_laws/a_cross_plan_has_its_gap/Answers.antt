use Rattle.std.proofs.Common.{◌≡◌}
use Rattle.tsdb_base.specs.declared.ids.Space.TheVariants.{Sequence}
use Rattle.tsdb_base.proofs.Lists.{each_weaker}
use Rattle.tsdb_state.specs.State.{Compaction}
use Rattle.tsdb_state.proofs.Plans.{apart_of_free, cross_free, cross_gap}
use Rattle.tsdb_state.proofs.plan_laws.a_cross_plan_has_its_gap.Goals as goal

pub returns-clause-stands : goal.returns-clause-stands
returns-clause-stands c told known early_claimed late_claimed sequence unsequence run job match =
    cross_gap told known early_claimed late_claimed sequence unsequence match run job

pub returns-clause-apart : goal.returns-clause-apart
returns-clause-apart c known early_claimed late_claimed sequence unsequence run job jobs plan is claims free =
    apart_of_free late_claimed jobs job claims (cross_free known early_claimed late_claimed sequence unsequence run job
    plan is) (each_weaker (λ (other : Compaction). other.space ≡ Sequence → ⊥)
    (λ other. job.space ≡ Sequence → other.space ≡ Sequence → ⊥) (λ other never mine. never) jobs free)
