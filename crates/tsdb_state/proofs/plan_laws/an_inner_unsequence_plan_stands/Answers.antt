use Rattle.std.proofs.Common.{◌≡◌, ◌∙◌, sym}
use Rattle.tsdb_base.specs.declared.ids.Space.TheVariants.{Sequence}
use Rattle.tsdb_base.proofs.Lists.{each_all}
use Rattle.tsdb_state.proofs.Plans.{apart_of_free, inner_free, inner_unsequence, other_space}
use Rattle.tsdb_state.specs.State.{Compaction}
use Rattle.tsdb_state.proofs.plan_laws.an_inner_unsequence_plan_stands.Goals as goal

pub returns-clause-stands : goal.returns-clause-stands
returns-clause-stands c told known claimed sequence unsequence run job =
    inner_unsequence known claimed unsequence run job

pub returns-clause-apart : goal.returns-clause-apart
returns-clause-apart c known claimed unsequence run job jobs plan is claims =
    apart_of_free claimed jobs job claims (inner_free known claimed unsequence run job plan is)
    (each_all (λ (other : Compaction). job.space ≡ Sequence → other.space ≡ Sequence → ⊥)
    (λ other mine. absurd (other_space (sym is.space ∙ mine))) jobs)
