use Rattle.std.proofs.Common.{◌≡◌, false, subst, sym}
use Rattle.std.specs.List.{AllByRecursion as Each}
use Rattle.tsdb_base.specs.declared.ids.Space.TheVariants.{Sequence}
use Rattle.tsdb_base.proofs.Lists.{each_weaker}
use Rattle.tsdb_state.specs.State.{Compaction}
use Rattle.tsdb_state.proofs.Plans.{apart_of_free, inner_sequence}
use Rattle.tsdb_state.proofs.plan_laws.an_inner_sequence_plan_stands.Goals as goal

pub returns-clause-stands : goal.returns-clause-stands
returns-clause-stands c told known claimed sequence unsequence run job =
    inner_sequence told known claimed sequence unsequence run job

pub returns-clause-apart : goal.returns-clause-apart
returns-clause-apart c claimed sequence run job jobs is claims free =
    apart_of_free claimed jobs job claims (subst (Each (λ file. claimed file ≡ false)) (sym is.no_late) tt)
    (each_weaker (λ (other : Compaction). other.space ≡ Sequence → ⊥)
    (λ other. job.space ≡ Sequence → other.space ≡ Sequence → ⊥) (λ other never mine. never) jobs free)
