use Rattle.std.proofs.Common.{subst, sym}
use Rattle.std.specs.Prelude.{IfNone, IfSome}
use Rattle.tsdb_base.specs.declared.ids.Space.{Space}
use Rattle.tsdb_tasks.specs.declared.finishing.InputRuns.{InputRuns}
use Rattle.tsdb_core.specs.Beginnings.{IsInnerRuns}
use Rattle.tsdb_core.proofs.engine.Core.inner_runs.Goals as goal

pub returns-in-Sequence-clause-found : goal.returns-in-Sequence-clause-found
returns-in-Sequence-clause-found g c =
    subst (λ (s : Space). IfSome c.inner_sequence.result (IsInnerRuns s c.args.self.now)) (sym c.in-Sequence.is)
    c.inner_sequence.ensures.found

pub returns-in-Sequence-clause-none : goal.returns-in-Sequence-clause-none
returns-in-Sequence-clause-none g c =
    subst (λ (s : Space). IfNone c.inner_sequence.result ((runs : InputRuns) → ¬ IsInnerRuns s c.args.self.now runs))
    (sym c.in-Sequence.is) c.inner_sequence.ensures.none

pub returns-in-Unsequence-clause-found : goal.returns-in-Unsequence-clause-found
returns-in-Unsequence-clause-found g c =
    subst (λ (s : Space). IfSome c.inner_unsequence.result (IsInnerRuns s c.args.self.now)) (sym c.in-Unsequence.is)
    c.inner_unsequence.ensures.found

pub returns-in-Unsequence-clause-none : goal.returns-in-Unsequence-clause-none
returns-in-Unsequence-clause-none g c =
    subst (λ (s : Space). IfNone c.inner_unsequence.result ((runs : InputRuns) → ¬ IsInnerRuns s c.args.self.now runs))
    (sym c.in-Unsequence.is) c.inner_unsequence.ensures.none
