use Rattle.std.proofs.lemmas.Grind.{common_steps}
use Rattle.std.proofs.Common.{◌<◌, ◌≤◌, ⊎_elim, List, subst, sym, arith, get_or}
use Rattle.std.proofs.lemmas.Bool.{cases_lt}
use Rattle.std.proofs.lemmas.List.{get_or_default}
use Rattle.tsdb_marks.specs.declared.run.Step.{Step}
use Rattle.tsdb_marks.specs.Steps.{IsMet, AreStepsRising, IsUnmet, version_at}
use Rattle.tsdb_marks.proofs.StepLemmas.{met_first, met_step, unmet_steps, beyond}
use Rattle.tsdb_marks.proofs.run.Run.meets.Goals as goal

pub returns-then-version_before-born-clause-met : goal.returns-then-version_before-born-clause-met
returns-then-version_before-born-clause-met c = λ yes.
    let P : List Step → Type 0 = λ xs. IsMet (version_at xs) c.args.from c.args.to c.args.born in
    subst P c.as_slice-steps.ensures.value
    (met_first c.as_slice-steps.result.now c.args.from c.args.to c.args.born c.count_until-first.result c.version_before.result c.count_until-first.ensures c.version_before.ensures.none c.version_before.ensures.last c.requires.range c.if-version_before-born.true)

pub returns-then-steps-at-2-clause-met : goal.returns-then-steps-at-2-clause-met
returns-then-steps-at-2-clause-met c = λ yes.
    let steps = c.as_slice-steps.result.now in
    let P : List Step → Type 0 = λ xs. IsMet (version_at xs) c.args.from c.args.to c.args.born in
    let rising : AreStepsRising steps = subst AreStepsRising (sym c.as_slice-steps.ensures.value) c.requires.run.rising in
    let d : Step = record { start = 0; version = 0 } in
    let s : Step = get_or steps c.loop-at.at d in
    subst P c.as_slice-steps.ensures.value
    (met_step steps c.args.from c.args.to c.args.born c.count_until-first.result c.loop-at.at s rising c.count_until-first.ensures c.loop-at.invariant.low c.loop-at-test.true
    (get_or_default steps c.loop-at.at d s c.loop-at-test.true) c.if-steps-at.true c.if-steps-at-2.true)

pub returns-else-steps-at-clause-unmet : goal.returns-else-steps-at-clause-unmet
returns-else-steps-at-clause-unmet c = λ none.
    let steps = c.as_slice-steps.result.now in
    let P : List Step → Type 0 = λ xs. IsUnmet (version_at xs) c.args.from c.args.to c.args.born in
    let rising : AreStepsRising steps = subst AreStepsRising (sym c.as_slice-steps.ensures.value) c.requires.run.rising in
    subst P c.as_slice-steps.ensures.value
    (unmet_steps steps c.args.from c.args.to c.args.born c.count_until-first.result c.count_until-first.ensures
    (λ k d e. let v = c.version_before.ensures.last k d e in omega (arith, v, c.if-version_before-born.false))
    (λ k d low within starts. ⊎_elim (λ (lt : k < c.loop-at.at). c.loop-at.invariant.old k d low lt)
    (λ (ge : c.loop-at.at ≤ k). absurd (let far = beyond steps c.args.to c.loop-at.at k _ d rising c.loop-at-test.true c.if-steps-at.false ge within in omega (arith, far, starts))) (cases_lt k c.loop-at.at)))

pub returns-after-loop-at-clause-unmet : goal.returns-after-loop-at-clause-unmet
returns-after-loop-at-clause-unmet c = λ none.
    let steps = c.as_slice-steps.result.now in
    let P : List Step → Type 0 = λ xs. IsUnmet (version_at xs) c.args.from c.args.to c.args.born in
    subst P c.as_slice-steps.ensures.value
    (unmet_steps steps c.args.from c.args.to c.args.born c.count_until-first.result c.count_until-first.ensures
    (λ k d e. let v = c.version_before.ensures.last k d e in omega (arith, v, c.if-version_before-born.false))
    (λ k d low within starts. c.loop-at.invariant.old k d low (omega (arith, within, c.loop-at-test.false))))

pub loop-at-preserved : goal.loop-at-preserved
loop-at-preserved c = grind (arith, common_steps)
