use Rattle.std.proofs.Common.{◌≡◌, ◌+◌, None, Option, Some, subst, sym, refl, arith, ltb-true, ltb-false}
use Rattle.std.specs.Prelude.{slice_get}
use Rattle.std.specs.Option.{option_map}
use Rattle.std.proofs.lemmas.Option.{slice_get_past, slice_get_read}
use Rattle.tsdb_marks.specs.declared.run.Step.{Step}
use Rattle.tsdb_marks.specs.Cursors.{IsFrom}
use Rattle.tsdb_marks.proofs.MergeLemmas.{goes_nowhere, goes_on}
use Rattle.tsdb_marks.proofs.run.Cursor.go_to.Goals as goal

pub returns-then-step-moment : goal.returns-then-step-moment
returns-then-step-moment c = λ bound read le from.
    let is : slice_get c.args.self.now.steps.now c.args.self.now.read ≡ Some c.in-Some.step.now =
    slice_get_read _ _ _ _ refl (ltb-true _ _ (sym c.in-Some.ensures.lookup.0)) c.in-Some.ensures.lookup.1 in
    goes_on c.args.self.now c.in-Some.step.now bound c.args.moment read le from is c.if-step-moment.true

pub returns-else-step-moment : goal.returns-else-step-moment
returns-else-step-moment c = λ bound read le from.
    let is : slice_get c.args.self.now.steps.now c.args.self.now.read ≡ Some c.in-Some.step.now =
    slice_get_read _ _ _ _ refl (ltb-true _ _ (sym c.in-Some.ensures.lookup.0)) c.in-Some.ensures.lookup.1 in
    let P : Option Step → Type 0 = λ o. IsFrom (c.args.moment + 1) (option_map (λ (s : Step). s.start) o) in
    goes_nowhere c.args.self.now bound c.args.moment read le (subst P (sym is) (omega (arith, c.if-step-moment.false)))

pub returns-in_default : goal.returns-in_default
returns-in_default c = λ bound read le from.
    let is : slice_get c.args.self.now.steps.now c.args.self.now.read ≡ None =
    slice_get_past _ _ (ltb-false _ _ (sym c.in_default.ensures.lookup.0)) in
    let P : Option Step → Type 0 = λ o. IsFrom (c.args.moment + 1) (option_map (λ (s : Step). s.start) o) in
    goes_nowhere c.args.self.now bound c.args.moment read le (subst P (sym is) tt)
