use Rattle.std.proofs.Common.{◌≡◌, ap, sym, subst, ◌∙◌, rules, arith, List}
use Rattle.std.specs.Prelude.{FitsSigned}
use Rattle.std.specs.Int.{w64}
use Rattle.std.specs.Cmp.Lexicographic.{bytes_decides}
use Rattle.std.proofs.lemmas.Bool.{false≢true}
use Rattle.std.proofs.lemmas.Int.{to_z-of_z}
use Rattle.std.proofs.lemmas.List.{take_all}
use Rattle.tsdb_marks.specs.declared.marks.Mark.{Mark}
use Rattle.tsdb_marks.specs.Model.{IsUncovered}
use Rattle.tsdb_marks.specs.Moments.{moment}
use Rattle.tsdb_marks.proofs.ModelLemmas.{covered_mark, uncovered_push}
use Rattle.tsdb_marks.proofs.marks.some_covers.Goals as goal
use Rattle.tsdb_marks.proofs.marks.some_covers.Goals.{else-from-to-via-then-from-to+then-mark-born+else-eq, else-from-to-via-then-from-to+else-mark-born, else-from-to-via-else-from-to}

pub loop-mark-init : goal.loop-mark-init
loop-mark-init c = λ m low high none. none

pub returns-then-eq-clause-covered : goal.returns-then-eq-clause-covered
returns-then-eq-clause-covered c = λ yes.
    let mark = c.mark-item.result in
    let from : FitsSigned w64 mark.from = search rules in
    let to : FitsSigned w64 mark.to = search rules in
    let f : c.moment.result ≡ moment mark.from = c.moment.ensures ∙ ap moment (to_z-of_z w64 mark.from from) in
    let t : c.moment-in-loop-mark.result ≡ moment mark.to = c.moment-in-loop-mark.ensures ∙ ap moment (to_z-of_z w64 mark.to to) in
    let path : mark.path ≡ c.args.series.now = sym c.bytes.ensures.value ∙ (bytes_decides c.bytes.result.now c.bytes-then-mark-born.result.now).0 (sym c.eq.ensures ∙ c.if-eq.true) ∙ c.bytes-then-mark-born.ensures.value in
    covered_mark c.args.marks.now c.loop-mark.mark-index mark c.args.series.now c.args.low c.args.high c.args.born c.loop-mark-test.true c.mark-item.is path
    (omega (arith, f, t, c.max-from.ensures, c.min-to.ensures, c.if-from-to.true)) c.if-mark-born.true

pub loop-mark-preserved : goal.loop-mark-preserved
loop-mark-preserved c =
    let mark = c.mark-item.result in
    let from : FitsSigned w64 mark.from = search rules in
    let to : FitsSigned w64 mark.to = search rules in
    let f : c.moment.result ≡ moment mark.from = c.moment.ensures ∙ ap moment (to_z-of_z w64 mark.from from) in
    let t : c.moment-in-loop-mark.result ≡ moment mark.to = c.moment-in-loop-mark.ensures ∙ ap moment (to_z-of_z w64 mark.to to) in
    uncovered_push c.args.marks.now c.loop-mark.mark-index mark c.args.series.now c.args.low c.args.high c.args.born c.loop-mark-test.true c.mark-item.is (λ m low high one. elim c.else-from-to.branch [
      | else-from-to-via-then-from-to+then-mark-born+else-eq w ↦
          false≢true (sym w.if-eq.false ∙ w.eq.ensures ∙ (bytes_decides w.bytes.result.now w.bytes-then-mark-born.result.now).1 (w.bytes.ensures.value ∙ one.0 ∙ sym w.bytes-then-mark-born.ensures.value))
      | else-from-to-via-then-from-to+else-mark-born w ↦ omega (arith, one.3, w.if-mark-born.false)
      | else-from-to-via-else-from-to w ↦ omega (arith, f, t, c.max-from.ensures, c.min-to.ensures, w.if-from-to.false, one.1, one.2, low, high)
    ]) c.loop-mark.invariant

pub returns-clause-uncovered : goal.returns-clause-uncovered
returns-clause-uncovered c = λ none.
    let P : List Mark → Type 0 = λ ms. IsUncovered ms c.args.series.now c.args.low c.args.high c.args.born in
    subst P (take_all c.loop-mark.mark-index c.args.marks.now (omega (arith, c.loop-mark-test.false))) c.loop-mark.invariant
