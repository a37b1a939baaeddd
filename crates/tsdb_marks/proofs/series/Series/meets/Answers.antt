use Rattle.std.proofs.lemmas.Grind.{common_steps}
use Rattle.std.proofs.Common.{◌≡◌, ◌∙◌, ◌<◌, List, map, length, get_or, subst, sym, ap, arith}
use Rattle.std.specs.List.{All}
use Rattle.std.proofs.lemmas.List.{get_or-map, length-map}
use Rattle.std.proofs.lemmas.List.Elements.{All-get_or}
use Rattle.tsdb_marks.specs.declared.run.Run.{Run}
use Rattle.tsdb_marks.specs.Series.{SeriesMarks}
use Rattle.tsdb_marks.specs.Steps.{IsMarkRun, IsMet, newest_at, steps_of}
use Rattle.tsdb_marks.proofs.RunLemmas.{met_run, run_up_to, unmet_push}
use Rattle.tsdb_marks.proofs.series.Series.meets.Goals as goal
use Rattle.tsdb_marks.proofs.series.Series.meets.Goals.{else-run-born-via-then-run-born+else-meets, else-run-born-via-else-run-born}

pub meets-requires-clause-run : goal.meets-requires-clause-run
meets-requires-clause-run c =
    let runs = c.deref-run-items.result.now in
    let all : All IsMarkRun runs = subst (All IsMarkRun) (sym c.deref-run-items.ensures.value) c.self.invariant.runs in
    subst IsMarkRun (sym c.run-item.is) (All-get_or IsMarkRun runs c.loop-run.run-index c.run-item.result c.loop-run-test.true all)

pub returns-then-meets-clause-met : goal.returns-then-meets-clause-met
returns-then-meets-clause-met c = λ yes.
    let P : List Run → Type 0 = λ runs. IsMet (newest_at (map steps_of runs)) c.args.from c.args.to c.args.born in
    let Q : SeriesMarks → Type 0 = λ s. IsMet (newest_at s.runs) c.args.from c.args.to c.args.born in
    let runs = c.deref-run-items.result.now in
    let at : steps_of c.run-item.result ≡ get_or (map steps_of runs) c.loop-run.run-index (steps_of c.run-item.result) =
    ap steps_of c.run-item.is ∙ sym (get_or-map steps_of runs c.loop-run.run-index c.run-item.result (steps_of c.run-item.result) c.loop-run-test.true) in
    let within : c.loop-run.run-index < length (map steps_of runs) = omega (arith, c.loop-run-test.true, length-map runs steps_of) in
    subst Q c.self.view_is (subst P c.deref-run-items.ensures.value
    (met_run (map steps_of runs) c.loop-run.run-index (steps_of c.run-item.result) c.args.from c.args.to c.args.born within at (c.meets.ensures.met c.if-meets.true)))

pub loop-run-preserved : goal.loop-run-preserved
loop-run-preserved c =
    let runs = c.deref-run-items.result.now in
    let all : All IsMarkRun runs = subst (All IsMarkRun) (sym c.deref-run-items.ensures.value) c.self.invariant.runs in
    let good = subst IsMarkRun (sym c.run-item.is) (All-get_or IsMarkRun runs c.loop-run.run-index c.run-item.result c.loop-run-test.true all) in
    let at : steps_of c.run-item.result ≡ get_or (map steps_of runs) c.loop-run.run-index (steps_of c.run-item.result) =
    ap steps_of c.run-item.is ∙ sym (get_or-map steps_of runs c.loop-run.run-index c.run-item.result (steps_of c.run-item.result) c.loop-run-test.true) in
    let within : c.loop-run.run-index < length (map steps_of runs) = omega (arith, c.loop-run-test.true, length-map runs steps_of) in
    let push = unmet_push (map steps_of runs) c.loop-run.run-index (steps_of c.run-item.result) c.args.from c.args.to c.args.born within at c.loop-run.invariant in
    elim c.else-run-born.branch [
      | else-run-born-via-then-run-born+else-meets w ↦ push (w.meets.ensures.unmet w.if-meets.false)
      | else-run-born-via-else-run-born w ↦ push (λ m low high. let le = run_up_to (steps_of c.run-item.result) m in omega (arith, le, good.newest, w.if-run-born.false))
    ]

pub returns-clause-unmet : goal.returns-clause-unmet
returns-clause-unmet c = grind (arith, common_steps)
