use Rattle.std.proofs.Common.{◌^◌, ◌<◌, List, drop, ap, subst, ◌∙◌, arith}
use Rattle.tsdb_marks.specs.declared.marks.Mark.{Mark}
use Rattle.tsdb_marks.specs.Lists.{Marks}
use Rattle.tsdb_marks.specs.Model.{IsCovered, IsUncovered}
use Rattle.tsdb_marks.proofs.ModelLemmas.{covered_index, covered_behind, rest_is, uncovered_both}
use Rattle.tsdb_marks.proofs.marks.Marks.covers.Goals as goal

pub returns-then-meets-clause-covered : goal.returns-then-meets-clause-covered
returns-then-meets-clause-covered c = λ yes.
    let old = c.self.inside in
    let P : Marks → Type 0 = λ v. IsCovered v.marks c.args.series.now c.args.low c.args.high c.args.born in
    let fits : c.args.high < 2 ^ 64 = omega arith in
    subst P c.self.view_is (covered_index old.marks.items old.indexed old.floor old.index.series.entries c.args.series.now c.args.low c.args.high c.args.born c.max.result c.self.invariant.exact fits c.max.ensures (c.meets.ensures.met yes))

pub returns-else-meets-clause-covered : goal.returns-else-meets-clause-covered
returns-else-meets-clause-covered c = λ yes.
    let old = c.self.inside in
    let P : Marks → Type 0 = λ v. IsCovered v.marks c.args.series.now c.args.low c.args.high c.args.born in
    let Q : List Mark → Type 0 = λ ms. IsCovered ms c.args.series.now c.args.low c.args.high c.args.born in
    let fits : c.args.high < 2 ^ 64 = omega arith in
    let same = rest_is old.indexed c.deref.result.now ∙ ap (drop old.indexed) c.deref.ensures.value in
    subst P c.self.view_is (covered_behind old.marks.items old.indexed old.floor old.index.series.entries c.args.series.now c.args.low c.args.high c.args.born c.max.result c.self.invariant.exact fits c.max.ensures
    (subst Q same (c.some_covers.ensures.covered yes)))

pub returns-else-meets-clause-uncovered : goal.returns-else-meets-clause-uncovered
returns-else-meets-clause-uncovered c = λ none.
    let old = c.self.inside in
    let P : Marks → Type 0 = λ v. IsUncovered v.marks c.args.series.now c.args.low c.args.high c.args.born in
    let Q : List Mark → Type 0 = λ ms. IsUncovered ms c.args.series.now c.args.low c.args.high c.args.born in
    let fits : c.args.high < 2 ^ 64 = omega arith in
    let same = rest_is old.indexed c.deref.result.now ∙ ap (drop old.indexed) c.deref.ensures.value in
    subst P c.self.view_is (uncovered_both old.marks.items old.indexed old.floor old.index.series.entries c.args.series.now c.args.low c.args.high c.args.born c.max.result c.self.invariant.exact fits c.max.ensures
    c.self.invariant.newer (c.meets.ensures.unmet c.if-meets.false) (subst Q same (c.some_covers.ensures.uncovered none)))
