use Rattle.std.proofs.Common.{◌≤◌, ◌+◌, List, subst, sym, arith}
use Rattle.std.specs.List.{All}
use Rattle.std.proofs.lemmas.List.Elements.{All-push, All-weaker}
use Rattle.tsdb_marks.specs.declared.marks.Mark.{Mark}
use Rattle.tsdb_bench.proofs.marks.add.Goals as goal

pub loop-done-preserved : goal.loop-done-preserved
loop-done-preserved c =
    let Old : Mark → Type 0 = λ mark. mark.version.0 ≤ c.loop-done.done in
    let New : Mark → Type 0 = λ mark. mark.version.0 ≤ c.loop-done.done + 1 in
    let Are : List Mark → Type 0 = λ marks. All New marks in
    let old : All New c.loop-done.marks.marks = All-weaker Old New (λ mark h. omega (arith, h)) c.loop-done.marks.marks c.loop-done.invariant in
    let kept : All New c.reserve.new.self.marks = subst Are (sym c.reserve.ensures.marks) old in
    subst Are (sym c.add.ensures.marks) (All-push New c.reserve.new.self.marks _ kept (omega arith))
