use Rattle.std.proofs.Common.{◌+◌, ◌≤◌, ◌∙◌, subst, sym, take, arith}
use Rattle.tsdb_streams.proofs.CountFacts.{count_end, count_push, count_skip}
use Rattle.tsdb_streams.specs.Lanes.{count_due}
use Rattle.tsdb_streams.proofs.counting.count_before.Goals as goal
use Rattle.tsdb_streams.proofs.counting.count_before.Goals.{then-is_due, else-is_due}

pub loop-place-init : goal.loop-place-init
loop-place-init c = omega arith

pub loop-place-preserved : goal.loop-place-preserved
loop-place-preserved c = elim c.if-is_due.branch [
  | then-is_due w ↦ count_push c.args.range.now c.args.passed.now c.args.pages.now c.loop-place.place c.index-pages-place.result c.loop-place.count c.if-is_due.count (let end = c.min-place-end.ensures in omega (arith, c.loop-place-test.true, end)) c.index-pages-place.is c.loop-place.invariant (sym c.is_due.ensures ∙ w.if-is_due.true) (let sum = w.saturating_add-count.ensures in let same = w.count-is in omega (arith, sum, same))
  | else-is_due w ↦ subst (λ n. n ≤ count_due c.args.range.now c.args.passed.now (take (c.loop-place.place + 1) c.args.pages.now)) (sym w.count-is)
      (count_skip c.args.range.now c.args.passed.now c.args.pages.now c.loop-place.place c.index-pages-place.result c.loop-place.count (let end = c.min-place-end.ensures in omega (arith, c.loop-place-test.true, end)) c.index-pages-place.is c.loop-place.invariant)
]

pub returns : goal.returns
returns c = count_end c.args.range.now c.args.passed.now c.args.pages.now _ c.loop-place.count c.loop-place.invariant
