use Rattle.std.proofs.Common.{refl}
use Rattle.std.specs.HashSet.{contains}
use Rattle.std.proofs.Common.{nat_eq}
use Rattle.std.proofs.lemmas.Bool.{false≢true}
use Rattle.tsdb_redo.proofs.Distinct.{few_differ, fresh_all, fresh_end, fresh_next, not_by, was_by, was_there}
use Rattle.tsdb_redo.proofs.rows.differ_in_series.Goals as goal

pub loop-cell-init : goal.loop-cell-init
loop-cell-init c = record {
  rest = fresh_all (λ n. contains nat_eq c.new-seen.result n) c.args.cells.now (λ n. rw c.new-seen.ensures.empty refl);
}

pub returns-then-cells-lt2 : goal.returns-then-cells-lt2
returns-then-cells-lt2 c = (λ yes. few_differ c.args.cells.now c.if-cells-lt2.true, λ differ. refl)

pub returns-then-not-branch : goal.returns-then-not-branch
returns-then-not-branch c = (
  λ yes. absurd (false≢true yes),
  λ differ. absurd (was_there (λ n. contains nat_eq c.loop-cell.seen n) c.args.cells.now c.loop-cell.cell-index
      c.cell-item.result c.loop-cell-test.true c.cell-item.is c.loop-cell.invariant.rest
      (was_by c.in_ok-insert.field-0 (contains nat_eq c.loop-cell.seen c.cell-item.result.series.0) c.in_ok-insert.ensures.added c.if-not-branch.true)
      differ),
)

pub loop-cell-preserved : goal.loop-cell-preserved
loop-cell-preserved c = record {
  rest = fresh_next (λ n. contains nat_eq c.loop-cell.seen n) c.args.cells.now c.loop-cell.cell-index
      c.cell-item.result c.loop-cell-test.true c.cell-item.is c.loop-cell.invariant.rest
      (λ n. contains nat_eq c.insert.new.self n) c.in_ok-insert.ensures.updates.0
      (not_by c.in_ok-insert.field-0 (contains nat_eq c.loop-cell.seen c.cell-item.result.series.0) c.in_ok-insert.ensures.added c.if-not-branch.false);
}

pub returns : goal.returns
returns c = (
  λ yes. fresh_end (λ n. contains nat_eq c.loop-cell.seen n) c.args.cells.now c.loop-cell.cell-index
      c.loop-cell-test.false c.loop-cell.invariant.rest,
  λ differ. refl,
)
