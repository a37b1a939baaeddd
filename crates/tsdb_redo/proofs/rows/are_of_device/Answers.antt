use Rattle.std.proofs.Common.{◌∙◌, refl, sym}
use Rattle.std.proofs.lemmas.Bool.{false≢true}
use Rattle.tsdb_redo.proofs.RowFacts.{cells_end, cells_fail, cells_next}
use Rattle.tsdb_redo.specs.Rows.{IsCellOf}
use Rattle.tsdb_redo.proofs.rows.are_of_device.Goals as goal

pub loop-cell-init : goal.loop-cell-init
loop-cell-init c = record { rest = (λ all. all, λ all. all) }

pub returns-then-not-is_of_device : goal.returns-then-not-is_of_device
returns-then-not-is_of_device c = (
  λ yes. absurd (false≢true yes),
  λ all. absurd (cells_fail (IsCellOf c.args.memory.now.series c.args.device.now) c.args.cells.now c.loop-cell.cell-index
      c.cell-item.result c.loop-cell-test.true c.cell-item.is
      (λ is. false≢true (sym c.if-not-is_of_device.true ∙ c.is_of_device.ensures.1 is)) c.loop-cell.invariant.rest all),
)

pub loop-cell-preserved : goal.loop-cell-preserved
loop-cell-preserved c = record {
  rest = cells_next (IsCellOf c.args.memory.now.series c.args.device.now) c.args.cells.now c.loop-cell.cell-index
      c.cell-item.result c.loop-cell-test.true c.cell-item.is (c.is_of_device.ensures.0 c.if-not-is_of_device.false)
      c.loop-cell.invariant.rest;
}

pub returns : goal.returns
returns c = (
  λ yes. cells_end (IsCellOf c.args.memory.now.series c.args.device.now) c.args.cells.now c.loop-cell.cell-index
      c.loop-cell-test.false c.loop-cell.invariant.rest,
  λ all. refl,
)
