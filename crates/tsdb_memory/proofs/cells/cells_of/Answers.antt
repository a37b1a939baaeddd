use Rattle.tsdb_memory.proofs.RowLemmas.RowParts.{nothing_read, read_item, read_missing, read_unfit, row_cells, row_unfit}
use Rattle.tsdb_memory.proofs.cells.cells_of.Goals.{in-Item+in_ok-push-in-Item, in-Unfit}
use Rattle.tsdb_memory.proofs.cells.cells_of.Goals as goal

pub loop-cell-init : goal.loop-cell-init
loop-cell-init c =
    nothing_read c.args.memory.now.series c.args.device.now c.in_ok-items.items.items c.in_ok-items.ensures.items

pub loop-cell-preserved : goal.loop-cell-preserved
loop-cell-preserved c =
    let series = c.args.memory.now.series in
    let device = c.args.device.now in
    let cells = c.items-cells.result.now in
    let i = c.loop-cell.cell-index in
    elim c.match-branch-3.branch [
      | in-Item+in_ok-push-in-Item w ↦
          rw (w.items-is, w.fit-is)
          (read_item series device cells i c.loop-cell.fit c.loop-cell.items.items w.push.new.self.items
          c.cell-item.result c.in_ok-item.field-0 w.in-Item.item c.loop-cell-test.true c.cell-item.is
          c.loop-cell.invariant c.in_ok-item.ensures w.in-Item.is w.in_ok-push-in-Item.ensures.items)
      | in-Unfit w ↦
          rw (w.items-is, w.fit-is)
          (read_unfit series device cells i c.loop-cell.fit c.loop-cell.items.items c.cell-item.result
          c.in_ok-item.field-0 c.loop-cell-test.true c.cell-item.is c.loop-cell.invariant c.in_ok-item.ensures
          w.in-Unfit.is)
    ]

pub returns-in-Missing : goal.returns-in-Missing
returns-in-Missing c = record {
  read = read_missing c.args.memory.now.series c.args.device.now c.items-cells.result.now c.args.row.now.cells
      c.loop-cell.cell-index c.cell-item.result c.in_ok-item.field-0 c.items-cells.ensures c.loop-cell-test.true
      c.cell-item.is c.in_ok-item.ensures c.in-Missing.is;
  few = tt;
  differ = tt;
  there = tt;
}

pub returns-then-fit : goal.returns-then-fit
returns-then-fit c =
    let whole = row_cells c.args.memory.now.series c.args.device.now c.items-cells.result.now c.args.row.now
    c.loop-cell.cell-index c.loop-cell.fit c.loop-cell.items.items c.of.result c.of.ensures c.items-cells.ensures
    c.loop-cell-test.false c.if-fit.true c.requires c.loop-cell.invariant in
    record { read = whole.cells; few = whole.few; differ = whole.differ; there = whole.there }

pub returns-else-fit : goal.returns-else-fit
returns-else-fit c = record {
  read = row_unfit c.args.memory.now.series c.args.device.now c.items-cells.result.now c.args.row.now.cells
      c.loop-cell.cell-index c.loop-cell.fit c.loop-cell.items.items c.items-cells.ensures c.loop-cell-test.false
      c.if-fit.false c.loop-cell.invariant;
  few = tt;
  differ = tt;
  there = tt;
}
