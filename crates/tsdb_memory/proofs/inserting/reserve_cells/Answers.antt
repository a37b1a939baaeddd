use Rattle.std.proofs.Common.{◌∙◌, inl, refl}
use Rattle.std.proofs.lemmas.List.Elements.{All-nil}
use Rattle.tsdb_memory.proofs.RowCells.{HasRoom, room_more, uses_both}
use Rattle.tsdb_memory.proofs.inserting.reserve_cells.Goals as goal

pub loop-cell-init : goal.loop-cell-init
loop-cell-init c = record {
  points = λ space number. refl;
  spare = λ number. inl refl;
  room = All-nil (HasRoom c.args.pair.now);
}

pub loop-cell-preserved : goal.loop-cell-preserved
loop-cell-preserved c = record {
  points = λ space number. c.provide.ensures.points space number ∙ c.loop-cell.invariant.points space number;
  spare = uses_both c.args.pair.now c.loop-cell.pair c.provide.new.self c.loop-cell.invariant.spare
      c.provide.ensures.spare;
  room = room_more c.args.cells.now c.loop-cell.cell-index c.cell-item.result c.loop-cell.pair c.provide.new.self
      c.loop-cell-test.true c.cell-item.is c.loop-cell.invariant.room c.provide.ensures.spare
      c.in_ok-provide.ensures.room;
}

pub returns-in_err-provide-clause-points : goal.returns-in_err-provide-clause-points
returns-in_err-provide-clause-points c = λ space number.
    c.provide.ensures.points space number ∙ c.loop-cell.invariant.points space number

pub returns-in_err-provide-clause-spare : goal.returns-in_err-provide-clause-spare
returns-in_err-provide-clause-spare c = uses_both c.args.pair.now c.loop-cell.pair c.provide.new.self
    c.loop-cell.invariant.spare c.provide.ensures.spare
