use Rattle.std.proofs.Common.{[], sym, ◌≡◌, ◌∙◌}
use Rattle.std.specs.Vec.Iter.{into_iter_items}
use Rattle.tsdb_fileset.proofs.RowCells.{no_length}
use Rattle.tsdb_pin.proofs.Gathered.{all_gathered, gathered_some, none_gathered, one_gathered}
use Rattle.tsdb_pin.proofs.Listed.{on_err}
use Rattle.tsdb_pin.proofs.columns.take_columns.Goals as goal

pub loop-asked-init : goal.loop-asked-init
loop-asked-init g c = record {
  finite = (tt, tt);
  gathered = none_gathered g.F.Right.ReadRight.file c.args.memory.now c.args.range.now c.args.all.items
      (into_iter_items c.into_iter-asked-iterator.result) c.args.files.now c.args.columns.now.items
      c.into_iter-asked-iterator.ensures.into_iter_gives.0;
}

pub loop-asked-preserved : goal.loop-asked-preserved
loop-asked-preserved g c = record {
  finite = (tt, tt);
  gathered = one_gathered g.F.Right.ReadRight.file c.args.memory.now c.args.range.now c.args.all.items
      (into_iter_items c.loop-asked.asked-iterator) (into_iter_items c.next.new.self) c.in-Some.asked c.args.files.now
      c.loop-asked.files c.take_column.new.files c.args.columns.now.items c.loop-asked.columns.items
      c.take_column.new.columns.items c.loop-asked.invariant.gathered c.in-Some.ensures.steps.0
      c.in_ok-take_column.ensures.ok;
}

pub returns-in_err-take_column-clause-memory : goal.returns-in_err-take_column-clause-memory
returns-in_err-take_column-clause-memory g c = on_err _ (gathered_some g.F.Right.ReadRight.file c.args.memory.now
    c.args.range.now c.args.all.items (into_iter_items c.loop-asked.asked-iterator) c.args.files.now c.loop-asked.files
    c.take_column.new.files c.args.columns.now.items c.loop-asked.columns.items c.take_column.new.columns.items
    c.loop-asked.invariant.gathered c.in_err-take_column.ensures.memory.0 c.in_err-take_column.ensures.memory.1)

pub returns-clause-ok : goal.returns-clause-ok
returns-clause-ok g c =
    let none : into_iter_items c.loop-asked.asked-iterator ≡ [] =
    no_length (into_iter_items c.loop-asked.asked-iterator)
    (sym c.loop-asked.asked-iterator.rest.ok.0 ∙ c.in-None.ensures.steps.0) in
    all_gathered g.F.Right.ReadRight.file c.args.memory.now c.args.range.now c.args.all.items
    (into_iter_items c.loop-asked.asked-iterator) c.args.files.now c.loop-asked.files c.args.columns.now.items
    c.loop-asked.columns.items c.loop-asked.invariant.gathered none
