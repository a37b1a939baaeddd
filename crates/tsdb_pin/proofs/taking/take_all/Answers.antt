use Rattle.std.proofs.Common.{◌≡◌, map, refl, subst}
use Rattle.std.specs.List.{filter}
use Rattle.tsdb_marks.specs.Lists.{is_of}
use Rattle.tsdb_pin.proofs.Changing.{nothing_changed}
use Rattle.tsdb_pin.proofs.Gathered.{columns_held, columns_returned}
use Rattle.tsdb_pin.proofs.Listed.{on_err}
use Rattle.tsdb_pin.proofs.Pinned.{pin_over}
use Rattle.tsdb_pin.specs.Pins.{AreColumnsTaken, TakesSomeColumns}
use Rattle.tsdb_pin.proofs.taking.take_all.Goals as goal

pub returns-in_err-marks-clause-memory : goal.returns-in_err-marks-clause-memory
returns-in_err-marks-clause-memory g c = on_err _ (nothing_changed c.args.files.now)

pub give_back_columns-requires-after_bounds : goal.give_back_columns-requires-after_bounds
give_back_columns-requires-after_bounds g c κs within = columns_held g.F.Right.ReadRight.file c.args.files.now
    c.take_columns.new.files c.take_columns.new.columns.items
    (subst (λ l. TakesSomeColumns g.F.Right.ReadRight.file c.args.files.now c.take_columns.new.files l
    c.take_columns.new.columns.items) c.new-columns.ensures.items c.in-Err.ensures.memory)

pub returns-in-Ok-clause-ok : goal.returns-in-Ok-clause-ok
returns-in-Ok-clause-ok g c =
    let taken = subst (λ l. AreColumnsTaken g.F.Right.ReadRight.file c.args.memory.now c.args.range.now c.args.all.items
    c.args.files.now c.take_columns.new.files l c.take_columns.new.columns.items) c.new-columns.ensures.items
    c.in-Ok.ensures.ok in
    pin_over g.F.Right.ReadRight.file c.args.memory.now c.args.range.now c.args.all.items c.args.files.now
    c.take_columns.new.files c.take_columns.new.columns.items
    (record { stamp = record { 0 = c.stamp.result }; range = c.args.range.now; marks = c.in_ok-marks.marks; columns = c.of.result })
    taken c.stamp.ensures.value refl (subst (λ l. c.in_ok-marks.marks.marks ≡ filter (is_of (map (λ asked. asked.schema.path) l)) c.args.memory.now.marks.marks)
    c.deref.ensures.value c.in_ok-marks.ensures) c.of.ensures

pub returns-in-Err-clause-memory : goal.returns-in-Err-clause-memory
returns-in-Err-clause-memory g c = columns_returned g.F.Right.ReadRight.file c.args.files.now c.take_columns.new.files
    c.give_back_columns.new.files c.take_columns.new.columns.items
    (subst (λ l. TakesSomeColumns g.F.Right.ReadRight.file c.args.files.now c.take_columns.new.files l
    c.take_columns.new.columns.items) c.new-columns.ensures.items c.in-Err.ensures.memory) c.give_back_columns.ensures
