use Rattle.std.proofs.Common.{rules}
use Rattle.tsdb_pin.proofs.Gathered.{all_columns_returned, last_column_held, no_column_returned, none_left, one_column_returned}
use Rattle.tsdb_pin.proofs.Gathered.{one_fewer}
use Rattle.tsdb_pin.proofs.returning.give_back_columns.Goals as goal

pub loop-init : goal.loop-init
loop-init g c = (search rules, no_column_returned g.F.Right.ReadRight.file c.args.columns.items c.args.files.now c.requires)

pub give_back_column-requires-after_bounds : goal.give_back_column-requires-after_bounds
give_back_column-requires-after_bounds g c κs within = last_column_held g.F.Right.ReadRight.file c.args.columns.items
    c.loop.columns.items c.pop.new.self.items c.in-Some.column c.args.files.now c.loop.files c.loop.invariant.1
    c.in-Some.ensures.items

pub loop-preserved : goal.loop-preserved
loop-preserved g c = (
  one_fewer c.loop.counter c.len-end.result c.loop.columns.items c.pop.new.self.items c.in-Some.column
      c.in-Some.ensures.items c.loop.invariant.0,
  one_column_returned g.F.Right.ReadRight.file c.args.columns.items c.loop.columns.items c.pop.new.self.items
      c.in-Some.column c.args.files.now c.loop.files c.give_back_column.new.files c.loop.invariant.1
      c.in-Some.ensures.items c.give_back_column.ensures,
)

pub returns : goal.returns
returns g c = all_columns_returned g.F.Right.ReadRight.file c.args.columns.items c.loop.columns.items c.args.files.now
    c.loop.files c.loop.invariant.1
    (none_left c.loop.counter c.len-end.result c.loop.columns.items c.loop.invariant.0 c.loop-test.false)
