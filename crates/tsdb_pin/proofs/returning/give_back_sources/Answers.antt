use Rattle.std.proofs.Common.{rules}
use Rattle.tsdb_pin.proofs.Gathered.{all_returned, last_held, none_left, none_returned, one_fewer, one_returned}
use Rattle.tsdb_pin.proofs.returning.give_back_sources.Goals as goal

pub loop-init : goal.loop-init
loop-init g c = (search rules, none_returned g.F.Right.ReadRight.file c.args.sources.items c.args.files.now c.requires)

pub give_back_source-requires-after_bounds : goal.give_back_source-requires-after_bounds
give_back_source-requires-after_bounds g c κs within = last_held g.F.Right.ReadRight.file c.args.sources.items c.loop.sources.items
    c.pop.new.self.items c.in-Some.source c.args.files.now c.loop.files c.loop.invariant.1 c.in-Some.ensures.items

pub loop-preserved : goal.loop-preserved
loop-preserved g c = (
  one_fewer c.loop.counter c.len-end.result c.loop.sources.items c.pop.new.self.items c.in-Some.source
      c.in-Some.ensures.items c.loop.invariant.0,
  one_returned g.F.Right.ReadRight.file c.args.sources.items c.loop.sources.items c.pop.new.self.items c.in-Some.source
      c.args.files.now c.loop.files c.give_back_source.new.files c.loop.invariant.1 c.in-Some.ensures.items
      c.give_back_source.ensures,
)

pub returns : goal.returns
returns g c = all_returned g.F.Right.ReadRight.file c.args.sources.items c.loop.sources.items c.args.files.now c.loop.files
    c.loop.invariant.1 (none_left c.loop.counter c.len-end.result c.loop.sources.items c.loop.invariant.0 c.loop-test.false)
