use Rattle.std.proofs.Common.{map, take}
use Rattle.tsdb_fileset.specs.Model.{frozen_in}
use Rattle.tsdb_pin.proofs.Copied.{all_copied, copied_so_far, frozen_step, none_copied}
use Rattle.tsdb_pin.proofs.Listed.{on_err, when_err, when_ok}
use Rattle.tsdb_pin.proofs.parts.take_parts.Goals as goal

pub loop-one-init : goal.loop-one-init
loop-one-init g c = none_copied _ _ _ _ c.args.space c.args.series.0 c.args.range.now c.args.sources.now.items

pub loop-one-preserved : goal.loop-one-preserved
loop-one-preserved g c = frozen_step _ _ _ _ c.args.space c.args.series.0 c.args.range.now c.frozen-pairs.result.now
    c.loop-one.one-index c.one-item.result c.born.result c.pair.result.now c.args.sources.now.items
    c.loop-one.sources.items c.take_part.new.sources.items c.loop-one-test.true c.one-item.is c.born.ensures
    c.pair.ensures c.loop-one.invariant c.in_ok-take_part.ensures.ok c.take_part.ensures.rising

pub returns-in_err-take_part-clause-memory : goal.returns-in_err-take_part-clause-memory
returns-in_err-take_part-clause-memory g c = on_err _ (copied_so_far _ _ _ _ c.args.space c.args.series.0 c.args.range.now
    (map frozen_in (take c.loop-one.one-index c.frozen-pairs.result.now)) c.args.sources.now.items
    c.loop-one.sources.items c.take_part.new.sources.items c.loop-one.invariant c.in_err-take_part.ensures.memory)

pub returns-clause-ok : goal.returns-clause-ok
returns-clause-ok g c = when_ok c.take_part-2.result
    (λ push. (all_copied _ _ _ _ c.args.space c.args.series.0 c.args.range.now c.frozen-pairs.result.now
    c.args.memory.now c.loop-one.one-index c.stamp.result c.working.result.now c.args.sources.now.items
    c.loop-one.sources.items c.take_part-2.new.sources.items c.frozen-pairs.ensures.value c.loop-one-test.false
    c.stamp.ensures.value c.working.ensures c.loop-one.invariant push c.take_part-2.ensures.rising).are)
    c.take_part-2.ensures.ok

pub returns-clause-rising : goal.returns-clause-rising
returns-clause-rising g c = when_ok c.take_part-2.result
    (λ push. (all_copied _ _ _ _ c.args.space c.args.series.0 c.args.range.now c.frozen-pairs.result.now
    c.args.memory.now c.loop-one.one-index c.stamp.result c.working.result.now c.args.sources.now.items
    c.loop-one.sources.items c.take_part-2.new.sources.items c.frozen-pairs.ensures.value c.loop-one-test.false
    c.stamp.ensures.value c.working.ensures c.loop-one.invariant push c.take_part-2.ensures.rising).rising)
    c.take_part-2.ensures.ok

pub returns-clause-memory : goal.returns-clause-memory
returns-clause-memory g c = when_err c.take_part-2.result (λ same. copied_so_far _ _ _ _ c.args.space c.args.series.0
    c.args.range.now (map frozen_in (take c.loop-one.one-index c.frozen-pairs.result.now)) c.args.sources.now.items
    c.loop-one.sources.items c.take_part-2.new.sources.items c.loop-one.invariant same) c.take_part-2.ensures.memory
