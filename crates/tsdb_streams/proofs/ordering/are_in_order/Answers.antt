use Rattle.tsdb_streams.proofs.OrderFacts.{order_all, order_more, order_none}
use Rattle.tsdb_streams.proofs.ordering.are_in_order.Goals as goal

pub loop-place-init : goal.loop-place-init
loop-place-init c = order_none c.args.pages.now

pub loop-place-preserved : goal.loop-place-preserved
loop-place-preserved c = order_more c.args.pages.now c.loop-place.place c.loop-place-test.true c.loop-place.invariant (c.is_next.ensures c.if-not-is_next.false)

pub returns : goal.returns
returns c = λ done. order_all c.args.pages.now c.loop-place.place c.loop-place-test.false c.loop-place.invariant
