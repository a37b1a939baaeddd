use Rattle.std.proofs.Common.{take}
use Rattle.tsdb_streams.specs.Order.{ArePagesInOrder}
use Rattle.tsdb_streams.proofs.ordering.are_in_order.Given as goal

abbrev pub invariant-loop-place : goal.invariant-loop-place
invariant-loop-place l = ArePagesInOrder (take l.place l.pages)
