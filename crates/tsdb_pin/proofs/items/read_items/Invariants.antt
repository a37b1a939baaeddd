use Rattle.tsdb_pin.proofs.Asked.{IsReadTo}
use Rattle.tsdb_pin.proofs.items.read_items.Given as goal

abbrev pub invariant-loop-item : goal.invariant-loop-item
invariant-loop-item l = IsReadTo l.memory.series l.device l.items l.item-index l.fit l.all.items
