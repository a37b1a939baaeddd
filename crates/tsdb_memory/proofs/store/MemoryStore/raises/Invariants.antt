use Rattle.std.proofs.Common.{take}
use Rattle.tsdb_memory.proofs.Raises.{AreRaisesOf}
use Rattle.tsdb_memory.proofs.store.MemoryStore.raises.Given as goal

abbrev pub invariant-loop-series : goal.invariant-loop-series
invariant-loop-series l = AreRaisesOf l.self.series l.self.working (take l.series-index l.series-items) l.raises.items
