use Rattle.std.proofs.Common.{◌≡◌, ◌+◌, length, Ok}
use Rattle.std.specs.Prelude.{⊤, None}
use Rattle.tsdb_merge.specs.Causes.{HasSomeCause}
use Rattle.tsdb_merge.specs.Merging.{lazy_held, lazy_left}
use Rattle.tsdb_aggregate.proofs.AddLemmas.{TakesSoFar}
use Rattle.tsdb_aggregate.proofs.group.add_merged.Given as goal

abbrev pub invariant-loop-point : goal.invariant-loop-point
invariant-loop-point g l = TakesSoFar l.range l.name (lazy_left l.fn.merge (g.Q.Supply.left l.fn.supply)) l.fn.tally (lazy_left l.merge (g.Q.Supply.left l.supply)) l.tally
    × (l.merge.fault ≡ None) × (l.merge.sources ≡ l.fn.merge.sources) × (length (g.Q.Supply.left l.supply) ≡ length (g.Q.Supply.left l.fn.supply))
    × g.Q.Supply.keeps l.fn.supply l.supply
    × HasSomeCause {T = ⊤} (g.Q.Supply.failures l.fn.supply) (g.Q.Supply.failures l.supply) (g.Q.Supply.damages l.fn.supply) (g.Q.Supply.damages l.supply) (Ok tt)

abbrev pub decreases-loop-point : goal.decreases-loop-point
decreases-loop-point g l = lazy_held l.merge + g.Q.Supply.most l.supply
