use Rattle.std.proofs.Common.{◌-◌, length}
use Rattle.tsdb_aggregate.specs.Steps.{HasWalked}
use Rattle.tsdb_aggregate.proofs.fold.tally_of.Given as goal

abbrev pub invariant-loop-start : goal.invariant-loop-start
invariant-loop-start g l = HasWalked l.range l.name (g.D.Loader.state l.fn.loader) (g.D.Loader.state l.loader) l.fn.pages l.pages l.entries l.start l.tally

abbrev pub decreases-loop-start : goal.decreases-loop-start
decreases-loop-start g l = length l.entries - l.start
