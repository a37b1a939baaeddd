use Rattle.std.proofs.Common.{◌≡◌}
use Rattle.std.specs.FinMap.{len}
use Rattle.tsdb_model.specs.World.{cut}
use Rattle.tsdb_map.proofs.series.Series.cut.Given as goal

abbrev pub invariant-loop : goal.invariant-loop
invariant-loop l = cut l.fn.range l.self ≡ cut l.fn.range l.fn.self

abbrev pub decreases-loop : goal.decreases-loop
decreases-loop l = len l.self.points
