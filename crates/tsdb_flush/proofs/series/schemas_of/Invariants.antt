use Rattle.std.proofs.Common.{◌≡◌, map, take}
use Rattle.tsdb_flush.specs.TakingSteps.{schema_in}
use Rattle.tsdb_flush.proofs.series.schemas_of.Given as goal

abbrev pub invariant-loop-one : goal.invariant-loop-one
invariant-loop-one l = l.schemas.items ≡ map schema_in (take l.one-index l.series)
