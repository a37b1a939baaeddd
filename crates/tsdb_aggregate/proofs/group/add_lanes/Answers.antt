use Rattle.std.proofs.Common.{refl}
use Rattle.tsdb_aggregate.proofs.GroupOfLanes.{spends_kept}
use Rattle.tsdb_aggregate.proofs.group.add_lanes.Goals as goal

pub returns-clause-spends : goal.returns-clause-spends
returns-clause-spends g c = spends_kept _ _ _ _ _ _ _ _ refl c.add_supply.ensures.kept.3 c.add_supply.ensures.cause
