use Rattle.std.proofs.Common.{rules}
use Rattle.tsdb_aggregate.proofs.GroupOfLanes.{adds_lanes, on_ok_then}
use Rattle.tsdb_aggregate.proofs.RowLemmas.{cost_of_lanes, places_of_lanes}
use Rattle.tsdb_aggregate.proofs.SpendLemmas.{spends_same}
use Rattle.tsdb_aggregate.proofs.group.add_group.Goals as goal

pub invariant_of-lanes : goal.invariant_of-lanes
invariant_of-lanes g c = record { places = places_of_lanes _ c.args.group.now _ c.in_ok-list.ensures c.requires.places }

pub returns-clause-spends : goal.returns-clause-spends
returns-clause-spends g c =
    let spends = spends_same _ _ _ _ _ _ _ (cost_of_lanes _ c.args.group.now c.in_ok-list.list.items c.in_ok-list.ensures) c.add_lanes.ensures.spends in
    search (rules, spends)

pub returns-clause-added : goal.returns-clause-added
returns-clause-added g c = on_ok_then c.add_lanes.result (λ adds order apart. adds_lanes _ _ _ c.args.group.now c.in_ok-list.list.items _ _ c.in_ok-list.ensures adds order apart) c.add_lanes.ensures.added
