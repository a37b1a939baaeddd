use Rattle.std.proofs.lemmas.Grind.{common_steps}
use Rattle.std.proofs.Common.{rules, ◌≡◌, ◌<◌, length, get_or, arith}
use Rattle.tsdb_merge.proofs.SourceLemmas.{others_of}
use Rattle.tsdb_aggregate.specs.Lanes.{lane_left}
use Rattle.tsdb_aggregate.proofs.LaneLemmas.{left_after, left_before}
use Rattle.tsdb_aggregate.proofs.lanes.fill_one.Goals as goal

pub returns-clause-moved : goal.returns-clause-moved
returns-clause-moved g c =
    let held = (g.D.Loader.state c.args.loader.now).held in
    let list = c.args.list.now.items in
    let old = c.index_mut.result.now in
    let below : c.args.source < length list = c.requires.source in
    let is : old ≡ get_or list c.args.source old = search rules in
    rw (left_before held list c.args.source old c.fill_lane.new.lane below is, left_after held list c.args.source old c.fill_lane.new.lane below is) c.fill_lane.ensures.moved

pub returns-clause-others : goal.returns-clause-others
returns-clause-others g c =
    let held = (g.D.Loader.state c.args.loader.now).held in
    let list = c.args.list.now.items in
    let old = c.index_mut.result.now in
    let below : c.args.source < length list = c.requires.source in
    let is : old ≡ get_or list c.args.source old = search rules in
    others_of list c.args.source old c.fill_lane.new.lane below is (lane_left held)

pub returns-clause-most : goal.returns-clause-most
returns-clause-most g c = grind (arith, common_steps)

pub returns-clause-spends : goal.returns-clause-spends
returns-clause-spends g c = grind (arith, common_steps)
