use Rattle.std.proofs.Common.{rules, ◌≡◌, length, get_or, set, subst, sym}
use Rattle.std.specs.Prelude.{All}
use Rattle.std.proofs.lemmas.List.{length-set}
use Rattle.tsdb_merge.proofs.SourceLemmas.{others_of}
use Rattle.tsdb_streams.proofs.LaneFacts.{all_after, due_after, left_after, left_before, most_after, one_of, reason_one}
use Rattle.tsdb_streams.specs.Lanes.{IsLaneOfStore, IsToldLane, IsTrueLane, keep_of, lane_due, lane_points_left, lane_points_most}
use Rattle.tsdb_streams.proofs.lanes.fill_one.Goals as goal

pub fill_lane-requires-clause-store : goal.fill_lane-requires-clause-store
fill_lane-requires-clause-store g c = λ lifetimes lives.
    let old = c.index_mut.result.now in
    let is : old ≡ get_or c.args.list.now.items c.args.source old = search rules in
    one_of c.args.list.now.items c.args.source old old c.requires.source is (IsLaneOfStore g.P.Right.ReadRight.file (g.P.Port.store c.args.port.now)) c.requires.of

pub returns-clause-moved : goal.returns-clause-moved
returns-clause-moved g c = λ pages truth.
    let left = lane_points_left g.P.Right.ReadRight.file pages (keep_of c.args.kept.now) in
    let list = c.args.list.now.items in
    let old = c.index_mut.result.now in
    let is : old ≡ get_or list c.args.source old = search rules in
    rw (left_before list c.args.source old c.fill_lane.new.lane c.requires.source is left, left_after list c.args.source old c.fill_lane.new.lane c.requires.source is left)
    (c.fill_lane.ensures.moved pages (one_of list c.args.source old old c.requires.source is (IsTrueLane g.P.Right.ReadRight.file pages) truth))

pub returns-clause-most : goal.returns-clause-most
returns-clause-most g c =
    let old = c.index_mut.result.now in
    let is : old ≡ get_or c.args.list.now.items c.args.source old = search rules in
    most_after c.args.list.now.items c.args.source old c.fill_lane.new.lane c.requires.source is c.fill_lane.result lane_points_most (length c.fill_lane.new.into.items) c.fill_lane.ensures.most

pub returns-clause-others : goal.returns-clause-others
returns-clause-others g c = λ pages.
    let old = c.index_mut.result.now in
    let is : old ≡ get_or c.args.list.now.items c.args.source old = search rules in
    others_of c.args.list.now.items c.args.source old c.fill_lane.new.lane c.requires.source is (lane_points_left g.P.Right.ReadRight.file pages (keep_of c.args.kept.now))

pub returns-clause-sources : goal.returns-clause-sources
returns-clause-sources g c = length-set c.args.list.now.items c.args.source c.fill_lane.new.lane

pub returns-clause-leaves : goal.returns-clause-leaves
returns-clause-leaves g c =
    let file = g.P.Right.ReadRight.file in
    let list = c.args.list.now.items in
    let old = c.index_mut.result.now in
    let new = c.fill_lane.new.lane in
    let done = c.fill_lane.ensures in
    let is : old ≡ get_or list c.args.source old = search rules in
    record {
      of = subst (λ s. All (IsLaneOfStore file s) (set list c.args.source new)) (sym done.same_store) (all_after list c.args.source old new c.requires.source is (IsLaneOfStore file (g.P.Port.store c.args.port.now)) (λ _. done.store) c.requires.of);
      truth = λ pages all. all_after list c.args.source old new c.requires.source is (IsTrueLane file pages) (done.truth pages) all;
      told = λ pages all. all_after list c.args.source old new c.requires.source is (IsToldLane file pages) (done.told pages) all;
      reason = λ pages truth. reason_one list c.args.source old new c.requires.source is (IsToldLane file pages) _ _ c.fill_lane.result (done.reason pages (one_of list c.args.source old new c.requires.source is (IsTrueLane file pages) truth));
      later = done.later;
      same_store = done.same_store;
      due = λ range. due_after list c.args.source old new c.requires.source is (lane_due range) (done.due range);
    }
