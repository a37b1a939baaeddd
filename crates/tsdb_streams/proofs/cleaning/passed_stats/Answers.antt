use Rattle.std.proofs.Common.{rules, ◌∙◌, ap, subst}
use Rattle.std.proofs.lemmas.Fn.{always_returns_same}
use Rattle.std.proofs.lemmas.List.{take_all}
use Rattle.std.specs.List.Sorted.{IsPermutation}
use Rattle.std.specs.Prelude.{flat_map}
use Rattle.tsdb_aggregate.proofs.EntryLemmas.{starts_rise}
use Rattle.tsdb_base.specs.declared.point.Stats.{Stats}
use Rattle.tsdb_streams.proofs.CleanFacts.{flat_push}
use Rattle.tsdb_streams.specs.Cleaning.{lane_passed}
use Rattle.tsdb_streams.proofs.cleaning.passed_stats.Goals as goal

pub loop-lane-preserved : goal.loop-lane-preserved
loop-lane-preserved g c = flat_push lane_passed c.args.lanes.now c.loop-lane.lane-index c.lane-item.result c.loop-lane.list.items c.add_lane.new.into.items c.loop-lane-test.true c.lane-item.is c.loop-lane.invariant c.in_ok-add_lane.ensures

pub returns-clause-all : goal.returns-clause-all
returns-clause-all g c =
    let all = c.loop-lane.invariant ∙ ap (flat_map lane_passed) (take_all c.loop-lane.lane-index c.args.lanes.now c.loop-lane-test.false) in
    subst (λ l. IsPermutation l c.sort_by_key.new.self.items) all c.in_ok-sort_by_key.ensures.permutation

pub returns-clause-order : goal.returns-clause-order
returns-clause-order g c =
    starts_rise (λ (s : Stats). s.start) _ (c.in_ok-sort_by_key.ensures.sorted (λ (s : Stats). s.start) (always_returns_same _ _ _ (λ a r q k. search rules)))
