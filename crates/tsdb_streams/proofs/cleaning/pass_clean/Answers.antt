use Rattle.std.proofs.Common.{◌≡◌, ◌∙◌, ◌<◌, ap, get_or, length, map, arith}
use Rattle.tsdb_streams.proofs.CleanFacts.{as_cleaned, passing_all, passing_more, passing_none, same_at}
use Rattle.tsdb_streams.specs.Clean.{others}
use Rattle.tsdb_streams.specs.Cleaning.{flags_of, lane_hulls, whole_of}
use Rattle.tsdb_streams.proofs.cleaning.pass_clean.Goals as goal

pub loop-place-init : goal.loop-place-init
loop-place-init g c = passing_none _ _ _

pub loop-place-preserved : goal.loop-place-preserved
loop-place-preserved g c =
    let lanes = c.loop-place.lanes.items in
    let lane = c.index_mut.result.now in
    let is : lane ≡ get_or lanes c.loop-place.place lane = c.index_mut.ensures.value in
    let long = c.loop-place.invariant.long in
    let end = c.len-place-end.ensures in
    let below : c.loop-place.place < length lanes = omega (arith, long, end, c.loop-place-test.true) in
    let kept = c.args.kept.now in
    let hulls = others c.loop-place.place (map lane_hulls lanes) in
    let same = same_at lanes c.loop-place.place c.index.result.now lane below c.index.ensures is in
    let found = c.in_ok-flags in
    passing_more c.args.name kept c.args.lanes.now.items lanes c.loop-place.place lane c.pass.new.lane c.loop-place.invariant below is
    (as_cleaned c.args.name kept hulls _ _ lane c.pass.new.lane
    (found.ensures.flags ∙ ap (λ l. flags_of c.args.name kept (others c.loop-place.place (map lane_hulls l)) c.index.result.now) c.deref.ensures.value ∙ ap (flags_of c.args.name kept hulls) same)
    (found.ensures.whole ∙ ap (λ l. whole_of c.args.name (others c.loop-place.place (map lane_hulls l)) found.flags.items c.index.result.now) c.deref.ensures.value ∙ ap (whole_of c.args.name hulls found.flags.items) same)
    c.pass.ensures)

pub returns : goal.returns
returns g c = passing_all c.args.name c.args.kept.now c.args.lanes.now.items c.loop-place.lanes.items c.loop-place.place c.loop-place.invariant
    (let long = c.loop-place.invariant.long in let end = c.len-place-end.ensures in omega (arith, long, end, c.loop-place-test.false))
