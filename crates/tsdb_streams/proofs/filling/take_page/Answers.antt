use Rattle.std.proofs.Common.{rules, ◌≡◌, ◌+◌, length, refl, ap, arith}
use Rattle.tsdb_streams.proofs.FillLemmas.{gives_page, gives_skipped}
use Rattle.tsdb_streams.proofs.KeptLemmas.{fewer_kept}
use Rattle.tsdb_streams.proofs.PartFacts.{got_item}
use Rattle.std.proofs.lemmas.Result.{err_from_is_err_and}
use Rattle.tsdb_streams.proofs.Reasons.{reason_ok, same_reason}
use Rattle.tsdb_streams.specs.Lanes.{keep_of}
use Rattle.tsdb_streams.proofs.filling.take_page.Goals as goal

pub returns-then-not-due-clause-gives : goal.returns-then-not-due-clause-gives
returns-then-not-due-clause-gives g c = λ pages truth.
    let lane = c.args.lane.now in
    let kept = c.args.kept.now in
    let name = g.P.Right.ReadRight.file lane.right.now in
    rw c.requires.empty (gives_skipped (pages name.number) lane.passed.items kept.series.now kept.range kept.marks.now.marks lane.born.0 lane.next (lane.next + 1) lane.entry name c.index-items-page.result refl c.requires.page
    (got_item lane.entry.pages c.items.result.now lane.next c.index-items-page.result c.items.ensures c.requires.page c.index-items-page.is)
    (search rules) truth)

pub returns-clause-gives : goal.returns-clause-gives
returns-clause-gives g c = λ pages truth.
    gives_page _ c.args.lane.now.passed.items (keep_of c.args.kept.now c.args.lane.now.born.0) c.args.lane.now.next (c.args.lane.now.next + 1) c.in_ok-points.points.items c.retain.new.points.items (search rules) refl c.retain.ensures (c.in_ok-points.ensures.points pages truth)

pub returns-clause-few : goal.returns-clause-few
returns-clause-few g c =
    let same : length c.retain.new.points.items ≡ _ = ap length c.retain.ensures in
    let fewer = fewer_kept (keep_of c.args.kept.now c.args.lane.now.born.0) c.in_ok-points.points.items in
    omega (arith, same, fewer, c.in_ok-points.ensures.few)

pub returns-then-not-due-clause-reason : goal.returns-then-not-due-clause-reason
returns-then-not-due-clause-reason g c = λ pages truth. reason_ok _ _ _ _ (omega arith)

pub returns-in_err-points-clause-reason : goal.returns-in_err-points-clause-reason
returns-in_err-points-clause-reason g c = λ pages truth.
    let p = err_from_is_err_and c.from_residual.result c.from_residual.ensures.1 in
    rw (p.1, p.2) (same_reason _ _ _ c.in_err-points.field-0.0 (c.in_err-points.ensures.reason pages truth))

pub returns-clause-reason : goal.returns-clause-reason
returns-clause-reason g c = λ pages truth. reason_ok _ _ _ _ c.in_ok-points.ensures.later
