use Rattle.std.proofs.Common.{rules, ◌≡◌, ℕ, List, length, map, subst, sym, arith}
use Rattle.std.specs.List.{AllZip}
use Rattle.std.proofs.lemmas.Result.{err_from_is_err_and}
use Rattle.std.specs.Prelude.{All, Some}
use Rattle.tsdb_base.specs.declared.point.Point.{Point}
use Rattle.tsdb_streams.proofs.OpenedFacts.{merged_of, zip_all}
use Rattle.tsdb_streams.specs.KeptPoints.{is_kept}
use Rattle.tsdb_streams.specs.Lanes.{IsToldLane, IsToldSource, IsTrueLane, IsTrueSource, OpensAs}
use Rattle.tsdb_streams.proofs.Reasons.{reason_memory, reason_ok, same_reason}
use Rattle.tsdb_path.specs.Nodes.{device_of, measurement_of}
use Rattle.tsdb_merge.specs.Steps.{root_left}
use Rattle.tsdb_base.specs.Points.{IsRising}
use Rattle.tsdb_merge.specs.Winners.{IsToldMergeOf}
use Rattle.tsdb_streams.proofs.opening.open_stream.Goals as goal

pub returns-clause-merged : goal.returns-clause-merged
returns-clause-merged g c = λ pages truth.
    let names : List ℕ × List ℕ = (device_of c.args.series.now, measurement_of c.args.series.now) in
    let opens : AllZip (OpensAs g.P.Right.ReadRight.file names) c.args.sources.items c.in_ok-lanes.lanes.items =
    subst (λ (n : List ℕ × List ℕ). AllZip (OpensAs g.P.Right.ReadRight.file n) c.args.sources.items c.in_ok-lanes.lanes.items) c.in_ok-device.ensures c.in_ok-lanes.ensures.opens in
    let count : c.len.result ≡ length c.in_ok-lanes.lanes.items = search rules in
    let merged : (lists : List (List Point)) → length lists ≡ c.len.result → All IsRising lists → IsToldMergeOf lists (root_left c.into_root.result (map Some lists)) =
    λ lists long rising. rw c.into_root.ensures.root (c.in_ok-merge.ensures.merged lists long rising) in
    merged_of g.P.Right.ReadRight.file names pages (is_kept c.args.series.now c.args.range.now c.args.marks.now.marks) c.args.sources.items c.in_ok-lanes.lanes.items c.into_root.result c.len.result
    truth opens count merged

pub returns-clause-truth : goal.returns-clause-truth
returns-clause-truth g c = λ pages truth.
    let file = g.P.Right.ReadRight.file in
    let names : List ℕ × List ℕ = (device_of c.args.series.now, measurement_of c.args.series.now) in
    zip_all (OpensAs file names) (IsTrueSource file names pages) (IsTrueLane file pages) c.args.sources.items c.in_ok-lanes.lanes.items (λ source lane opened is_true. opened.truth pages is_true)
    (subst (λ (n : List ℕ × List ℕ). AllZip (OpensAs file n) c.args.sources.items c.in_ok-lanes.lanes.items) c.in_ok-device.ensures c.in_ok-lanes.ensures.opens) truth

pub returns-clause-told : goal.returns-clause-told
returns-clause-told g c = λ pages told.
    let file = g.P.Right.ReadRight.file in
    zip_all (OpensAs file _) (IsToldSource file pages) (IsToldLane file pages) c.args.sources.items c.in_ok-lanes.lanes.items (λ source lane opened is_told. opened.told pages is_told) c.in_ok-lanes.ensures.opens told

pub returns-in_err-device-clause-reason : goal.returns-in_err-device-clause-reason
returns-in_err-device-clause-reason g c = λ pages truth.
    let p = err_from_is_err_and c.from_residual.result c.from_residual.ensures.1 in
    rw p.1 (reason_memory _ _ _ _ (omega arith) p.2)

pub returns-in_err-lanes-clause-reason : goal.returns-in_err-lanes-clause-reason
returns-in_err-lanes-clause-reason g c = λ pages truth.
    let file = g.P.Right.ReadRight.file in
    let p = err_from_is_err_and c.from_residual-in_err-lanes.result c.from_residual-in_err-lanes.ensures.1 in
    rw (p.1, p.2) (same_reason _ _ _ c.in_err-lanes.field-0.0 (c.in_err-lanes.ensures.reason pages (subst (λ (n : List ℕ × List ℕ). All (IsTrueSource file n pages) c.args.sources.items) (sym c.in_ok-device.ensures) truth)))

pub returns-in_err-merge-clause-reason : goal.returns-in_err-merge-clause-reason
returns-in_err-merge-clause-reason g c = λ pages truth.
    let p = err_from_is_err_and c.from_residual-in_err-merge.result c.from_residual-in_err-merge.ensures.1 in
    rw p.1 (reason_memory _ _ _ _ c.in_ok-lanes.ensures.later p.2)

pub returns-clause-reason : goal.returns-clause-reason
returns-clause-reason g c = λ pages truth. reason_ok _ _ _ _ c.in_ok-lanes.ensures.later
