use Rattle.std.proofs.Common.{rules, ◌≡◌, ◌∙◌, ℕ, List, length, subst, sym, arith}
use Rattle.std.specs.List.{AllZip}
use Rattle.std.proofs.lemmas.Result.{err_from_is_err_and}
use Rattle.std.specs.Prelude.{All, flat_map}
use Rattle.tsdb_streams.proofs.OpenedFacts.{zip_all}
use Rattle.tsdb_streams.specs.Lanes.{IsLaneOfStore, IsToldLane, IsToldSource, IsTrueLane, IsTrueSource, OpensAs}
use Rattle.tsdb_streams.proofs.Reasons.{reason_memory, reason_ok, same_reason}
use Rattle.tsdb_path.specs.Nodes.{device_of, measurement_of}
use Rattle.tsdb_merge.specs.Steps.{root_left}
use Rattle.tsdb_streams.proofs.OpenParted.{all_asked, all_cleaned, flagged_of, flagged_told, flagged_true, as_many_due, is_parted}
use Rattle.tsdb_streams.specs.Cleaning.{lane_passed}
use Rattle.tsdb_streams.specs.declared.survival.Kept.{Kept}
use Rattle.std.specs.List.Sorted.{IsPermutation}
use Rattle.tsdb_streams.proofs.opening.open_parted.Goals as goal

pub returns-clause-parted : goal.returns-clause-parted
returns-clause-parted g c = λ pages truth lists kept all rising left.
    let names : List ℕ × List ℕ = (device_of c.args.series.now, measurement_of c.args.series.now) in
    let opens : AllZip (OpensAs g.P.Right.ReadRight.file names) c.args.sources.items c.in_ok-lanes.lanes.items =
    subst (λ (n : List ℕ × List ℕ). AllZip (OpensAs g.P.Right.ReadRight.file n) c.args.sources.items c.in_ok-lanes.lanes.items) c.in_ok-device.ensures c.in_ok-lanes.ensures.opens in
    let asked : Kept = record { series = c.args.series; range = c.args.range.now; marks = c.args.marks } in
    let news = c.pass_clean.new.lanes.items in
    let perm : IsPermutation (flat_map lane_passed news) c.in_ok-clean.clean.items = subst (λ ls. IsPermutation (flat_map lane_passed ls) c.in_ok-clean.clean.items) c.deref.ensures.value c.in_ok-clean.ensures.all in
    let count : c.len.result ≡ length news = search rules in
    is_parted g.P.Right.ReadRight.file pages c.args.name asked names c.args.sources.items c.in_ok-lanes.lanes.items news lists opens truth c.in_ok-pass_clean.ensures all rising c.in_ok-clean.clean.items kept (root_left c.into_root.result) perm c.in_ok-clean.ensures.order left
    (λ ls long rises. rw c.into_root.ensures.root (c.in_ok-merge.ensures.merged ls (long ∙ sym count) rises))

pub returns-clause-asked : goal.returns-clause-asked
returns-clause-asked g c =
    let asked : Kept = record { series = c.args.series; range = c.args.range.now; marks = c.args.marks } in
    let news = c.pass_clean.new.lanes.items in
    let perm : IsPermutation (flat_map lane_passed news) c.in_ok-clean.clean.items = subst (λ ls. IsPermutation (flat_map lane_passed ls) c.in_ok-clean.clean.items) c.deref.ensures.value c.in_ok-clean.ensures.all in
    all_asked c.args.name asked c.in_ok-lanes.lanes.items news c.in_ok-clean.clean.items c.in_ok-pass_clean.ensures perm

pub returns-clause-truth : goal.returns-clause-truth
returns-clause-truth g c = λ pages truth.
    let file = g.P.Right.ReadRight.file in
    let names : List ℕ × List ℕ = (device_of c.args.series.now, measurement_of c.args.series.now) in
    let asked : Kept = record { series = c.args.series; range = c.args.range.now; marks = c.args.marks } in
    all_cleaned c.args.name asked c.in_ok-lanes.lanes.items c.pass_clean.new.lanes.items (IsTrueLane file pages) (flagged_true file pages) c.in_ok-pass_clean.ensures (zip_all (OpensAs file names) (IsTrueSource file names pages) (IsTrueLane file pages) c.args.sources.items c.in_ok-lanes.lanes.items (λ source lane opened is_true. opened.truth pages is_true)
    (subst (λ (n : List ℕ × List ℕ). AllZip (OpensAs file n) c.args.sources.items c.in_ok-lanes.lanes.items) c.in_ok-device.ensures c.in_ok-lanes.ensures.opens) truth)

pub returns-clause-told : goal.returns-clause-told
returns-clause-told g c = λ pages told.
    let file = g.P.Right.ReadRight.file in
    let asked : Kept = record { series = c.args.series; range = c.args.range.now; marks = c.args.marks } in
    all_cleaned c.args.name asked c.in_ok-lanes.lanes.items c.pass_clean.new.lanes.items (IsToldLane file pages) (flagged_told file pages) c.in_ok-pass_clean.ensures
    (zip_all (OpensAs file _) (IsToldSource file pages) (IsToldLane file pages) c.args.sources.items c.in_ok-lanes.lanes.items (λ source lane opened is_told. opened.told pages is_told) c.in_ok-lanes.ensures.opens told)

pub returns-in_err-device-clause-reason : goal.returns-in_err-device-clause-reason
returns-in_err-device-clause-reason g c = λ pages truth.
    let p = err_from_is_err_and c.from_residual.result c.from_residual.ensures.1 in
    rw p.1 (reason_memory _ _ _ _ (omega arith) p.2)

pub returns-in_err-lanes-clause-reason : goal.returns-in_err-lanes-clause-reason
returns-in_err-lanes-clause-reason g c = λ pages truth.
    let file = g.P.Right.ReadRight.file in
    let p = err_from_is_err_and c.from_residual-in_err-lanes.result c.from_residual-in_err-lanes.ensures.1 in
    rw (p.1, p.2) (same_reason _ _ _ c.in_err-lanes.field-0.0 (c.in_err-lanes.ensures.reason pages (subst (λ (n : List ℕ × List ℕ). All (IsTrueSource file n pages) c.args.sources.items) (sym c.in_ok-device.ensures) truth)))

pub returns-in_err-merge-clause-reason : goal.returns-in_err-merge-clause-reason
returns-in_err-merge-clause-reason g c = λ pages truth.
    let p = err_from_is_err_and c.from_residual-in_err-merge.result c.from_residual-in_err-merge.ensures.1 in
    rw p.1 (reason_memory _ _ _ _ c.in_ok-lanes.ensures.later p.2)

pub returns-clause-reason : goal.returns-clause-reason
returns-clause-reason g c = λ pages truth. reason_ok _ _ _ _ c.in_ok-lanes.ensures.later

pub returns-clause-of_store : goal.returns-clause-of_store
returns-clause-of_store g c =
    let file = g.P.Right.ReadRight.file in
    let asked : Kept = record { series = c.args.series; range = c.args.range.now; marks = c.args.marks } in
    all_cleaned c.args.name asked c.in_ok-lanes.lanes.items c.pass_clean.new.lanes.items (IsLaneOfStore file (g.P.Port.store c.open_sources.new.port)) (flagged_of file (g.P.Port.store c.open_sources.new.port)) c.in_ok-pass_clean.ensures c.in_ok-lanes.ensures.of_store

pub returns-in_err-pass_clean-clause-reason : goal.returns-in_err-pass_clean-clause-reason
returns-in_err-pass_clean-clause-reason g c = λ pages truth.
    let p = err_from_is_err_and c.from_residual-in_err-pass_clean.result c.from_residual-in_err-pass_clean.ensures.1 in
    rw p.1 (reason_memory _ _ _ _ c.in_ok-lanes.ensures.later p.2)

pub returns-in_err-clean-clause-reason : goal.returns-in_err-clean-clause-reason
returns-in_err-clean-clause-reason g c = λ pages truth.
    let p = err_from_is_err_and c.from_residual-in_err-clean.result c.from_residual-in_err-clean.ensures.1 in
    rw p.1 (reason_memory _ _ _ _ c.in_ok-lanes.ensures.later p.2)

pub returns-clause-due : goal.returns-clause-due
returns-clause-due g c = λ pages truth lists all.
    let names : List ℕ × List ℕ = (device_of c.args.series.now, measurement_of c.args.series.now) in
    let opens : AllZip (OpensAs g.P.Right.ReadRight.file names) c.args.sources.items c.in_ok-lanes.lanes.items =
    subst (λ (n : List ℕ × List ℕ). AllZip (OpensAs g.P.Right.ReadRight.file n) c.args.sources.items c.in_ok-lanes.lanes.items) c.in_ok-device.ensures c.in_ok-lanes.ensures.opens in
    let asked : Kept = record { series = c.args.series; range = c.args.range.now; marks = c.args.marks } in
    as_many_due g.P.Right.ReadRight.file pages c.args.name asked names c.args.sources.items c.in_ok-lanes.lanes.items c.pass_clean.new.lanes.items lists opens truth c.in_ok-pass_clean.ensures all
