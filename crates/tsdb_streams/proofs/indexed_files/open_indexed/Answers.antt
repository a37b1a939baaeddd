use Rattle.std.proofs.Common.{rules, ◌≡◌, ℕ, List, length, map, subst}
use Rattle.std.specs.List.{AllZip}
use Rattle.std.specs.Prelude.{All, Some}
use Rattle.tsdb_base.specs.declared.point.Point.{Point}
use Rattle.tsdb_base.specs.Points.{IsRising}
use Rattle.tsdb_streams.proofs.IndexedFacts.{opened_of}
use Rattle.tsdb_streams.proofs.OpenedFacts.{merged_of, zip_all}
use Rattle.tsdb_streams.specs.IndexedFiles.{source_of}
use Rattle.tsdb_streams.specs.KeptPoints.{is_kept}
use Rattle.tsdb_streams.specs.Lanes.{IsLaneOfStore, IsSourceOfStore, IsToldLane, IsToldSource, IsTrueLane, IsTrueSource, OpensAs}
use Rattle.tsdb_merge.specs.Steps.{root_left}
use Rattle.tsdb_merge.specs.Winners.{IsToldMergeOf}
use Rattle.tsdb_path.specs.Nodes.{device_of, measurement_of}
use Rattle.tsdb_streams.proofs.indexed_files.open_indexed.Goals as goal

pub returns-clause-merged : goal.returns-clause-merged
returns-clause-merged g c = λ pages truth.
    let file = g.R.ReadRight.file in
    let names : List ℕ × List ℕ = (device_of c.args.series.now, measurement_of c.args.series.now) in
    let opens : AllZip (OpensAs file names) (map source_of c.args.files.now) c.in_ok-lanes.lanes.items =
    subst (λ (n : List ℕ × List ℕ). AllZip (OpensAs file n) (map source_of c.args.files.now) c.in_ok-lanes.lanes.items) c.in_ok-device.ensures c.in_ok-lanes.ensures in
    let count : c.len.result ≡ length c.in_ok-lanes.lanes.items = search rules in
    let merged : (lists : List (List Point)) → length lists ≡ c.len.result → All IsRising lists → IsToldMergeOf lists (root_left c.into_root.result (map Some lists)) =
    λ lists long rising. rw c.into_root.ensures.root (c.in_ok-merge.ensures.merged lists long rising) in
    merged_of file names pages (is_kept c.args.series.now c.args.range.now c.args.marks.now.marks) (map source_of c.args.files.now) c.in_ok-lanes.lanes.items c.into_root.result c.len.result
    truth opens count merged

pub returns-clause-of_store : goal.returns-clause-of_store
returns-clause-of_store g c = λ store of.
    let file = g.R.ReadRight.file in
    zip_all (OpensAs file _) (IsSourceOfStore file store) (IsLaneOfStore file store) (map source_of c.args.files.now) c.in_ok-lanes.lanes.items
    (λ source lane opened is_of. opened_of file _ store source lane opened is_of) c.in_ok-lanes.ensures of

pub returns-clause-truth : goal.returns-clause-truth
returns-clause-truth g c = λ pages truth.
    let file = g.R.ReadRight.file in
    let names : List ℕ × List ℕ = (device_of c.args.series.now, measurement_of c.args.series.now) in
    zip_all (OpensAs file names) (IsTrueSource file names pages) (IsTrueLane file pages) (map source_of c.args.files.now) c.in_ok-lanes.lanes.items (λ source lane opened is_true. opened.truth pages is_true)
    (subst (λ (n : List ℕ × List ℕ). AllZip (OpensAs file n) (map source_of c.args.files.now) c.in_ok-lanes.lanes.items) c.in_ok-device.ensures c.in_ok-lanes.ensures) truth

pub returns-clause-told : goal.returns-clause-told
returns-clause-told g c = λ pages told.
    let file = g.R.ReadRight.file in
    zip_all (OpensAs file _) (IsToldSource file pages) (IsToldLane file pages) (map source_of c.args.files.now) c.in_ok-lanes.lanes.items (λ source lane opened is_told. opened.told pages is_told) c.in_ok-lanes.ensures told
