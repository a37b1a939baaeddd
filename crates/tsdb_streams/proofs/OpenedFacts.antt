-- The merge of sources that were opened.
use Rattle.std.proofs.Common.{◌≡◌, ℕ, Bool, List, [], ◌∷◌, length, map, sym, subst, ◌∙◌}
use Rattle.std.specs.List.{AllZip}
use Rattle.std.specs.Prelude.{All, Option, Some}
use Rattle.std.proofs.lemmas.List.Elements.{All-cons, All-head, All-nil, All-tail}
use Rattle.tsdb_base.specs.declared.point.Point.{Point}
use Rattle.tsdb_streams.proofs.LaneFacts.{opened_left}
use Rattle.tsdb_streams.specs.Files.{FilePages}
use Rattle.tsdb_streams.specs.Lanes.{IsTrueSource, OpensAs, lane_points_left, source_left}
use Rattle.tsdb_streams.specs.declared.lane.Lane.{Lane}
use Rattle.tsdb_streams.specs.declared.source.StreamSource.{StreamSource}
use Rattle.tsdb_merge.specs.Steps.{root_left}
use Rattle.tsdb_merge.specs.declared.tree.Node.{Node}
use Rattle.tsdb_base.specs.Points.{IsRising}
use Rattle.tsdb_merge.specs.Winners.{IsToldMergeOf}
use Rattle.tsdb_outside.specs.Files.{NamedFile}

-- where each pair of elements is related so, and the first of each is so, the second is
pub zip_all : {A B : Type 0} (R : A → B → Type 0) (P : A → Type 0) (Q : B → Type 0) (xs : List A) (ys : List B) → ((x : A) (y : B) → R x y → P x → Q y) → AllZip R xs ys → All P xs → All Q ys
zip_all R P Q [] [] step zip all = All-nil Q
zip_all R P Q [] (y ∷ ys) step zip all = absurd zip
zip_all R P Q (x ∷ xs) [] step zip all = absurd zip
zip_all R P Q (x ∷ xs) (y ∷ ys) step zip all = All-cons Q y ys (step x y zip.0 (All-head P x xs all)) (zip_all R P Q xs ys step zip.1 (All-tail P x xs all))

zip_left : {A B : Type 0} (R S : A → B → Type 0) (P : A → Type 0) (xs : List A) (ys : List B) → ((x : A) (y : B) → R x y → P x → S x y) → AllZip R xs ys → All P xs → AllZip S xs ys
zip_left R S P [] [] step zip all = tt
zip_left R S P [] (y ∷ ys) step zip all = absurd zip
zip_left R S P (x ∷ xs) [] step zip all = absurd zip
zip_left R S P (x ∷ xs) (y ∷ ys) step zip all = (step x y zip.0 (All-head P x xs all), zip_left R S P xs ys step zip.1 (All-tail P x xs all))

-- where all sources tell their points, what is left of a merge that was just made is the merge of these
pub merged_of : {R : Type 0} (file : R → NamedFile) (names : List ℕ × List ℕ) (pages : FilePages) (keep : ℕ → Point → Bool) (sources : List (StreamSource R)) (lanes : List (Lane R)) (root : Option Node) (n : ℕ)
    → All (IsTrueSource file names pages) sources → AllZip (OpensAs file names) sources lanes → n ≡ length lanes → ((lists : List (List Point)) → length lists ≡ n → All IsRising lists → IsToldMergeOf lists (root_left root (map Some lists)))
    → (lists : List (List Point)) → map (source_left file pages keep) sources ≡ map Some lists → All IsRising lists → IsToldMergeOf lists (root_left root (map (lane_points_left file pages keep) lanes))
merged_of file names pages keep sources lanes root n truth opens count merged lists told rising =
    let opened = opened_left (source_left file pages keep) (lane_points_left file pages keep) sources lanes lists
    (zip_left (OpensAs file names) (λ source lane. (points : List Point) → source_left file pages keep source ≡ Some points → lane_points_left file pages keep lane ≡ Some points) (IsTrueSource file names pages) sources lanes
    (λ source lane opened is_true. opened.left pages is_true keep) opens truth) told in
    subst (λ ls. IsToldMergeOf lists (root_left root ls)) (sym opened.0) (merged lists (opened.1 ∙ sym count) rising)
