-- One source of several, and what is left of all of them.
use Rattle.std.proofs.Common.{◌≡◌, ℕ, suc, ◌<◌, ◌≤◌, List, [], ◌∷◌, length, get_or, set, map, Result, Ok, Err, refl, sym, ap, ◌∙◌, subst, arith}
use Rattle.std.specs.List.{AllZip}
use Rattle.std.specs.Prelude.{◌+◌, All, OnOk, Option, None, Some, sum_by}
use Rattle.std.proofs.lemmas.List.Sums.{sum_by-set}
use Rattle.std.proofs.lemmas.List.{get_or-map, get_or-set_same, length-set}
use Rattle.std.proofs.lemmas.List.Elements.{All-get_or, All-set}
use Rattle.tsdb_base.specs.declared.point.Point.{Point}
use Rattle.tsdb_streams.specs.Files.{HasReason}
use Rattle.tsdb_streams.proofs.Reasons.{reason_then}
use Rattle.tsdb_merge.specs.Supplies.{left_at}
use Rattle.tsdb_outside.specs.declared.faults.StoreFault.{StoreFault}

module _ {L : Type 0} (lanes : List L) (k : ℕ) (before after : L) (l : k < length lanes) (is : before ≡ get_or lanes k before) where
  pub left_before : (left : L → Option (List Point)) → left_at (map left lanes) k ≡ left before
  left_before left = get_or-map left lanes k before None l ∙ ap left (sym is)

  pub left_after : (left : L → Option (List Point)) → left_at (map left (set lanes k after)) k ≡ left after
  left_after left = get_or-map left (set lanes k after) k before None (omega (arith, l, length-set lanes k after)) ∙ ap left (get_or-set_same lanes k after before l)

  pub one_of : (P : L → Type 0) → All P lanes → P before
  one_of P all = subst P (sym is) (All-get_or P lanes k before l all)

  pub all_after : (P : L → Type 0) → (P before → P after) → All P lanes → All P (set lanes k after)
  all_after P stays all = All-set P lanes k after (stays (one_of P all)) all

  pub most_after : {T E : Type 0} (result : Result T E) (most : L → ℕ) (n : ℕ) → OnOk result (n + most after ≤ most before) → OnOk result (n + sum_by most (set lanes k after) ≤ sum_by most lanes)
  most_after (Ok x) most n one =
      let sum = sum_by-set most lanes k after before l in
      let same : most before ≡ most (get_or lanes k before) = ap most is in
      omega (arith, one, sum, same)
  most_after (Err e) most n one = tt

  pub due_after : (due : L → ℕ) → due after ≡ due before → sum_by due (set lanes k after) ≡ sum_by due lanes
  due_after due one =
      let sum = sum_by-set due lanes k after before l in
      let same : due before ≡ due (get_or lanes k before) = ap due is in
      omega (arith, one, sum, same)

  pub reason_one : {T : Type 0} (P : L → Type 0) (a b : ℕ) (result : Result T StoreFault) → HasReason (P before) a b result → HasReason (All P lanes) a b result
  reason_one P a b result reason = reason_then (All P lanes) (P before) a a b result (one_of P) (omega arith) reason

-- ---- sources that are opened

none_some : {A : Type 0} (x : A) (xs : List A) → [] ≡ x ∷ xs → ⊥
none_some x xs e = cc

pub opened_left : {S L : Type 0} (source_left : S → Option (List Point)) (lane_left : L → Option (List Point)) (sources : List S) (lanes : List L) (lists : List (List Point))
    → AllZip (λ source lane. (points : List Point) → source_left source ≡ Some points → lane_left lane ≡ Some points) sources lanes → map source_left sources ≡ map Some lists
    → (map lane_left lanes ≡ map Some lists) × (length lists ≡ length lanes)
opened_left source_left lane_left [] [] [] opens told = (refl, refl)
opened_left source_left lane_left [] [] (points ∷ lists) opens told = absurd (none_some (Some points) (map Some lists) told)
opened_left source_left lane_left [] (lane ∷ lanes) lists opens told = absurd opens
opened_left source_left lane_left (source ∷ sources) [] lists opens told = absurd opens
opened_left source_left lane_left (source ∷ sources) (lane ∷ lanes) [] opens told = absurd (none_some (source_left source) (map source_left sources) (sym told))
opened_left source_left lane_left (source ∷ sources) (lane ∷ lanes) (points ∷ lists) opens told =
    let first : source_left source ≡ Some points = cc in
    let rest : map source_left sources ≡ map Some lists = cc in
    let later = opened_left source_left lane_left sources lanes lists opens.1 rest in
    let one = opens.0 points first in
    (λ i. one i ∷ later.0 i, ap suc later.1)
