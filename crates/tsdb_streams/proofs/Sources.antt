-- The winners of surviving points are the values of their places.
use Rattle.std.proofs.Common.{◌≡◌, ℕ, List, [], ◌∷◌, Option, None, Some, inl, inr, refl, sym, ap, ◌∙◌, subst}
use Rattle.std.specs.Prelude.{ℤ, ◌≢◌, All, Contains}
use Rattle.std.specs.List.{AllZip}
use Rattle.std.specs.Option.{option_or}
use Rattle.std.proofs.lemmas.List.Elements.{All-cons, All-contains, All-head, All-nil, All-tail}
use Rattle.tsdb_base.specs.declared.point.Point.{Point}
use Rattle.tsdb_base.specs.declared.value.Value.{Value}
use Rattle.tsdb_state.specs.Layers.{Layer, survivor, value_in}
use Rattle.tsdb_marks.specs.declared.marks.Mark.{Mark}
use Rattle.tsdb_merge.specs.Winners.{HasNoneAt, IsMergeOf, IsWinner}
use Rattle.tsdb_merge.proofs.MergeLemmas.{All-from_contains}
use Rattle.tsdb_streams.specs.Survivors.{AreSurvivors, place_at}

none_some : {A : Type 0} (a : A) → None ≡ Some a → ⊥
none_some a e = absurd cc

module _ (marks : List Mark) (path : List ℕ) where
  -- a list without a point at the time is of a layer without a survivor there
  none_survives : (layer : Layer) (points : List Point) (time : ℤ) → AreSurvivors marks path layer points → HasNoneAt time points → survivor marks (place_at path time) layer ≡ None
  none_survives layer points time are none = step (survivor marks (place_at path time) layer) refl
    where
      step : (found : Option Value) → survivor marks (place_at path time) layer ≡ found → survivor marks (place_at path time) layer ≡ None
      step None e = e
      step (Some v) e = absurd (All-contains (λ (p : Point). p.time ≢ time) points (record { time = time; value = v }) none ((are.has time v).1 e) refl)

  survives_none : (layer : Layer) (points : List Point) (time : ℤ) → AreSurvivors marks path layer points → survivor marks (place_at path time) layer ≡ None → HasNoneAt time points
  survives_none layer points time are none = All-from_contains (λ (p : Point). p.time ≢ time) points (λ p h e.
      none_some p.value (sym (subst (λ t. survivor marks (place_at path t) layer ≡ None) (sym e) none) ∙ (are.has p.time p.value).0 h))

  none_in : (layers : List Layer) (lists : List (List Point)) (time : ℤ) → AllZip (AreSurvivors marks path) layers lists → All (HasNoneAt time) lists → value_in marks (place_at path time) layers ≡ None
  none_in [] [] time zip none = refl
  none_in [] (points ∷ lists) time zip none = absurd zip
  none_in (layer ∷ layers) [] time zip none = absurd zip
  none_in (layer ∷ layers) (points ∷ lists) time zip none =
      let higher = none_in layers lists time zip.1 (All-tail (HasNoneAt time) points lists none) in
      let own = none_survives layer points time zip.0 (All-head (HasNoneAt time) points lists none) in
      ap (λ v. option_or v (survivor marks (place_at path time) layer)) higher ∙ own

  in_none : (layers : List Layer) (lists : List (List Point)) (time : ℤ) → AllZip (AreSurvivors marks path) layers lists → value_in marks (place_at path time) layers ≡ None → All (HasNoneAt time) lists
  in_none [] [] time zip none = All-nil (HasNoneAt time)
  in_none [] (points ∷ lists) time zip none = absurd zip
  in_none (layer ∷ layers) [] time zip none = absurd zip
  in_none (layer ∷ layers) (points ∷ lists) time zip none = step (λ e. in_none layers lists time zip.1 e) (value_in marks (place_at path time) layers) refl
    where
      step : (value_in marks (place_at path time) layers ≡ None → All (HasNoneAt time) lists) → (higher : Option Value) → value_in marks (place_at path time) layers ≡ higher → All (HasNoneAt time) (points ∷ lists)
      step rest None e =
          let own : survivor marks (place_at path time) layer ≡ None = sym (ap (λ v. option_or v (survivor marks (place_at path time) layer)) e) ∙ none in
          All-cons (HasNoneAt time) points lists (survives_none layer points time zip.0 own) (rest e)
      step rest (Some v) e = absurd (none_some v (sym none ∙ ap (λ w. option_or w (survivor marks (place_at path time) layer)) e))

  pub winner_is_value : (layers : List Layer) (lists : List (List Point)) (p : Point) → AllZip (AreSurvivors marks path) layers lists → IsWinner lists p → value_in marks (place_at path p.time) layers ≡ Some p.value
  winner_is_value [] [] p zip w = absurd w
  winner_is_value [] (points ∷ lists) p zip w = absurd zip
  winner_is_value (layer ∷ layers) [] p zip w = absurd zip
  winner_is_value (layer ∷ layers) (points ∷ lists) p zip (inl w) = ap (λ v. option_or v (survivor marks (place_at path p.time) layer)) (winner_is_value layers lists p zip.1 w)
  winner_is_value (layer ∷ layers) (points ∷ lists) p zip (inr w) = ap (λ v. option_or v (survivor marks (place_at path p.time) layer)) (none_in layers lists p.time zip.1 w.1) ∙ (zip.0.has p.time p.value).0 w.0

  pub value_is_winner : (layers : List Layer) (lists : List (List Point)) (time : ℤ) (value : Value) → AllZip (AreSurvivors marks path) layers lists → value_in marks (place_at path time) layers ≡ Some value
      → IsWinner lists (record { time = time; value = value })
  value_is_winner [] [] time value zip e = none_some value e
  value_is_winner [] (points ∷ lists) time value zip e = absurd zip
  value_is_winner (layer ∷ layers) [] time value zip e = absurd zip
  value_is_winner (layer ∷ layers) (points ∷ lists) time value zip e = step (λ found. value_is_winner layers lists time value zip.1 found) (value_in marks (place_at path time) layers) refl
    where
      step : (value_in marks (place_at path time) layers ≡ Some value → IsWinner lists (record { time = time; value = value })) → (higher : Option Value) → value_in marks (place_at path time) layers ≡ higher → IsWinner (points ∷ lists) (record { time = time; value = value })
      step rest None none = inr ((zip.0.has time value).1 (sym (ap (λ v. option_or v (survivor marks (place_at path time) layer)) none) ∙ e), in_none layers lists time zip.1 none)
      step rest (Some v) found = inl (rest (found ∙ sym (ap (λ w. option_or w (survivor marks (place_at path time) layer)) found) ∙ e))

pub merge_values : (marks : List Mark) (path : List ℕ) (layers : List Layer) (lists : List (List Point)) (points : List Point) → AllZip (AreSurvivors marks path) layers lists → IsMergeOf lists points
    → All (λ point. value_in marks (place_at path point.time) layers ≡ Some point.value) points
merge_values marks path layers lists points zip merge = All-from_contains (λ (point : Point). value_in marks (place_at path point.time) layers ≡ Some point.value) points
    (λ p h. winner_is_value marks path layers lists p zip (All-contains (IsWinner lists) points p merge.winners h))

pub merge_all : (marks : List Mark) (path : List ℕ) (layers : List Layer) (lists : List (List Point)) (points : List Point) → AllZip (AreSurvivors marks path) layers lists → IsMergeOf lists points
    → (time : ℤ) (value : Value) → value_in marks (place_at path time) layers ≡ Some value → Contains points (record { time = time; value = value })
merge_all marks path layers lists points zip merge time value e = merge.complete (record { time = time; value = value }) (value_is_winner marks path layers lists time value zip e)
