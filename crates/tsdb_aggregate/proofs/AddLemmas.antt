-- The points of a merge that are in a range, added to a tally one by one.
use Rattle.std.proofs.Common.{◌≡◌, Bool, true, false, cond, List, [], ◌∷◌, ◌++◌, refl, sym, ap, ◌∙◌, subst, filter}
use Rattle.std.specs.Prelude.{Option, Some, None}
use Rattle.std.proofs.lemmas.List.{append-nil, append_assoc}
use Rattle.tsdb_base.specs.declared.answers.Aggregate.{Aggregate}
use Rattle.tsdb_base.specs.declared.point.Point.{Point}
use Rattle.tsdb_base.specs.declared.point.Range.{Range}
use Rattle.tsdb_model.specs.World.{is_in}
use Rattle.tsdb_merge.specs.Winners.{TakesTold}
use Rattle.tsdb_aggregate.specs.Steps.{AddsPoint, AddsWithin, IsSettledTally, IsTally}
use Rattle.tsdb_aggregate.specs.declared.tally.Tally.{Tally}

abbrev pub within : Range → List Point → List Point
within range points = filter (λ point. is_in range point.time) points

-- of a list, the points in the range that were taken are in the tally, and the others are left
pub record IsTaken (range : Range) (name : Aggregate) (points earlier : List Point) (left : Option (List Point)) (tally : Tally) : Type 0 where
  pub taken : List Point
  pub rest : List Point
  pub told : left ≡ Some rest
  pub split : within range points ≡ taken ++ within range rest
  pub tally_is : IsTally name (earlier ++ taken) tally

-- so it is of each list that the merge may have
abbrev pub TakesSoFar : Range → Aggregate → Option (List Point) → Tally → Option (List Point) → Tally → Type 0
TakesSoFar range name before tally left tally_now = (points earlier : List Point) → before ≡ Some points → IsTally name earlier tally → IsTaken range name points earlier left tally_now

pub none_taken : (range : Range) (name : Aggregate) (before : Option (List Point)) (tally : Tally) → TakesSoFar range name before tally before tally
none_taken range name before tally points earlier told first = record {
  taken = [];
  rest = points;
  told = told;
  split = refl;
  tally_is = subst (λ xs. IsTally name xs tally) (sym (append-nil earlier)) first;
}

within_cons : (range : Range) (point : Point) (points : List Point) → within range (point ∷ points) ≡ within range (point ∷ []) ++ within range points
within_cons range point points = step (is_in range point.time) (within range points)
  where
    step : (b : Bool) (rest : List Point) → cond b (point ∷ rest) rest ≡ cond b (point ∷ []) [] ++ rest
    step true rest = refl
    step false rest = refl

-- one point more
pub took : (range : Range) (name : Aggregate) (before now after : Option (List Point)) (tally old new : Tally) (point : Point) → TakesTold now (Some point) after → AddsPoint range name point old new
    → TakesSoFar range name before tally now old → TakesSoFar range name before tally after new
took range name before now None tally old new point takes adds h points earlier told first =
    absurd (subst (λ n. TakesTold n (Some point) None) (h points earlier told first).told takes)
took range name before now (Some rest) tally old new point takes adds h points earlier told first =
    let so_far = h points earlier told first in
    let head : so_far.rest ≡ point ∷ rest = subst (λ n. TakesTold n (Some point) (Some rest)) so_far.told takes in
    let one = within range (point ∷ []) in
    record {
      taken = so_far.taken ++ one;
      rest = rest;
      told = refl;
      split = so_far.split ∙ ap (λ ps. so_far.taken ++ within range ps) head ∙ ap (λ ps. so_far.taken ++ ps) (within_cons range point rest) ∙ sym (append_assoc so_far.taken one (within range rest));
      tally_is = subst (λ xs. IsTally name xs new) (append_assoc earlier so_far.taken one) (adds (earlier ++ so_far.taken) so_far.tally_is);
    }

-- at the end
pub all_taken : (range : Range) (name : Aggregate) (before now after : Option (List Point)) (tally old : Tally) → TakesTold now None after → TakesSoFar range name before tally now old → AddsWithin range name before tally old
all_taken range name before now None tally old takes h points earlier told first =
    absurd (subst (λ n. TakesTold n None None) (h points earlier told first).told takes)
all_taken range name before now (Some rest) tally old takes h points earlier told first =
    let so_far = h points earlier told first in
    let end : (so_far.rest ≡ []) × (rest ≡ []) = subst (λ n. TakesTold n None (Some rest)) so_far.told takes in
    let all : within range points ≡ so_far.taken = so_far.split ∙ ap (λ ps. so_far.taken ++ within range ps) end.0 ∙ append-nil so_far.taken in
    subst (λ xs. IsTally name (earlier ++ xs) old) (sym all) so_far.tally_is

-- where no later point changes the tally
pub settled : (range : Range) (name : Aggregate) (before now : Option (List Point)) (tally old : Tally) → IsSettledTally name old
    → TakesSoFar range name before tally now old → AddsWithin range name before tally old
settled range name before now tally old stays h points earlier told first =
    let so_far = h points earlier told first in
    let more = stays (earlier ++ so_far.taken) (within range so_far.rest) so_far.tally_is in
    let all : (earlier ++ so_far.taken) ++ within range so_far.rest ≡ earlier ++ within range points = append_assoc earlier so_far.taken (within range so_far.rest) ∙ ap (λ xs. earlier ++ xs) (sym so_far.split) in
    subst (λ xs. IsTally name xs old) all more

-- ---- one point
