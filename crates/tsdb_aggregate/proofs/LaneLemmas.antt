-- A lane whose pieces are loaded one behind the other.
use Rattle.std.proofs.Common.{◌≡◌, ℕ, suc, ◌+◌, ◌^◌, ◌<◌, ◌≤◌, Bool, true, List, [], ◌∷◌, ◌++◌, length, get_or, set, Option, None, Some, Result, Ok, refl, sym, ap, ◌∙◌, subst, arith, rules}
use Rattle.std.specs.Prelude.{⊤, All, IfSome}
use Rattle.std.specs.Vec.Iter.{into_iter_items}
use Rattle.std.proofs.lemmas.List.{get_or-map, get_or-set_same, length-set}
use Rattle.std.proofs.lemmas.List.Elements.{All-tail}
use Rattle.std.proofs.lemmas.List.Sums.{sum_by-cons}
use Rattle.tsdb_base.specs.declared.point.Point.{Point}
use Rattle.tsdb_merge.specs.Supplies.{Moves, left_at}
use Rattle.tsdb_merge.specs.declared.points.PullFault.{PullFault}
use Rattle.tsdb_aggregate.specs.Lanes.{HasPiecePlaces, SpendsDown, append_told, cost_behind, lane_cost, lane_left, lane_most, lefts, told_behind}
use Rattle.tsdb_aggregate.specs.Loads.{Held, LoaderState, Spends, held_at}
use Rattle.tsdb_aggregate.specs.declared.lanes.Lane.{Lane}
use Rattle.tsdb_aggregate.specs.SpendLaws.{spends_then}

-- what is told of a list stays told
abbrev pub StaysTold : Option (List Point) → Option (List Point) → Type 0
StaysTold before now = (points : List Point) → before ≡ Some points → now ≡ Some points

-- no point was found yet, and nothing is lost
pub record IsStillFilling (before now : LoaderState) (pages pages_now : ℕ) (lane lane_now : Lane) (into : List Point) : Type 0 where
  pub empty : into ≡ []
  pub places : HasPiecePlaces (length before.held) lane_now
  pub left : StaysTold (lane_left before.held lane) (lane_left before.held lane_now)
  pub most : lane_most lane_now ≤ lane_most lane
  pub spends : SpendsDown {T = ⊤} (lane_cost before.held lane) (lane_cost before.held lane_now) before now pages pages_now (Ok tt)

-- one load more
pub spends_loaded : {T : Type 0} (a b c : LoaderState) (p q r waiting : ℕ) (before : List ℕ) (place : ℕ) (after : List ℕ) (result : Result T PullFault) → before ≡ place ∷ after
    → SpendsDown {T = ⊤} waiting (cost_behind a.held before) a b p q (Ok tt) → Spends (held_at b.held place).cost b c q r result → SpendsDown waiting (cost_behind a.held after) a c p r result
spends_loaded a b c p q r waiting before place after result is down load =
    let cost : List Held → ℕ → ℕ = λ held k. (held_at held k).cost in
    let same : cost b.held place ≡ cost a.held place = ap (λ held. cost held place) down.spends.held in
    let sum : cost_behind a.held before ≡ cost a.held place + cost_behind a.held after = ap (cost_behind a.held) is ∙ sum_by-cons (cost a.held) place after in
    let fewer = down.fewer in
    record {
      cost = down.cost + cost b.held place;
      fewer = omega (arith, same, sum, fewer);
      spends = spends_then down.cost (cost b.held place) (down.cost + cost b.held place) a b c p q r tt result (omega arith) down.spends load;
    }

-- what was told of the lane is told when a piece of it was loaded
loaded_told : (piece behind : Option (List Point)) (points : List Point) → IfSome piece (λ told. points ≡ told) → StaysTold (append_told (Some []) (append_told piece behind)) (append_told (Some points) behind)
loaded_told None behind points is all e = absurd (search rules)
loaded_told (Some told) None points is all e = absurd (search rules)
loaded_told (Some told) (Some later) points is all e = rw is e

-- a piece was loaded behind the end of the one before it
pub loaded : (a b c : LoaderState) (p q r : ℕ) (lane now next : Lane) (into more points : List Point) (place : ℕ) → IsStillFilling a b p q lane now into
    → into_iter_items now.rest ≡ [] → into_iter_items now.waiting ≡ place ∷ into_iter_items next.waiting → into_iter_items next.rest ≡ points → length points < 2 ^ 64 → more ≡ []
    → IfSome (held_at b.held place).points (λ told. points ≡ told) → Spends {T = ⊤} (held_at b.held place).cost b c q r (Ok tt) → IsStillFilling a c p r lane next more
loaded a b c p q r lane now next into more points place h end first rest below none found load =
    let waiting = into_iter_items next.waiting in
    let left : lane_left a.held now ≡ append_told (Some []) (append_told (held_at a.held place).points (told_behind a.held waiting)) = ap (λ ps. append_told (Some ps) (told_behind a.held (into_iter_items now.waiting))) end ∙ ap (λ ks. append_told (Some []) (told_behind a.held ks)) first in
    let one : IfSome (held_at a.held place).points (λ told. points ≡ told) = subst (λ hs. IfSome (held_at hs place).points (λ told. points ≡ told)) h.spends.spends.held found in
    let most = h.most in
    let long : length (into_iter_items now.waiting) ≡ suc (length waiting) = ap length first in
    let size : length (into_iter_items next.rest) ≡ length points = ap length rest in
    record {
      empty = none;
      places = All-tail (λ k. k < length a.held) place waiting (subst (λ ks. All (λ k. k < length a.held) ks) first h.places);
      left = λ all e. ap (λ ps. append_told (Some ps) (told_behind a.held waiting)) rest ∙ loaded_told (held_at a.held place).points (told_behind a.held waiting) points one all (sym left ∙ h.left all e);
      most = omega (arith, most, long, size, below);
      spends = spends_loaded a b c p q r (lane_cost a.held lane) (into_iter_items now.waiting) place waiting (Ok tt) first h.spends load;
    }

-- where a piece is handed on whole, the lane goes on behind it
moves_piece : (before piece behind : Option (List Point)) (points : List Point) → IfSome piece (λ told. points ≡ told) → StaysTold before (append_told (Some []) (append_told piece behind)) → Moves before true points (append_told (Some []) behind)
moves_piece None piece behind points is stays = tt
moves_piece (Some all) None behind points is stays = absurd (let e : None ≡ Some all = stays all refl in cc)
moves_piece (Some all) (Some told) None points is stays = absurd (let e : None ≡ Some all = stays all refl in cc)
moves_piece (Some all) (Some told) (Some later) points is stays =
    let e : Some (told ++ later) ≡ Some all = stays all refl in
    let same : told ++ later ≡ all = cc in
    rw is (sym same)

-- a piece was loaded behind the end of the one before it, and handed on whole
pub record IsHandedOn (before now : LoaderState) (pages pages_now : ℕ) (lane lane_now : Lane) (points : List Point) : Type 0 where
  pub moved : Moves (lane_left before.held lane) true points (lane_left before.held lane_now)
  pub most : length points + lane_most lane_now ≤ lane_most lane
  pub places : HasPiecePlaces (length before.held) lane_now
  pub spends : SpendsDown {T = Bool} (lane_cost before.held lane) (lane_cost before.held lane_now) before now pages pages_now (Ok true)

pub handed_on : (a b c : LoaderState) (p q r : ℕ) (lane now next : Lane) (into points : List Point) (place : ℕ) → IsStillFilling a b p q lane now into
    → into_iter_items now.rest ≡ [] → into_iter_items now.waiting ≡ place ∷ into_iter_items next.waiting → into_iter_items next.rest ≡ [] → length points ≤ 1000
    → IfSome (held_at b.held place).points (λ told. points ≡ told) → Spends {T = Bool} (held_at b.held place).cost b c q r (Ok true) → IsHandedOn a c p r lane next points
handed_on a b c p q r lane now next into points place h end first rest below found load =
    let waiting = into_iter_items next.waiting in
    let left : lane_left a.held now ≡ append_told (Some []) (append_told (held_at a.held place).points (told_behind a.held waiting)) = ap (λ ps. append_told (Some ps) (told_behind a.held (into_iter_items now.waiting))) end ∙ ap (λ ks. append_told (Some []) (told_behind a.held ks)) first in
    let one : IfSome (held_at a.held place).points (λ told. points ≡ told) = subst (λ hs. IfSome (held_at hs place).points (λ told. points ≡ told)) h.spends.spends.held found in
    let most = h.most in
    let long : length (into_iter_items now.waiting) ≡ suc (length waiting) = ap length first in
    let size : length (into_iter_items next.rest) ≡ 0 = ap length rest in
    let none : append_told (Some []) (told_behind a.held waiting) ≡ lane_left a.held next = ap (λ ps. append_told (Some ps) (told_behind a.held waiting)) (sym rest) in
    record {
      moved = subst (λ after. Moves (lane_left a.held lane) true points after) none (moves_piece (lane_left a.held lane) (held_at a.held place).points (told_behind a.held waiting) points one (λ all e. sym left ∙ h.left all e));
      most = omega (arith, most, long, size, below);
      places = All-tail (λ k. k < length a.held) place waiting (subst (λ ks. All (λ k. k < length a.held) ks) first h.places);
      spends = spends_loaded a b c p q r (lane_cost a.held lane) (into_iter_items now.waiting) place waiting (Ok true) first h.spends load;
    }

-- ---- one lane of several

module _ (held : List Held) (lanes : List Lane) (k : ℕ) (before after : Lane) (l : k < length lanes) (is : before ≡ get_or lanes k before) where
  pub left_before : left_at (lefts held lanes) k ≡ lane_left held before
  left_before = get_or-map (lane_left held) lanes k before None l ∙ ap (lane_left held) (sym is)

  pub left_after : left_at (lefts held (set lanes k after)) k ≡ lane_left held after
  left_after = get_or-map (lane_left held) (set lanes k after) k before None (omega (arith, l, length-set lanes k after)) ∙ ap (lane_left held) (get_or-set_same lanes k after before l)
