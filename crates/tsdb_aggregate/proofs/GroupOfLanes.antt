-- What a merge of the lanes of a group adds to a tally, and what its loads cost.
use Rattle.std.proofs.Common.{◌≡◌, ℕ, List, [], ◌∷◌, length, Option, None, Some, Result, Ok, Err, inl, inr, refl, sym, ap, ◌∙◌, map, filter, arith}
use Rattle.std.specs.Prelude.{⊤, All, AllPairs, OnOk}
use Rattle.std.proofs.lemmas.List.{length-map}
use Rattle.std.proofs.lemmas.List.Sorted.{All-permutation, IsPermutation-map}
use Rattle.tsdb_base.specs.declared.answers.Aggregate.{Aggregate}
use Rattle.tsdb_base.specs.declared.point.Point.{Point}
use Rattle.tsdb_base.specs.declared.point.Range.{Range}
use Rattle.tsdb_model.specs.World.{is_in}
use Rattle.tsdb_merge.specs.Causes.{HasPullCause, HasRisen, HasSomeCause, SomeHasRisen}
use Rattle.tsdb_base.specs.Points.{IsRising}
use Rattle.tsdb_merge.specs.Winners.{IsToldMergeOf}
use Rattle.tsdb_merge.specs.declared.points.PullFault.{PullFault}
use Rattle.tsdb_merge.specs.declared.points.PullFault.TheVariants.{Failed, Damaged, Memory}
use Rattle.tsdb_aggregate.specs.Lanes.{AreLanesOf, SpendsDown, rows_joined, lefts}
use Rattle.tsdb_aggregate.specs.Loads.{Held, LoaderState, Spends}
use Rattle.tsdb_aggregate.specs.Pieces.{ArePiecesApart, HasOrder}
use Rattle.tsdb_aggregate.specs.Steps.{AddsMerge, AddsWinners, AddsWithin, held_piece, held_parts}
use Rattle.tsdb_aggregate.specs.declared.entry.PieceEntry.{PieceEntry}
use Rattle.tsdb_aggregate.specs.declared.lanes.Lane.{Lane}
use Rattle.tsdb_aggregate.specs.declared.tally.Tally.{Tally}
use Rattle.tsdb_aggregate.proofs.GroupLemmas.{winners_of_group}
use Rattle.tsdb_aggregate.proofs.RowLemmas.{points_behind, rows_merge, rows_rising, told_lanes}

-- a merge of lists that are told adds their winners
pub adds_merge : (range : Range) (name : Aggregate) (lists : List (List Point)) (left : Option (List Point)) (before now : Tally) → IsToldMergeOf lists left → AddsWithin range name left before now → AddsMerge range name lists before now
adds_merge range name lists None before now h adds = absurd h
adds_merge range name lists (Some all) before now h adds = record { points = all; merge = h; adds = λ earlier first. adds all earlier refl first }

pub same_count : (lists : List (List Point)) (left : List (Option (List Point))) (n : ℕ) → n ≡ length left → left ≡ map Some lists → length lists ≡ n
same_count lists left n is told = sym (is ∙ ap length told ∙ length-map lists Some)

pub adds_lanes : (held : List Held) (range : Range) (name : Aggregate) (group : List PieceEntry) (lanes : List Lane) (before now : Tally) → AreLanesOf group lanes
    → ((lists : List (List Point)) → lefts held lanes ≡ map Some lists → All IsRising lists → AddsMerge range name lists before now)
    → All HasOrder (held_parts held group) → AllPairs ArePiecesApart (held_parts held group) → AddsWinners held range name group before now
adds_lanes held range name group lanes before now of adds order apart =
    let rows = of.rows in
    let inside : All HasOrder (held_parts held (rows_joined rows)) = All-permutation HasOrder (held_parts held group) (held_parts held (rows_joined rows)) (IsPermutation-map (held_piece held) group (rows_joined rows) of.all) order in
    let added = adds (map (points_behind held) rows) (told_lanes held rows lanes of.lanes_are inside) (rows_rising held rows inside of.each) in
    record {
      points = filter (λ point. is_in range point.time) added.points;
      winners = winners_of_group held range group (rows_joined rows) added.points of.all of.order apart (rows_merge held [] rows added.points inside of.each added.merge);
      adds = added.adds;
    }

risen_one : (fault : PullFault) (f g d e : ℕ) → SomeHasRisen fault (f ∷ []) (g ∷ []) (d ∷ []) (e ∷ []) → HasRisen fault f g d e
risen_one Failed f g d e (inl h) = h
risen_one Failed f g d e (inr h) = absurd h
risen_one (Damaged at) f g d e (inl h) = h
risen_one (Damaged at) f g d e (inr h) = absurd h
risen_one Memory f g d e h = tt

cause_one : {T : Type 0} (f g d e : ℕ) (result : Result T PullFault) → HasSomeCause (f ∷ []) (g ∷ []) (d ∷ []) (e ∷ []) result → HasPullCause f g d e result
cause_one f g d e (Ok x) h = record { failures_later = h.failures_later.0; damages_later = h.damages_later.0; fault = tt }
cause_one f g d e (Err fault) h = record { failures_later = h.failures_later.0; damages_later = h.damages_later.0; fault = risen_one fault f g d e h.fault }

pub spends_kept : {T : Type 0} (a b : LoaderState) (p q waiting left most : ℕ) (result : Result T PullFault) → waiting ≡ most → SpendsDown {T = ⊤} waiting left a b p q (Ok tt)
    → HasSomeCause (a.failures ∷ []) (b.failures ∷ []) (a.damages ∷ []) (b.damages ∷ []) result → Spends most a b p q result
spends_kept a b p q waiting left most result e down cause =
    let fewer = down.fewer in
    let loads = down.spends.most_loads in
    record {
      held = down.spends.held;
      most_loads = omega (arith, e, fewer, loads);
      loads_later = down.spends.loads_later;
      count_is = down.spends.count_is;
      cause = cause_one a.failures b.failures a.damages b.damages result cause;
    }

pub on_ok_then : {T E : Type 0} {P Q : Type 0} (result : Result T E) → (P → Q) → OnOk result P → OnOk result Q
on_ok_then (Ok x) f h = f h
on_ok_then (Err e) f h = tt
