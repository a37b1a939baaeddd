-- The value of a state from its four parts: what is stored in each space, and the working pair over it.
use Rattle.std.proofs.Common.{◌≡◌, ℕ, ◌+◌, ◌≤◌, List, [], ◌∷◌, ◌++◌, map, sym, ap, ◌∙◌, append_assoc, arith, inl, inr}
use Rattle.std.proofs.Common.{⊎_elim}
use Rattle.std.specs.Prelude.{Option}
use Rattle.std.specs.FinMap.{empty, get, get-empty}
use Rattle.std.specs.List.{AllByRecursion as Each}
use Rattle.std.specs.Option.{option_or}
use Rattle.tsdb_base.specs.declared.value.Value.{Value}
use Rattle.tsdb_state.proofs.LayerLemmas.Tests.{newest_survivor}
use Rattle.tsdb_state.proofs.LayerLemmas.Values.{value_append}
use Rattle.tsdb_state.specs.Layers.{HasPoint, Layer, value_in}
use Rattle.tsdb_state.specs.Places.{PointPlace, place_cmp}
use Rattle.tsdb_marks.specs.declared.marks.Mark.{Mark}
use Rattle.tsdb_state.specs.Limit.{empty_pair}
use Rattle.tsdb_state.specs.State.{File, FrozenContent, StoreState, ToldContents}
use Rattle.tsdb_state.specs.Views.{file_layers, layer_of, pair_layers, sequence_layer, sequence_layers}
use Rattle.tsdb_state.specs.Views.{unsequence_layer, unsequence_layers, working_pair}
use Rattle.tsdb_state.specs.Worlds.{value_at_place}

-- an empty content, and an empty pair, have no point

pub none_in : (place : PointPlace) (value : Value) → HasPoint (layer_of empty) place value → ⊥
none_in place value (inl has) = let none = get-empty {X = Value} place_cmp place in absurd (cc)
none_in place value (inr has) = has

pub none_in_pair : (place : PointPlace) (value : Value) → HasPoint (pair_layers empty_pair) place value → ⊥
none_in_pair place value has = ⊎_elim (λ h. none_in place value (inl h)) (none_in place value) has

-- what is stored in each space: files, and the parts of frozen pairs
abbrev pub stored : ToldContents → List File → List FrozenContent → List Layer
stored told sequence frozen = file_layers told sequence ++ map sequence_layer frozen

abbrev pub stored_late : ToldContents → List File → List FrozenContent → List Layer
stored_late told unsequence frozen = file_layers told unsequence ++ map unsequence_layer frozen

abbrev pub AreReached : List Mark → ℕ → Type 0
AreReached marks stamp = Each (λ mark. mark.version.0 ≤ stamp) marks

-- the value, from those of the four parts
abbrev pub joined : Option Value → Option Value → Option Value → Option Value → Option Value
joined working late_working below late = option_or (option_or late_working late) (option_or working below)

pub row_value : (marks : List Mark) (place : PointPlace) (files pairs : List Layer) (last : Layer)
    → AreReached marks last.born
    → value_in marks place (files ++ (pairs ++ last ∷ []))
    ≡ option_or (get last.content place) (value_in marks place (files ++ pairs))
row_value marks place files pairs last reached =
    ap (value_in marks place) (sym (append_assoc files pairs (last ∷ [])))
    ∙ value_append marks place (files ++ pairs) (last ∷ [])
    ∙ ap (λ o. option_or o (value_in marks place (files ++ pairs))) (newest_survivor _ _ _ reached)

pub value_is : (told : ToldContents) (state : StoreState) (place : PointPlace) → AreReached state.marks state.stamp
    → value_at_place told state place
    ≡ joined (get state.working.sequence place) (get state.working.unsequence place)
    (value_in state.marks place (stored told state.sequence state.frozen))
    (value_in state.marks place (stored_late told state.unsequence state.frozen))
value_is told state place reached =
    value_append state.marks place (sequence_layers told state) (unsequence_layers told state)
    ∙ (λ i. option_or (row_value _ place (file_layers told state.unsequence) (map unsequence_layer state.frozen)
    (unsequence_layer (working_pair state)) reached i) (row_value _ place (file_layers told state.sequence)
    (map sequence_layer state.frozen) (sequence_layer (working_pair state)) reached i))

-- states with equal parts have equal values
pub value_by_parts : (told other : ToldContents) (state new : StoreState) (place : PointPlace)
    → AreReached state.marks state.stamp → AreReached new.marks new.stamp
    → get new.working.sequence place ≡ get state.working.sequence place
    → get new.working.unsequence place ≡ get state.working.unsequence place
    → value_in new.marks place (stored other new.sequence new.frozen)
    ≡ value_in state.marks place (stored told state.sequence state.frozen)
    → value_in new.marks place (stored_late other new.unsequence new.frozen)
    ≡ value_in state.marks place (stored_late told state.unsequence state.frozen)
    → value_at_place other new place ≡ value_at_place told state place
value_by_parts told other state new place reached new_reached sw uw s u =
    value_is other new _ new_reached
    ∙ (λ i. joined (sw i) (uw i) (s i) (u i))
    ∙ sym (value_is told state _ reached)

up_one : (a b : ℕ) → a ≤ b → a ≤ b + 1
up_one a b h = omega arith

pub reached_more : (marks : List Mark) (stamp : ℕ) → AreReached marks stamp → AreReached marks (stamp + 1)
reached_more [] stamp reached = tt
reached_more (mark ∷ marks) stamp reached = (up_one _ _ reached.0, reached_more marks stamp reached.1)
