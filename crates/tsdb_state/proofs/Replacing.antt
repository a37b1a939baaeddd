-- Files of one space, with late files before them, become one: the order and the values stay.
use Rattle.std.proofs.Common.{◌≡◌, ℕ, ◌≤◌, List, ◌∷◌, ◌++◌, map, inl, inr, append_assoc, arith, []}
use Rattle.std.specs.Prelude.{◌⊎◌, None}
use Rattle.std.specs.List.{AllByRecursion as Each}
use mathlib.Core.List.{map-append}
use Rattle.tsdb_base.proofs.Lists.{each_append, each_left, each_right}
use Rattle.tsdb_state.proofs.LayerLemmas.Moves.{before_none}
use Rattle.tsdb_state.proofs.LayerLemmas.Rising.{IsPartOf, before_both, before_each, before_part, below_part, part_append}
use Rattle.tsdb_state.proofs.LayerLemmas.Rising.{part_itself, part_left, part_middle, part_right, rises_across, rises_append}
use Rattle.tsdb_state.proofs.LayerLemmas.Rising.{rises_left, rises_right}
use Rattle.tsdb_state.proofs.LayerLemmas.Values.{has_cases, has_left, has_right, or_assoc, or_none, value_append}
use Rattle.tsdb_state.specs.Layers.{Layer, value_in}
use Rattle.tsdb_state.specs.LayerOrder.{IsBeforeInTime, Rises}
use Rattle.tsdb_state.specs.Places.{PointPlace}
use Rattle.tsdb_marks.specs.declared.marks.Mark.{Mark}
use Rattle.tsdb_state.proofs.Arranged.{arranged_in_order, arranged_keeps, regroup, two_parts}
use Rattle.tsdb_state.proofs.Freezing.{below_above}
use Rattle.tsdb_state.proofs.Typed.{late_before, late_part}
use Rattle.tsdb_state.proofs.Values.{stored, stored_late}
use Rattle.tsdb_state.specs.Records.{purged}
use Rattle.tsdb_state.specs.State.{File, StoreState, ToldContents}
use Rattle.tsdb_state.specs.StoreOrder.{StampsInOrder, StoreInOrder}
use Rattle.tsdb_state.specs.Views.{file_layers, sequence_layer, unsequence_layer, working_pair}
use Rattle.tsdb_state.specs.Worlds.{KeepsWorld, value_at_place}

-- late layers join a run below layers that have no value where they have one
sunk : (marks : List Mark) (place : PointPlace) (before run output above late later : List Layer)
    → value_in marks place output ≡ value_in marks place (run ++ late)
    → (value_in marks place late ≡ None) ⊎ (value_in marks place above ≡ None)
    → value_in marks place ((before ++ (output ++ above)) ++ later)
    ≡ value_in marks place ((before ++ (run ++ above)) ++ (late ++ later))
sunk marks place before run output above late later is (inl none) =
    simp (value_append, is, or_assoc, none, or_none {X = Rattle.tsdb_base.specs.declared.value.Value.Value})
sunk marks place before run output above late later is (inr none) =
    simp (value_append, is, or_assoc, none, or_none {X = Rattle.tsdb_base.specs.declared.value.Value.Value})

abbrev IsReached : ℕ → File → Type 0
IsReached stamp file = file.born ≤ stamp

middle_born : (stamp : ℕ) (before run behind output : List File) → Each (IsReached stamp) (before ++ (run ++ behind))
    → Each (IsReached stamp) output → Each (IsReached stamp) (before ++ (output ++ behind))
middle_born stamp before run behind output all new =
    each_append _ _ _ (each_left _ _ _ all) (each_append _ _ _ new (each_right _ run _ (each_right _ before _ all)))

-- a sequence run and the first late files become one sequence file
module _ (told : ToldContents) (state : StoreState) (before run behind first later output : List File)
    (below : IsBeforeInTime (file_layers told before) (file_layers told first))
    (above : IsBeforeInTime (file_layers told first) (file_layers told behind))
    (output_value : (place : PointPlace) → value_in state.marks place (file_layers told output)
    ≡ value_in state.marks place (file_layers told run ++ file_layers told first))
    (output_points : IsPartOf (file_layers told output) (file_layers told run ++ file_layers told first))
    (output_rises : Rises (file_layers told output)) (output_born : Each (IsReached state.stamp) output) where
  abbrev before_layers : List Layer
  before_layers = file_layers told before

  abbrev run_layers : List Layer
  run_layers = file_layers told run

  abbrev behind_layers : List Layer
  behind_layers = file_layers told behind

  abbrev first_layers : List Layer
  first_layers = file_layers told first

  abbrev output_layers : List Layer
  output_layers = file_layers told output

  abbrev sequences : List Layer
  sequences = map sequence_layer state.frozen

  abbrev unsequences : List Layer
  unsequences = map unsequence_layer state.frozen

  -- the state with these inputs, and with the output
  abbrev pub before_cross : StoreState
  before_cross = record state { sequence = before ++ (run ++ behind); unsequence = first ++ later }

  abbrev pub crossed : StoreState
  crossed = record state { sequence = before ++ (output ++ behind); unsequence = later }

  module _ (order : StoreInOrder told before_cross) where
    rises : Rises (before_layers ++ (run_layers ++ (behind_layers ++ sequences)))
    rises = rw (regroup told before run behind sequences) at order.layers.rises

    first_points : IsPartOf first_layers (file_layers told (first ++ later))
    first_points = rw (map-append) (part_left _ _)

    late_above : IsBeforeInTime first_layers (behind_layers ++ sequences)
    late_above = before_each _ _ _ above (late_before first_layers state.frozen
        (late_part _ _ state.frozen first_points order.layers.late))

    working_above : IsBeforeInTime first_layers (sequence_layer (working_pair state) ∷ [])
    working_above = below_above state.watermarks _ (sequence_layer (working_pair state) ∷ [])
        (below_part _ _ _ (λ p v has. has_left _ unsequences p v (first_points p v has)) order.layers.late_below)
        order.layers.above

    crossed_value : (place : PointPlace) → value_at_place told crossed place ≡ value_at_place told before_cross place
    crossed_value place = rw (
      regroup told before output behind _,
      regroup told before run behind _,
      two_parts told
          first later _,
    ) (sunk state.marks place before_layers run_layers output_layers _ first_layers _
        (output_value place) (before_none state.marks place first_layers _ top))
      where
        top : IsBeforeInTime first_layers (behind_layers ++ (sequences ++ sequence_layer (working_pair state) ∷ []))
        top = rw (← append_assoc) (before_each _ _ (sequence_layer (working_pair state) ∷ []) late_above working_above)

    crossed_rises : Rises (before_layers ++ (output_layers ++ (behind_layers ++ sequences)))
    crossed_rises =
        let rest = rises_right before_layers _ rises in
        let across = rises_across before_layers _ rises in
        let over : IsBeforeInTime output_layers (behind_layers ++ sequences) = before_part _ _ _ _ output_points
        (part_itself _) (before_both _ _ _ (rises_across run_layers _ rest) late_above) in
        let under : IsBeforeInTime before_layers output_layers = before_part _ _ _ _ (part_itself _) output_points
        (before_each _ _ _ (before_part _ _ _ _ (part_itself _) (part_left run_layers _) across) below) in
        rises_append _ _ (rises_left _ _ rises) (rises_append _ _ output_rises (rises_right run_layers _ rest) over)
        (before_each _ _ _ under (before_part _ _ _ _ (part_itself _) (part_right run_layers _) across))

    points : IsPartOf (stored told crossed.sequence state.frozen)
        (stored told before_cross.sequence state.frozen ++ stored_late told before_cross.unsequence state.frozen)
    points = simp (map-append, append_assoc) by
      where
        by : IsPartOf (before_layers ++ (output_layers ++ (behind_layers ++ sequences)))
            (before_layers ++ (run_layers ++ (behind_layers ++ (sequences ++ (first_layers
            ++ (file_layers told later ++ unsequences))))))
        by place value has = grind (arith, has_cases, has_left, has_right, output_points)

    late_points : IsPartOf (stored_late told later state.frozen) (stored_late told (first ++ later) state.frozen)
    late_points = simp (map-append, append_assoc) (part_right first_layers _)

    stamps : StampsInOrder state.stamp state.marks crossed.sequence later state.frozen state.working
    stamps =
        let old = order.stamps in
        let sequence_born = middle_born _ before run behind output old.sequence_born output_born in
        let unsequence_born = each_right _ first later old.unsequence_born in
        search

    pub crossed_both : StoreInOrder told (purged crossed) × KeepsWorld told before_cross (purged crossed)
    crossed_both =
        let keeps = arranged_keeps told before_cross crossed.sequence later state.frozen points late_points order
        crossed_value in (
          arranged_in_order told before_cross crossed.sequence later state.frozen points late_points order
              (rw (regroup told before output behind sequences) crossed_rises)
              (late_part _ _ state.frozen (rw (map-append) (part_right first_layers _)) order.layers.late) stamps keeps,
          keeps,
        )

-- a run of late files becomes one late file
module _ (told : ToldContents) (state : StoreState) (before run behind output : List File)
    (output_value : (place : PointPlace) → value_in state.marks place (file_layers told output)
    ≡ value_in state.marks place (file_layers told run))
    (output_points : IsPartOf (file_layers told output) (file_layers told run))
    (output_born : Each (IsReached state.stamp) output) where
  abbrev pub before_merge : StoreState
  before_merge = record state { unsequence = before ++ (run ++ behind) }

  abbrev pub merged : StoreState
  merged = record state { unsequence = before ++ (output ++ behind) }

  module _ (order : StoreInOrder told before_merge) where
    merged_value : (place : PointPlace) → value_at_place told merged place ≡ value_at_place told before_merge place
    merged_value place = simp (map-append, value_append, output_value place)

    late_files : IsPartOf (file_layers told merged.unsequence) (file_layers told before_merge.unsequence)
    late_files = simp map-append (part_middle _ _ _ _ output_points)

    merged_points : IsPartOf (stored_late told merged.unsequence state.frozen)
        (stored_late told before_merge.unsequence state.frozen)
    merged_points = part_append _ _ _ _ late_files (part_itself _)

    merged_stamps : StampsInOrder state.stamp state.marks state.sequence merged.unsequence state.frozen state.working
    merged_stamps =
        let old = order.stamps in
        let unsequence_born = middle_born _ before run behind output old.unsequence_born output_born in
        search

    pub merged_both : StoreInOrder told (purged merged) × KeepsWorld told before_merge (purged merged)
    merged_both =
        let keeps = arranged_keeps told before_merge state.sequence merged.unsequence state.frozen (part_left _ _)
        merged_points order merged_value in (
          arranged_in_order told before_merge state.sequence merged.unsequence state.frozen (part_left _ _)
              merged_points order order.layers.rises (late_part _ _ state.frozen late_files order.layers.late)
              merged_stamps keeps,
          keeps,
        )
