-- The named parts of "in order", from the records over what they read.
use Rattle.std.proofs.Common.{◌≡◌, ℕ, ◌≤◌, List, ◌∷◌, ◌++◌, append_assoc, map, sym, subst, []}
use Rattle.std.specs.Prelude.{◌≢◌}
use mathlib.Core.List.{map-append}
use Rattle.tsdb_base.proofs.Lists.{count_append}
use Rattle.tsdb_state.proofs.LayerLemmas.Rising.{IsPartOf, before_each, before_part, below_both, below_part, part_itself}
use Rattle.tsdb_state.proofs.LayerLemmas.Rising.{part_left, part_right, rises_append, rises_left}
use Rattle.tsdb_state.specs.Layers.{HasPoint, Layer}
use Rattle.tsdb_base.specs.Lists.{EachPair}
use Rattle.tsdb_state.specs.LayerOrder.{IsBeforeInTime, IsBelow, Rises}
use Rattle.tsdb_state.proofs.Freezing.{below_above}
use Rattle.tsdb_state.proofs.Fresh.{pairs_counted}
use Rattle.tsdb_state.proofs.Typed.{late_before}
use Rattle.tsdb_state.specs.Jobs.{NumbersInOrder}
use Rattle.tsdb_state.specs.Records.{numbers_of}
use Rattle.tsdb_state.specs.State.{File, FrozenContent, StoreState, ToldContents}
use Rattle.tsdb_state.specs.StoreOrder.{LateIsBelow, LayersInOrder}
use Rattle.tsdb_state.specs.Views.{file_layers, flushed_layers, layer_of, pairs_of, sequence_layer, sequence_layers}
use Rattle.tsdb_state.specs.Views.{unsequence_layer, working_pair}

-- what the late layers of the first pairs are below of the pairs behind them
late_behind : (late : List Layer) (before : List FrozenContent) (pair : FrozenContent) (behind : List FrozenContent)
    → LateIsBelow late (before ++ pair ∷ behind)
    → IsBeforeInTime (unsequence_layer pair ∷ []) (sequence_layer pair ∷ map sequence_layer behind)
late_behind late [] pair behind below =
    let more = late ++ unsequence_layer pair ∷ [] in
    before_each (unsequence_layer pair ∷ []) (sequence_layer pair ∷ []) _
    (before_part (unsequence_layer pair ∷ []) (sequence_layer pair ∷ []) _ (sequence_layer pair ∷ [])
    (part_right late (unsequence_layer pair ∷ [])) (part_itself (sequence_layer pair ∷ [])) below.0)
    (before_part (unsequence_layer pair ∷ []) _ _ _ (part_right late (unsequence_layer pair ∷ [])) (part_itself _)
    (late_before _ _ below.1))
late_behind late (first ∷ before) pair behind below = late_behind (late ++ unsequence_layer first ∷ []) before pair
    behind below.1

module _ (told : ToldContents) (state : StoreState)
    (order : LayersInOrder told state.watermarks state.sequence state.unsequence state.frozen state.working) where
  abbrev files : List Layer
  files = file_layers told state.sequence

  abbrev late : List Layer
  late = file_layers told state.unsequence

  abbrev sequences : List Layer
  sequences = map sequence_layer state.frozen

  abbrev unsequences : List Layer
  unsequences = map unsequence_layer state.frozen

  abbrev working : List Layer
  working = sequence_layer (working_pair state) ∷ []

  pub parts_rise : Rises (sequence_layers told state)
  parts_rise =
      subst Rises (append_assoc files sequences working) (rises_append (files ++ sequences) working order.rises
      ((λ p q v w a b same. absurd b), tt) (below_above _ _ working order.below order.above))

  pub files_rise : Rises files
  files_rise = rises_left _ _ order.rises

  pub parts_below : IsBelow state.watermarks (flushed_layers told state)
  parts_below =
      let low = order.below in
      below_both _ (files ++ late) ((sequences ++ unsequences) ++ layer_of state.working.unsequence)
      (below_both _ files late (below_part _ files _ (part_left files sequences) low)
      (below_part _ late _ (part_left late unsequences) order.late_below))
      (below_both _ (sequences ++ unsequences) (layer_of state.working.unsequence)
      (below_both _ sequences unsequences (below_part _ sequences _ (part_right files sequences) low)
      (below_part _ unsequences _ (part_right late unsequences) order.late_below)) order.working_below)

  pairs_are : (pairs : List FrozenContent)
      → map sequence_layer (pairs ++ working_pair state ∷ []) ≡ map sequence_layer pairs ++ working
  pairs_are pairs = map-append _ _ _

  pub late_files_below : IsBeforeInTime late (map sequence_layer (pairs_of state))
  late_files_below =
      subst (IsBeforeInTime late) (sym (pairs_are _)) (before_each _ _ _ (late_before _ _ order.late)
      (below_above _ _ working (below_part _ _ _ (part_left _ _) order.late_below) order.above))

  pub late_pair_below : (before : List FrozenContent) (pair : FrozenContent) (behind : List FrozenContent)
      → state.frozen ≡ before ++ pair ∷ behind
      → IsBeforeInTime (unsequence_layer pair ∷ []) (sequence_layer pair ∷ map sequence_layer (behind ++ working_pair state ∷
      []))
  late_pair_below before pair behind are =
      subst (λ layers. IsBeforeInTime (unsequence_layer pair ∷ []) (sequence_layer pair ∷ layers)) (sym (pairs_are _))
      (before_each (unsequence_layer pair ∷ []) (sequence_layer pair ∷ map sequence_layer behind) working
      (late_behind late before pair behind (subst (LateIsBelow late) are order.late))
      (below_above _ (unsequence_layer pair ∷ []) working (below_part _ (unsequence_layer pair ∷ [])
      (late ++ unsequences) part order.late_below) order.above))
    where
      part : IsPartOf (unsequence_layer pair ∷ []) (late ++ unsequences)
      part place value has =
          part_right _ _ place value (subst (λ pairs. HasPoint (map unsequence_layer pairs) place value) (sym are)
          (subst (λ layers. HasPoint layers place value) (sym (map-append unsequence_layer before (pair ∷ behind)))
          (part_right (map unsequence_layer before) _ place value
          (part_left (unsequence_layer pair ∷ []) (map unsequence_layer behind) place value has))))

-- numbers that differ, and lie from 1 to below the next one
pub numbers_differ : (named : List ℕ) (next : ℕ) (files : List File) (drawn : List ℕ)
    → NumbersInOrder named next files drawn → EachPair (λ a b. a ≢ b) (numbers_of files ++ drawn)
numbers_differ named next files drawn order =
    pairs_counted _ (λ n. subst (λ m. m ≤ 1) (sym (count_append n _ _)) (order.differ n))
