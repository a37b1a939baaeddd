-- Files and frozen pairs that are arranged anew, without a point that was not there: the order and the values stay.
use Rattle.std.proofs.Common.{◌≡◌, List, ◌++◌, refl, sym, ◌∙◌, append_assoc, arith, map, ⊎_elim}
use mathlib.Core.List.{map-append}
use Rattle.tsdb_state.proofs.LayerLemmas.Rising.{IsPartOf, below_both, below_part, part_append, part_itself}
use Rattle.tsdb_state.proofs.LayerLemmas.Values.{has_cases, has_left, has_right}
use Rattle.tsdb_state.specs.Layers.{Layer}
use Rattle.tsdb_state.specs.LayerOrder.{Rises}
use Rattle.tsdb_state.specs.Places.{PointPlace}
use Rattle.tsdb_state.proofs.Purges.{stamps_purged, value_purged}
use Rattle.tsdb_state.proofs.Values.{stored, stored_late}
use Rattle.tsdb_state.specs.Records.{purged}
use Rattle.tsdb_state.specs.State.{File, FrozenContent, StoreState, ToldContents}
use Rattle.tsdb_state.specs.StoreOrder.{LateIsBelow, StampsInOrder, StoreInOrder, unordered_layers}
use Rattle.tsdb_state.specs.Views.{file_layers, pair_layers, sequence_layer, unsequence_layer}
use Rattle.tsdb_state.specs.Worlds.{KeepsWorld, value_at_place}

-- the layers of files in three parts, with others behind them
pub regroup : (told : ToldContents) (before run behind : List File) (others : List Layer)
    → file_layers told (before ++ (run ++ behind)) ++ others
    ≡ file_layers told before ++ (file_layers told run ++ (file_layers told behind ++ others))
regroup told before run behind others = simp (map-append, append_assoc)

pub two_parts : (told : ToldContents) (first later : List File) (others : List Layer)
    → file_layers told (first ++ later) ++ others ≡ file_layers told first ++ (file_layers told later ++ others)
two_parts told first later others = simp (map-append, append_assoc)

-- the points of both spaces, from what is stored, and back
to_stored : (a b c d e : List Layer) → IsPartOf ((a ++ b) ++ ((c ++ d) ++ e)) (((a ++ c) ++ (b ++ d)) ++ e)
to_stored a b c d e place value has = grind (arith, has_cases, has_left, has_right)

from_stored : (a b c d e : List Layer) → IsPartOf (((a ++ c) ++ (b ++ d)) ++ e) ((a ++ b) ++ ((c ++ d) ++ e))
from_stored a b c d e place value has = grind (arith, has_cases, has_left, has_right)

regrouped : (a b c d k l m n e : List Layer) → IsPartOf ((a ++ c) ++ (b ++ d)) ((k ++ m) ++ (l ++ n))
    → IsPartOf ((a ++ b) ++ ((c ++ d) ++ e)) ((k ++ l) ++ ((m ++ n) ++ e))
regrouped a b c d k l m n e part place value has = from_stored k l m n e place value
    (part_append _ _ _ _ part (part_itself e) place value (to_stored a b c d e place value has))

module _ (told : ToldContents) (state : StoreState) (sequence unsequence : List File) (frozen : List FrozenContent)
    (points : IsPartOf (stored told sequence frozen)
    (stored told state.sequence state.frozen ++ stored_late told state.unsequence state.frozen))
    (late_points : IsPartOf (stored_late told unsequence frozen) (stored_late told state.unsequence state.frozen))
    (order : StoreInOrder told state) where
  -- the state before its marks are purged
  abbrev pub arranged : StoreState
  arranged = record state { frozen = frozen; sequence = sequence; unsequence = unsequence }

  pub arranged_keeps : ((place : PointPlace) → value_at_place told arranged place ≡ value_at_place told state place)
      → KeepsWorld told state (purged arranged)
  arranged_keeps same = record {
    types = λ path. refl;
    values = λ place. value_purged told arranged place order.stamps.versions ∙ same place;
  }

  pub arranged_in_order : Rises (stored told sequence frozen) → LateIsBelow (file_layers told unsequence) frozen
      → StampsInOrder state.stamp state.marks sequence unsequence frozen state.working
      → KeepsWorld told state (purged arranged) → StoreInOrder told (purged arranged)
  arranged_in_order rises late stamps keeps = record {
    layers = record {
      rises = rises;
      late = late;
      below = below_part _ _ _ points (below_both _ _ _ order.layers.below order.layers.late_below);
      late_below = below_part _ _ _ late_points order.layers.late_below;
      working_below = order.layers.working_below;
      above = order.layers.above;
    };
    stamps = stamps_purged told arranged stamps;
    series = record {
      formed = order.series.formed;
      once = order.series.once;
      typed = λ place value has. order.series.typed place value (all_points place value has);
    };
    live = λ place value is. order.live place value (sym (keeps.values place) ∙ is);
    limit = order.limit;
  }
    where
      both : IsPartOf (stored told sequence frozen ++ stored_late told unsequence frozen)
          (stored told state.sequence state.frozen ++ stored_late told state.unsequence state.frozen)
      both place value has = ⊎_elim (points place value) (λ late. has_right _ _ place value
          (late_points place value late)) (has_cases _ _ place value has)

      all_points : IsPartOf (unordered_layers told sequence unsequence frozen state.working)
          (unordered_layers told state.sequence state.unsequence state.frozen state.working)
      all_points = regrouped (file_layers told sequence) (file_layers told unsequence) (map sequence_layer frozen)
          (map unsequence_layer frozen) (file_layers told state.sequence) (file_layers told state.unsequence)
          (map sequence_layer state.frozen) (map unsequence_layer state.frozen) (pair_layers state.working) both
