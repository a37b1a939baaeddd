-- A freeze: the order and the values stay.
use Rattle.std.proofs.Common.{◌≡◌, ℕ, ◌+◌, ◌<◌, ◌≤◌, ℤ, ◌≤ℤ◌, ◌<ℤ◌, Bool, true, false, cond, List, ◌∷◌, ◌++◌}
use Rattle.std.proofs.Common.{append_assoc, map, inl, inr, refl, sym, ap, ◌∙◌, subst, arith, []}
use Rattle.std.specs.Prelude.{Option, Some, None, IfSome, int_lt}
use Rattle.std.specs.Cmp.Lexicographic.{nat_list_cmp_total}
use Rattle.std.specs.FinMap.{empty, entries, find, get, get-empty, get-entries, get-insert}
use Rattle.std.specs.Option.{IsSomeAnd, unwrap_or}
use Rattle.std.specs.Ordering.{is_eq}
use Rattle.std.proofs.lemmas.Int.{ints}
use mathlib.Core.List.{map-append}
use Rattle.tsdb_base.specs.declared.value.Value.{Value}
use Rattle.tsdb_base.proofs.Lists.{each_append, pairs_push}
use Rattle.tsdb_state.proofs.LayerLemmas.Places.{is_path_same, is_place, path_itself}
use Rattle.tsdb_state.proofs.LayerLemmas.Rising.{IsPartOf, below_both, part_append, part_itself, rises_append}
use Rattle.tsdb_state.specs.Layers.{Layer, survivor}
use Rattle.tsdb_base.specs.Lists.{Among}
use Rattle.tsdb_state.specs.LayerOrder.{IsAbove, IsBeforeInTime, IsBelow, WatermarkMap}
use Rattle.tsdb_state.specs.Places.{Content, PointPlace, is_path, place_cmp}
use Rattle.tsdb_memtable.specs.Watermarks.{later_time}
use Rattle.tsdb_path.specs.Nodes.{device_of}
use Rattle.tsdb_state.proofs.Values.{none_in, none_in_pair}
use Rattle.tsdb_state.specs.Limit.{empty_pair}
use Rattle.tsdb_state.specs.Records.{CanFreeze, froze, raise_all, raise_to}
use Rattle.tsdb_state.specs.State.{FrozenContent, StoreState, ToldContents}
use Rattle.tsdb_state.specs.StoreOrder.{LateIsBelow, StoreInOrder}
use Rattle.tsdb_state.specs.Views.{file_layers, layer_of, pair_layers, sequence_layer, unsequence_layer, working_pair}
use Rattle.tsdb_state.specs.Worlds.{KeepsWorld, value_at_place}
use Rattle.tsdb_state.proofs.LayerLemmas.Values.{has_cases, has_left, has_right, no_survivor, or_assoc, value_append}
use Rattle.std.proofs.lemmas.List.{length-append}

-- watermarks that rise

abbrev IsAtLeast : Option ℤ → ℤ → Type 0
IsAtLeast o time = IsSomeAnd o (λ last. time ≤ℤ last)

at_most_itself : (a : ℤ) → a ≤ℤ a
at_most_itself a = grind (arith, ints)

reaches_last : (time last : ℤ) → int_lt time last ≡ true → time ≤ℤ last
reaches_last time last e = grind (arith, ints)

goes_up : (old time last : ℤ) → int_lt time last ≡ false → old ≤ℤ last → old ≤ℤ time
goes_up old time last e h = grind (arith, ints)

abbrev raised_time : Option ℤ → ℤ → ℤ
raised_time o time = unwrap_or (later_time o time) time

reaches : (o : Option ℤ) (time : ℤ) → time ≤ℤ raised_time o time
reaches None time = at_most_itself time
reaches (Some last) time = by (int_lt time last) refl
  where
    by : (b : Bool) → int_lt time last ≡ b → time ≤ℤ unwrap_or (cond b (Some last) (Some time)) time
    by true e = reaches_last time last e
    by false e = at_most_itself time

keeps : (o : Option ℤ) (time old : ℤ) → IsAtLeast o old → old ≤ℤ raised_time o time
keeps None time old h = absurd h
keeps (Some last) time old h = by (int_lt time last) refl
  where
    by : (b : Bool) → int_lt time last ≡ b → old ≤ℤ unwrap_or (cond b (Some last) (Some time)) time
    by true e = h
    by false e = goes_up old time last e h

module _ (place : PointPlace) (watermarks : WatermarkMap) where
  raised_at : (device : List ℕ) → get (raise_to place watermarks) device
      ≡ cond (is_path device (device_of place.path))
      (Some (raised_time (get watermarks (device_of place.path)) place.time)) (get watermarks device)
  raised_at device = get-insert nat_list_cmp_total watermarks (device_of place.path)
      (raised_time (get watermarks (device_of place.path)) place.time) device

  raise_keeps : (device : List ℕ) (old : ℤ) → IsAtLeast (get watermarks device) old
      → IsAtLeast (get (raise_to place watermarks) device) old
  raise_keeps device old h =
      subst (λ o. IsAtLeast o old) (sym (raised_at device)) (by (is_path device (device_of place.path)) refl)
    where
      by : (b : Bool) → is_path device (device_of place.path) ≡ b
          → IsAtLeast (cond b (Some (raised_time (get watermarks (device_of place.path)) place.time))
          (get watermarks device)) old
      by true e = keeps (get watermarks (device_of place.path)) place.time old
          (subst (λ d. IsAtLeast (get watermarks d) old) (is_path_same device (device_of place.path) e) h)
      by false e = h

  raise_reaches : IsAtLeast (get (raise_to place watermarks) (device_of place.path)) place.time
  raise_reaches = subst (λ o. IsAtLeast o place.time) (sym (raised_at (device_of place.path)
      ∙ ap (λ b. cond b (Some (raised_time (get watermarks (device_of place.path)) place.time))
      (get watermarks (device_of place.path))) (path_itself (device_of place.path))))
      (reaches (get watermarks (device_of place.path)) place.time)

all_keep : (points : List (PointPlace × Value)) (watermarks : WatermarkMap) (device : List ℕ) (old : ℤ)
    → IsAtLeast (get watermarks device) old → IsAtLeast (get (raise_all points watermarks) device) old
all_keep [] watermarks device old h = h
all_keep (point ∷ points) watermarks device old h = all_keep points (raise_to point.0 watermarks) device old
    (raise_keeps point.0 watermarks device old h)

all_reach : (points : List (PointPlace × Value)) (watermarks : WatermarkMap) (point : PointPlace × Value) → Among point points
    → IsAtLeast (get (raise_all points watermarks) (device_of point.0.path)) point.0.time
all_reach [] watermarks point among = absurd among
all_reach (first ∷ points) watermarks point (inl is) = subst (λ (p : PointPlace × Value). IsAtLeast
    (get (raise_all points (raise_to first.0 watermarks)) (device_of p.0.path)) p.0.time) is
    (all_keep points (raise_to first.0 watermarks) (device_of first.0.path) first.0.time
    (raise_reaches first.0 watermarks))
all_reach (first ∷ points) watermarks point (inr among) = all_reach points (raise_to first.0 watermarks) point among

-- a point stands among the entries
pub find_among : (points : List (PointPlace × Value)) (place : PointPlace) (value : Value)
    → find place_cmp place points ≡ Some value → Among (place, value) points
find_among [] place value is = absurd (cc)
find_among (point ∷ points) place value is = by (is_eq (place_cmp place point.0)) refl
    (λ e. find_among points place value e) is
  where
    same_value : (v w : Value) → Some v ≡ Some w → v ≡ w
    same_value v w e = cc

    by : (b : Bool) → is_eq (place_cmp place point.0) ≡ b
        → (find place_cmp place points ≡ Some value → Among (place, value) points)
        → cond b (Some point.1) (find place_cmp place points) ≡ Some value → Among (place, value) (point ∷ points)
    by true e rest is = inl (λ i. (sym (is_place place point.0 e) i, same_value point.1 value is i))
    by false e rest is = inr (rest is)

pub below_raised : (points : List (PointPlace × Value)) (watermarks : WatermarkMap) (layers : List Layer)
    → IsBelow watermarks layers → IsBelow (raise_all points watermarks) layers
below_raised points watermarks layers below place value has =
    all_keep points watermarks (device_of place.path) place.time (below place value has)

pub content_raised : (content : Content) (watermarks : WatermarkMap)
    → IsBelow (raise_all (entries content) watermarks) (layer_of content)
content_raised content watermarks place value (inl is) = all_reach (entries content) watermarks (place, value)
    (find_among (entries content) place value (sym (get-entries content place) ∙ is))
content_raised content watermarks place value (inr none) = absurd none

-- what is at most at the watermarks is before what is above them

apart : (a b last : ℤ) → a ≤ℤ last → last <ℤ b → a <ℤ b
apart a b last h k = grind (arith, ints)

pub below_above : (watermarks : WatermarkMap) (xs ys : List Layer) → IsBelow watermarks xs → IsAbove watermarks ys
    → IsBeforeInTime xs ys
below_above watermarks xs ys below above p q v w a b same = by (get watermarks (device_of p.path)) (below p v a)
    (subst (λ d. IfSome (get watermarks d) (λ last. last <ℤ q.time)) (sym same) (above q w b))
  where
    by : (o : Option ℤ) → IsAtLeast o p.time → IfSome o (λ last. last <ℤ q.time) → p.time <ℤ q.time
    by None h k = absurd h
    by (Some last) h k = apart p.time q.time last h k

-- one pair more behind the frozen ones
late_push : (late : List Layer) (pairs : List FrozenContent) (pair : FrozenContent) → LateIsBelow late pairs
    → IsBeforeInTime (late ++ (map unsequence_layer pairs ++ unsequence_layer pair ∷ [])) (sequence_layer pair ∷ [])
    → LateIsBelow late (pairs ++ pair ∷ [])
late_push late [] pair below last = (last, tt)
late_push late (first ∷ pairs) pair below last = (
  below.0,
  late_push (late ++ unsequence_layer first ∷ []) pairs pair below.1
      (subst (λ layers. IsBeforeInTime layers (sequence_layer pair ∷ []))
      (sym (append_assoc late (unsequence_layer first ∷ []) (map unsequence_layer pairs ++ unsequence_layer pair ∷ [])))
      last),
)

-- the parts of a pair that is frozen, with an empty one behind it
frozen_part : (seqs unseqs first second working late none : List Layer) → IsPartOf first working → IsPartOf second late
    → IsPartOf none []
    → IsPartOf (((seqs ++ first) ++ (unseqs ++ second)) ++ none) ((seqs ++ unseqs) ++ (working ++ late))
frozen_part seqs unseqs first second working late none one two never place value has =
    grind (arith, has_cases, has_left, has_right, one, two, never)

module _ (told : ToldContents) (state : StoreState) (order : StoreInOrder told state) (can : CanFreeze state) where
  abbrev pair : FrozenContent
  pair = working_pair state

  abbrev files : List Layer
  files = file_layers told state.sequence

  abbrev late : List Layer
  late = file_layers told state.unsequence

  pushed : (f : FrozenContent → Layer) (low : List Layer)
      → low ++ map f (state.frozen ++ pair ∷ []) ≡ (low ++ map f state.frozen) ++ f pair ∷ []
  pushed f low = simp (map-append, append_assoc)

  froze_value : (place : PointPlace) → value_at_place told (froze state) place ≡ value_at_place told state place
  froze_value place = simp (map-append, value_append, or_assoc, nothing)
    where
      nothing : survivor state.marks place (record { born = state.stamp; content = empty }) ≡ None
      nothing = no_survivor _ _ _ (get-empty place_cmp place)

  abbrev raised : WatermarkMap
  raised = raise_all (entries state.working.sequence) state.watermarks

  -- all but the sequence part, with the unsequence part of the pair
  late_below : IsBelow state.watermarks ((late ++ map unsequence_layer state.frozen) ++ unsequence_layer pair ∷ [])
  late_below = below_both _ _ (unsequence_layer pair ∷ []) order.layers.late_below order.layers.working_below

  pub froze_in_order : StoreInOrder told (froze state)
  froze_in_order = record {
    layers = record {
      rises = rw (pushed sequence_layer files) (rises_append _ (sequence_layer pair ∷ []) order.layers.rises
          ((λ p q v w a b same. absurd b), tt) (below_above state.watermarks _ (sequence_layer pair ∷ [])
          order.layers.below order.layers.above));
      late = late_push late state.frozen pair order.layers.late
          (rw (← append_assoc) (below_above state.watermarks _ (sequence_layer pair ∷ []) late_below
          order.layers.above));
      below = rw (pushed sequence_layer files) (below_both _ _ (sequence_layer pair ∷ [])
          (below_raised (entries state.working.sequence) _ _ order.layers.below)
          (content_raised state.working.sequence state.watermarks));
      late_below = rw (pushed unsequence_layer late) (below_raised (entries state.working.sequence) _ _ late_below);
      working_below = λ place value has. absurd (none_in place value has);
      above = λ place value has. absurd (none_in place value has);
    };
    stamps = record {
      sequence_born = order.stamps.sequence_born;
      unsequence_born = order.stamps.unsequence_born;
      frozen_born = each_append _ _ _ order.stamps.frozen_born (omega arith, tt);
      frozen_rise = pairs_push _ _ _ order.stamps.frozen_rise (order.stamps.working_born can.some);
      two = omega (arith, length-append state.frozen (pair ∷ []), can.room);
      filled = each_append _ _ _ order.stamps.filled (can.some, tt);
      working_born = λ some. absurd (some (refl, refl));
      versions = order.stamps.versions;
      versions_rise = order.stamps.versions_rise;
    };
    series = record {
      formed = order.series.formed;
      once = order.series.once;
      typed =
          λ place value has. order.series.typed place value (part_append _ _ _ _ (part_itself _)
          (frozen_part (map sequence_layer state.frozen) (map unsequence_layer state.frozen) (sequence_layer pair ∷ [])
          (unsequence_layer pair ∷ []) (layer_of state.working.sequence) (layer_of state.working.unsequence)
          (pair_layers empty_pair) (λ p v h. h) (λ p v h. h) none_in_pair) place value (simp map-append at has));
    };
    live = λ place value is. order.live place value (sym (froze_value place) ∙ is);
    limit = inl (refl, refl);
  }

  pub froze_keeps : KeepsWorld told state (froze state)
  froze_keeps = record { types = λ path. refl; values = froze_value }
