-- Points of known series, list by list; and late layers below the frozen pairs.
use Rattle.std.proofs.Common.{List, ◌∷◌, ◌++◌, map, ⊎_elim, []}
use Rattle.tsdb_base.specs.Values.{type_of}
use Rattle.tsdb_base.specs.declared.value.Value.{Value}
use Rattle.tsdb_state.proofs.LayerLemmas.Rising.{IsPartOf, before_each, before_part, part_append, part_itself, part_left}
use Rattle.tsdb_state.proofs.LayerLemmas.Values.{has_cases, has_left, has_right}
use Rattle.tsdb_state.specs.Layers.{HasPoint, Layer}
use Rattle.tsdb_state.specs.Places.{PointPlace}
use Rattle.tsdb_state.specs.State.{FrozenContent, SeriesEntry}
use Rattle.tsdb_state.specs.StoreOrder.{IsOfSeries, LateIsBelow}
use Rattle.tsdb_state.specs.Views.{sequence_layer, unsequence_layer}
use Rattle.tsdb_state.specs.LayerOrder.{IsBeforeInTime}

abbrev pub AreTyped : List SeriesEntry → List Layer → Type 0
AreTyped schemas layers =
    (place : PointPlace) (value : Value) → HasPoint layers place value → IsOfSeries schemas place.path (type_of value)

pub typed_append : (schemas : List SeriesEntry) (xs ys : List Layer) → AreTyped schemas xs → AreTyped schemas ys
    → AreTyped schemas (xs ++ ys)
typed_append schemas xs ys first second place value has =
    ⊎_elim (first place value) (second place value) (has_cases xs ys place value has)

pub typed_left : (schemas : List SeriesEntry) (xs ys : List Layer) → AreTyped schemas (xs ++ ys) → AreTyped schemas xs
typed_left schemas xs ys all place value has = all place value (has_left xs ys place value has)

pub typed_right : (schemas : List SeriesEntry) (xs ys : List Layer) → AreTyped schemas (xs ++ ys) → AreTyped schemas ys
typed_right schemas xs ys all place value has = all place value (has_right xs ys place value has)

-- fewer late layers
pub late_part : (xs ys : List Layer) (pairs : List FrozenContent) → IsPartOf xs ys → LateIsBelow ys pairs
    → LateIsBelow xs pairs
late_part xs ys [] part below = tt
late_part xs ys (pair ∷ pairs) part below =
    let more = part_append _ _ _ _ part (part_itself (unsequence_layer pair ∷ [])) in (
      before_part _ (sequence_layer pair ∷ []) _ (sequence_layer pair ∷ []) more
          (part_itself (sequence_layer pair ∷ [])) below.0,
      late_part (xs ++ unsequence_layer pair ∷ []) (ys ++ unsequence_layer pair ∷ []) pairs more below.1,
    )

-- late layers are before all frozen sequence parts
pub late_before : (late : List Layer) (pairs : List FrozenContent) → LateIsBelow late pairs
    → IsBeforeInTime late (map sequence_layer pairs)
late_before late [] below = λ p q v w a b same. absurd b
late_before late (pair ∷ pairs) below =
    let first : IsPartOf late (late ++ unsequence_layer pair ∷ []) = part_left _ _ in
    before_each _ (sequence_layer pair ∷ []) _ (before_part _ (sequence_layer pair ∷ []) _ (sequence_layer pair ∷ [])
    first (part_itself (sequence_layer pair ∷ [])) below.0) (late_before late pairs (late_part _ _ pairs first below.1))
