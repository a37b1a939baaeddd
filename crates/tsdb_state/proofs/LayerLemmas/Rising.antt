-- Lists of layers in order of time.
use Rattle.std.proofs.Common.{List, [], ◌∷◌, ◌++◌, inl, inr, ⊎_elim}
use Rattle.tsdb_base.specs.declared.value.Value.{Value}
use Rattle.tsdb_state.proofs.LayerLemmas.Values.{has_cases, has_left, has_right}
use Rattle.tsdb_state.specs.Layers.{HasPoint, Layer}
use Rattle.tsdb_state.specs.LayerOrder.{IsBeforeInTime, IsBelow, Rises, WatermarkMap}
use Rattle.tsdb_state.specs.Places.{PointPlace}

-- each point of the one list is one of the other
abbrev pub IsPartOf : List Layer → List Layer → Type 0
IsPartOf xs ys = (place : PointPlace) (value : Value) → HasPoint xs place value → HasPoint ys place value

pub part_append : (xs ys vs ws : List Layer) → IsPartOf xs vs → IsPartOf ys ws → IsPartOf (xs ++ ys) (vs ++ ws)
part_append xs ys vs ws first second place value has = ⊎_elim (λ h. has_left _ _ _ _ (first place value h))
    (λ h. has_right _ _ _ _ (second place value h)) (has_cases _ _ _ _ has)

pub part_left : (xs ys : List Layer) → IsPartOf xs (xs ++ ys)
part_left xs ys = has_left _ _

pub part_right : (xs ys : List Layer) → IsPartOf ys (xs ++ ys)
part_right xs ys = has_right _ _

pub before_part : (xs ys vs ws : List Layer) → IsPartOf xs vs → IsPartOf ys ws → IsBeforeInTime vs ws → IsBeforeInTime xs ys
before_part xs ys vs ws first second before p q v w a b = before p q v w (first p v a) (second q w b)

pub before_both : (xs ys zs : List Layer) → IsBeforeInTime xs zs → IsBeforeInTime ys zs → IsBeforeInTime (xs ++ ys) zs
before_both xs ys zs first second p q v w a b same =
    ⊎_elim (λ h. first p q v w h b same) (λ h. second p q v w h b same) (has_cases _ _ p v a)

pub before_each : (xs ys zs : List Layer) → IsBeforeInTime xs ys → IsBeforeInTime xs zs → IsBeforeInTime xs (ys ++ zs)
before_each xs ys zs first second p q v w a b same =
    ⊎_elim (λ h. first p q v w a h same) (λ h. second p q v w a h same) (has_cases _ _ q w b)

pub rises_left : (xs ys : List Layer) → Rises (xs ++ ys) → Rises xs
rises_left [] ys rises = tt
rises_left (x ∷ xs) ys rises = (
  before_part (x ∷ []) _ (x ∷ []) _ (λ p v h. h) (has_left _ _) rises.0,
  rises_left xs ys rises.1,
)

pub rises_right : (xs ys : List Layer) → Rises (xs ++ ys) → Rises ys
rises_right [] ys rises = rises
rises_right (x ∷ xs) ys rises = rises_right xs ys rises.1

pub rises_across : (xs ys : List Layer) → Rises (xs ++ ys) → IsBeforeInTime xs ys
rises_across [] ys rises p q v w a b same = absurd a
rises_across (x ∷ xs) ys rises p q v w (inl is) b same = rises.0 p q v w (inl is) (has_right _ _ q w b) same
rises_across (x ∷ xs) ys rises p q v w (inr a) b same = rises_across xs ys rises.1 p q v w a b same

pub rises_append : (xs ys : List Layer) → Rises xs → Rises ys → IsBeforeInTime xs ys → Rises (xs ++ ys)
rises_append [] ys first second across = second
rises_append (x ∷ xs) ys first second across = (
  before_each (x ∷ []) _ _ first.0 (before_part (x ∷ []) _ (x ∷ xs) _ (has_left (x ∷ []) xs) (λ p v h. h) across),
  rises_append xs ys first.1 second (before_part _ _ (x ∷ xs) _ (has_right (x ∷ []) _) (λ p v h. h) across),
)

pub below_part : (watermarks : WatermarkMap) (xs ys : List Layer) → IsPartOf xs ys → IsBelow watermarks ys
    → IsBelow watermarks xs
below_part watermarks xs ys part below place value has = below place value (part place value has)

pub below_both : (watermarks : WatermarkMap) (xs ys : List Layer) → IsBelow watermarks xs → IsBelow watermarks ys
    → IsBelow watermarks (xs ++ ys)
below_both watermarks xs ys first second place value has =
    ⊎_elim (first place value) (second place value) (has_cases _ _ _ _ has)

pub part_itself : (xs : List Layer) → IsPartOf xs xs
part_itself xs place value has = has

-- layers in the middle of others, in place of some that have all of their points
pub part_middle : (a b xs ys : List Layer) → IsPartOf xs ys → IsPartOf (a ++ (xs ++ b)) (a ++ (ys ++ b))
part_middle a b xs ys part = part_append a _ a _ (part_itself a) (part_append _ b _ b part (part_itself b))

pub rises_middle : (a b xs ys : List Layer) → IsPartOf xs ys → Rises xs → Rises (a ++ (ys ++ b))
    → Rises (a ++ (xs ++ b))
rises_middle a b xs ys part rises all =
    let rest = rises_right a _ all in
    rises_append a _ (rises_left a _ all) (rises_append _ b rises (rises_right _ b rest)
    (before_part _ b _ b part (part_itself b) (rises_across _ b rest)))
    (before_part a _ a _ (part_itself a) (part_append _ b _ b part (part_itself b)) (rises_across a _ all))
