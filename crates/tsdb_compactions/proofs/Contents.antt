-- The content that has the points of a part.
use Rattle.std.proofs.Common.{◌≡◌, ◌≢◌, ℕ, Bool, true, false, cond, List, [], ◌∷◌, ◌++◌, map, Some}
use Rattle.std.proofs.Common.{inl, inr, ⊎_elim, ap, refl, sym, subst, ◌∙◌}
use Rattle.std.specs.Ordering.{eq_by_cmp}
use Rattle.std.specs.FinMap.{empty, get, get-empty}
use Rattle.std.specs.List.{AllByRecursion as Each}
use Rattle.tsdb_base.specs.declared.point.Point.{Point}
use Rattle.tsdb_base.specs.declared.value.Value.{Value}
use Rattle.tsdb_flush.specs.BuiltParts.{HasPartPoint, IsContentOfPart, IsPart, IsFilledSeries}
use Rattle.tsdb_flush.specs.Parts.{Filled}
use Rattle.tsdb_base.proofs.Lists.{among_left, among_map, among_right, each_among, each_from_among, each_of_map}
use Rattle.tsdb_state.proofs.LayerLemmas.Places.{get_put, is_place, place_itself}
use Rattle.tsdb_base.specs.Lists.{Among, EachPair}
use Rattle.tsdb_state.specs.Places.{Content, PointPlace, place_cmp, put_content}
use Rattle.tsdb_flush.proofs.Counts.{among_either, pairs_append, placed, row_differs}
use Rattle.tsdb_flush.proofs.Frozen.{image_of}

-- ---- a content of points at different places

abbrev content_of : List (PointPlace × Value) → Content
content_of [] = empty
content_of (point ∷ points) = put_content point.0 point.1 (content_of points)

abbrev Apart : PointPlace × Value → PointPlace × Value → Type 0
Apart point other = point.0 ≢ other.0

some_is : (a b : Value) → Some a ≡ Some b → a ≡ b
some_is a b same = cc

has_point : (points : List (PointPlace × Value)) → EachPair Apart points → (place : PointPlace) (value : Value)
    → get (content_of points) place ≡ Some value → Among (place, value) points
has_point [] apart place value has = absurd (cc (sym (get-empty place_cmp place) ∙ has))
has_point (point ∷ points) apart place value has =
    by (eq_by_cmp place_cmp place point.0) refl (sym (get_put (content_of points) point.0 point.1 place) ∙ has)
    (has_point points apart.1 place value)
  where
    by : (b : Bool) → eq_by_cmp place_cmp place point.0 ≡ b
        → cond b (Some point.1) (get (content_of points) place) ≡ Some value
        → (get (content_of points) place ≡ Some value → Among (place, value) points)
        → Among (place, value) (point ∷ points)
    by true same is rest = inl (λ i. (sym (is_place place point.0 same) i, some_is point.1 value is i))
    by false other is rest = inr (rest is)

point_has : (points : List (PointPlace × Value)) → EachPair Apart points → (place : PointPlace) (value : Value)
    → Among (place, value) points → get (content_of points) place ≡ Some value
point_has [] apart place value among = absurd among
point_has (point ∷ points) apart place value (inl is) =
    get_put (content_of points) point.0 point.1 place
    ∙ ap (λ b. cond b (Some point.1) (get (content_of points) place)) same ∙ ap (λ (p : PointPlace × Value). Some p.1) is
  where
    same : eq_by_cmp place_cmp place point.0 ≡ true
    same = subst (λ (q : PointPlace). eq_by_cmp place_cmp place q ≡ true) (sym (ap (λ (p : PointPlace × Value). p.0) is))
        (place_itself place)
point_has (point ∷ points) apart place value (inr among) =
    get_put (content_of points) point.0 point.1 place
    ∙ by (eq_by_cmp place_cmp place point.0) refl (point_has points apart.1 place value among)
  where
    by : (b : Bool) → eq_by_cmp place_cmp place point.0 ≡ b → get (content_of points) place ≡ Some value
        → cond b (Some point.1) (get (content_of points) place) ≡ Some value
    by true same rest = absurd (each_among (Apart point) points (place, value) apart.0 among
        (sym (is_place place point.0 same)))
    by false other rest = rest

-- ---- the points of a part

abbrev at_place : List ℕ → Point → PointPlace × Value
at_place path point = (placed path point, point.value)

abbrev points_of : List Filled → List (PointPlace × Value)
points_of [] = []
points_of (filled ∷ part) = map (at_place filled.schema.path) filled.points ++ points_of part

to_part : (part : List Filled) (place : PointPlace) (value : Value) → Among (place, value) (points_of part)
    → HasPartPoint part place value
to_part [] place value among = absurd among
to_part (filled ∷ part) place value among = ⊎_elim here (λ behind. more (to_part part place value behind))
    (among_either (map (at_place filled.schema.path) filled.points) (points_of part) (place, value) among)
  where
    here : Among (place, value) (map (at_place filled.schema.path) filled.points)
        → HasPartPoint (filled ∷ part) place value
    here first =
        let image = image_of (at_place filled.schema.path) filled.points (place, value) first in
        record {
          filled = filled;
          in_part = inl refl;
          point = image.element;
          in_series = image.among;
          path = ap (λ (p : PointPlace × Value). p.0.path) image.is;
          time = ap (λ (p : PointPlace × Value). p.0.time) image.is;
          has = ap (λ (p : PointPlace × Value). p.1) image.is;
        }

    more : HasPartPoint part place value → HasPartPoint (filled ∷ part) place value
    more has = record {
      filled = has.filled;
      in_part = inr has.in_part;
      point = has.point;
      in_series = has.in_series;
      path = has.path;
      time = has.time;
      has = has.has;
    }

in_points : (part : List Filled) (filled : Filled) (point : Point) → Among filled part → Among point filled.points
    → Among (at_place filled.schema.path point) (points_of part)
in_points [] filled point there among = absurd there
in_points (f ∷ part) filled point (inl is) among =
    among_left (map (at_place f.schema.path) f.points) (points_of part) (at_place filled.schema.path point)
    (subst (λ (h : Filled). Among (at_place h.schema.path point) (map (at_place f.schema.path) f.points)) is
    (among_map (at_place f.schema.path) f.points point (subst (λ (h : Filled). Among point h.points) (sym is) among)))
in_points (f ∷ part) filled point (inr there) among =
    among_right (map (at_place f.schema.path) f.points) (points_of part) (at_place filled.schema.path point)
    (in_points part filled point there among)

from_part : (part : List Filled) (place : PointPlace) (value : Value) → HasPartPoint part place value
    → Among (place, value) (points_of part)
from_part part place value has = subst (λ (p : PointPlace × Value). Among p (points_of part))
    (λ i. (record { path = has.path i; time = has.time i }, has.has i))
    (in_points part has.filled has.point has.in_part has.in_series)

-- ---- they stand at different places

row_apart : (path : List ℕ) (points : List Point) → EachPair (λ (p q : PointPlace). p ≢ q) (map (placed path) points)
    → EachPair Apart (map (at_place path) points)
row_apart path [] differ = tt
row_apart path (point ∷ points) differ = (
  each_from_among (Apart (at_place path point)) (map (at_place path) points) (λ other among.
      let image = image_of (at_place path) points other among in
      subst (λ (p : PointPlace × Value). placed path point ≢ p.0) image.is
      (each_among (λ (q : Point). placed path point ≢ placed path q) points image.element
      (each_of_map (λ (q : PointPlace). placed path point ≢ q) (placed path) points differ.0) image.among)),
  row_apart path points differ.1,
)

part_apart : (part : List Filled) → Each IsFilledSeries part
    → EachPair (λ (a b : Filled). a.schema.path ≢ b.schema.path) part → EachPair Apart (points_of part)
part_apart [] each differ = tt
part_apart (filled ∷ part) each differ =
    pairs_append Apart (map (at_place filled.schema.path) filled.points) (points_of part)
    (row_apart filled.schema.path filled.points (row_differs filled.schema.path filled.points each.0.rising))
    (part_apart part each.1 differ.1)
    (λ p q left right same.
    let image = image_of (at_place filled.schema.path) filled.points p left in
    let other = to_part part q.0 q.1 right in
    each_among (λ (b : Filled). filled.schema.path ≢ b.schema.path) part other.filled differ.0 other.in_part
    (ap (λ (r : PointPlace × Value). r.0.path) image.is ∙ ap (λ (r : PointPlace). r.path) same ∙ sym other.path))

-- a part has a content
abbrev pub content_of_part : List Filled → Content
content_of_part part = content_of (points_of part)

pub is_content : (part : List Filled) → IsPart part → IsContentOfPart part (content_of_part part)
is_content part is place value = (
  λ has. to_part part place value (has_point (points_of part) apart place value has),
  λ has. point_has (points_of part) apart place value (from_part part place value has),
)
  where
    apart : EachPair Apart (points_of part)
    apart = part_apart part is.each is.differ
