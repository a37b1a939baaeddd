-- What is kept of a part's file says its points.
use Rattle.std.proofs.Common.{◌≡◌, ◌≢◌, ℕ, ◌+◌, ◌<◌, ◌≤◌, ℤ, List, [], ◌∷◌, ◌++◌, length, map, Option, None, Some, inl, inr, ⊎_elim, refl, sym, ap, ◌∙◌, subst, length-append, arith}
use Rattle.std.specs.Prelude.{◌↔◌, ◌≤ℤ◌, IsSome, sum_by}
use Rattle.std.specs.FinMap.{get, len}
use Rattle.std.specs.List.{AllByRecursion as Each}
use Rattle.std.proofs.lemmas.List.{length-map}
use Rattle.std.proofs.lemmas.List.Sums.{sum_by-cons}
use Rattle.std.proofs.lemmas.Bool.{false≢true}
use Rattle.tsdb_base.specs.declared.point.Point.{Point}
use Rattle.tsdb_base.specs.declared.value.Value.{Value}
use Rattle.tsdb_flush.specs.BuiltParts.{IsContentOfPart, IsPart, IsFilledSeries, entry_of}
use Rattle.tsdb_flush.specs.BuiltFile.{AreHullsOf, HasHullOver, HasFilledTime, IsFileEntryOf, paths_of}
use Rattle.tsdb_flush.specs.Parts.{Filled}
use Rattle.tsdb_base.proofs.Lists.{among_left, among_map, among_right, each_among, each_weaker}
use Rattle.tsdb_base.specs.Lists.{Among, EachPair}
use Rattle.tsdb_memory.specs.Places.{Content, PointPlace}
use Rattle.tsdb_memory.proofs.Counts.{among_either, len_of, pairs_append, placed, row_differs}
use Rattle.tsdb_memory.proofs.Frozen.{image_of}
use Rattle.tsdb_path.specs.Nodes.{device_of}
use Rattle.tsdb_plan.specs.declared.entry.FileEntry.{FileEntry}
use Rattle.tsdb_plan.specs.declared.entry.Hull.{Hull}
use Rattle.tsdb_memory.specs.Jobs as state

-- ---- the places of a part

abbrev places_of : List Filled → List PointPlace
places_of [] = []
places_of (filled ∷ part) = map (placed filled.schema.path) filled.points ++ places_of part

as_many : (part : List Filled) → length (places_of part) ≡ sum_by (λ f. length f.points) part
as_many [] = refl
as_many (filled ∷ part) = length-append (map (placed filled.schema.path) filled.points) (places_of part)
    ∙ (λ i. length-map filled.points (placed filled.schema.path) i + as_many part i) ∙ sym (sum_by-cons (λ (f : Filled). length f.points) filled part)

-- a place of the part, and its point
pub record PlaceOf (part : List Filled) (place : PointPlace) : Type 0 where
  pub filled : Filled
  pub in_part : Among filled part
  pub point : Point
  pub in_series : Among point filled.points
  pub is : placed filled.schema.path point ≡ place

place_of : (part : List Filled) (place : PointPlace) → Among place (places_of part) → PlaceOf part place
place_of [] place there = absurd there
place_of (filled ∷ part) place there = ⊎_elim here (λ among. behind (place_of part place among)) (among_either (map (placed filled.schema.path) filled.points) (places_of part) place there)
  where
    here : Among place (map (placed filled.schema.path) filled.points) → PlaceOf (filled ∷ part) place
    here among =
        let image = image_of (placed filled.schema.path) filled.points place among in
        record { filled = filled; in_part = inl refl; point = image.element; in_series = image.among; is = image.is }

    behind : PlaceOf part place → PlaceOf (filled ∷ part) place
    behind found = record { filled = found.filled; in_part = inr found.in_part; point = found.point; in_series = found.in_series; is = found.is }

has_place : (part : List Filled) (filled : Filled) (point : Point) → Among filled part → Among point filled.points → Among (placed filled.schema.path point) (places_of part)
has_place [] filled point there among = absurd there
has_place (f ∷ part) filled point (inl is) among =
    among_left (map (placed f.schema.path) f.points) (places_of part) (placed filled.schema.path point)
    (subst (λ (h : Filled). Among (placed h.schema.path point) (map (placed f.schema.path) f.points)) is (among_map (placed f.schema.path) f.points point (subst (λ (h : Filled). Among point h.points) (sym is) among)))
has_place (f ∷ part) filled point (inr there) among =
    among_right (map (placed f.schema.path) f.points) (places_of part) (placed filled.schema.path point) (has_place part filled point there among)

places_differ : (part : List Filled) → Each IsFilledSeries part → EachPair (λ (a b : Filled). a.schema.path ≢ b.schema.path) part → EachPair (λ (p q : PointPlace). p ≢ q) (places_of part)
places_differ [] each differ = tt
places_differ (filled ∷ part) each differ =
    pairs_append (λ (p q : PointPlace). p ≢ q) (map (placed filled.schema.path) filled.points) (places_of part) (row_differs filled.schema.path filled.points each.0.rising) (places_differ part each.1 differ.1)
    (λ p q left right same.
    let image = image_of (placed filled.schema.path) filled.points p left in
    let other = place_of part q right in
    each_among (λ (b : Filled). filled.schema.path ≢ b.schema.path) part other.filled differ.0 other.in_part
    (ap (λ (r : PointPlace). r.path) (image.is ∙ same ∙ sym other.is)))

-- ---- the content has a value exactly at the places

some_value : (o : Option Value) (value : Value) → o ≡ Some value → IsSome o
some_value o value is = subst IsSome (sym is) refl

value_of : (o : Option Value) → IsSome o → (value : Value) × (o ≡ Some value)
value_of None some = absurd (false≢true some)
value_of (Some value) some = (value, refl)

module _ (part : List Filled) (content : Content) (is : IsContentOfPart part content) where
  pub has_point : (filled : Filled) (point : Point) → Among filled part → Among point filled.points → get content (placed filled.schema.path point) ≡ Some point.value
  has_point filled point in_part in_series =
      (is (placed filled.schema.path point) point.value).1 (record { filled = filled; in_part = in_part; point = point; in_series = in_series; path = refl; time = refl; has = refl })

  at_places : (q : PointPlace) → (Among q (places_of part) → IsSome (get content q)) × (IsSome (get content q) → Among q (places_of part))
  at_places q = (there, back)
    where
      there : Among q (places_of part) → IsSome (get content q)
      there among =
          let found = place_of part q among in
          subst (λ (p : PointPlace). IsSome (get content p)) found.is (some_value (get content (placed found.filled.schema.path found.point)) found.point.value (has_point found.filled found.point found.in_part found.in_series))

      back : IsSome (get content q) → Among q (places_of part)
      back some =
          let value = value_of (get content q) some in
          let has = (is q value.0).0 value.1 in
          subst (λ (p : PointPlace). Among p (places_of part)) (λ i. record { path = has.path i; time = has.time i }) (has_place part has.filled has.point has.in_part has.in_series)

  pub counted : IsPart part → sum_by (λ f. length f.points) part ≡ len content
  counted whole = sym (as_many part) ∙ sym (len_of (places_of part) content (places_differ part whole.each whole.differ) at_places)

  first_point : (filled : Filled) → 0 < length filled.points → (point : Point) × Among point filled.points
  first_point filled some = of_list filled.points some
    where
      of_list : (points : List Point) → 0 < length points → (point : Point) × Among point points
      of_list [] some = absurd (omega (arith, some))
      of_list (point ∷ points) some = (point, inl refl)

  pub series_said : Each IsFilledSeries part → (path : List ℕ) → Among path (paths_of part) ↔ ((place : PointPlace) × (value : Value) × (place.path ≡ path) × (get content place ≡ Some value))
  series_said each path = (there, back)
    where
      there : Among path (paths_of part) → (place : PointPlace) × (value : Value) × (place.path ≡ path) × (get content place ≡ Some value)
      there among =
          let image = image_of (λ (f : Filled). f.schema.path) part path among in
          let first = first_point image.element (each_among IsFilledSeries part image.element each image.among).some in
          (placed image.element.schema.path first.0, first.0.value, image.is, has_point image.element first.0 image.among first.1)

      back : (place : PointPlace) × (value : Value) × (place.path ≡ path) × (get content place ≡ Some value) → Among path (paths_of part)
      back (place, value, at, has) =
          let found = (is place value).0 has in
          subst (λ (p : List ℕ). Among p (paths_of part)) (found.path ∙ at) (among_map (λ (f : Filled). f.schema.path) part found.filled found.in_part)

  pub over_each : (hulls : List Hull) → AreHullsOf part hulls → (place : PointPlace) (value : Value) → get content place ≡ Some value → (hull : Hull) × Among hull hulls × state.IsHullOver hull place
  over_each hulls are place value has =
      let found = (is place value).0 has in
      let over = each_among (λ (p : Point). HasHullOver hulls (device_of found.filled.schema.path) p.time) found.filled.points found.point
      (each_among (λ (f : Filled). Each (λ (p : Point). HasHullOver hulls (device_of f.schema.path) p.time) f.points) part found.filled are.over found.in_part) found.in_series in (
        over.hull,
        over.among,
        record {
          device = over.of_device ∙ ap device_of found.path;
          from = subst (λ (t : ℤ). over.hull.from ≤ℤ t) found.time over.from;
          to = subst (λ (t : ℤ). t ≤ℤ over.hull.to) found.time over.to;
        },
      )

  time_said : (device : List ℕ) (time : ℤ) → HasFilledTime part device time → state.HasTime content device time
  time_said device time has = record {
    place = placed has.filled.schema.path has.point;
    value = has.point.value;
    has = has_point has.filled has.point has.among has.in_series;
    of_device = has.of_device;
    at = has.at;
  }

  pub described : (number born : ℕ) (bytes : List ℕ) (entry : FileEntry) → IsPart part → IsFileEntryOf number born bytes part entry → state.Describes (entry_of entry (paths_of part)) content
  described number born bytes entry whole kept = record {
    some = some_points part whole.some whole.each kept.points_are;
    points = kept.points_are ∙ counted whole;
    series = series_said whole.each;
    rising = kept.hulls_are.rising;
    over = over_each entry.hulls kept.hulls_are;
    tight = each_weaker (λ (h : Hull). HasFilledTime part h.device h.from × HasFilledTime part h.device h.to) (λ (h : Hull). state.HasTime content h.device h.from × state.HasTime content h.device h.to)
        (λ h has. (time_said h.device h.from has.0, time_said h.device h.to has.1)) entry.hulls kept.hulls_are.tight;
  }
    where
      some_points : (all : List Filled) → 0 < length all → Each IsFilledSeries all → entry.points ≡ sum_by (λ f. length f.points) all → 1 ≤ entry.points
      some_points [] some each is = absurd (omega (arith, some))
      some_points (f ∷ all) some each is = omega (arith, is, sum_by-cons (λ (g : Filled). length g.points) f all, each.0.some)
