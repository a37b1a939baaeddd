-- A content has as many values as the pair has points.
use Rattle.std.proofs.Common.{◌≡◌, ◌≢◌, ◌⊎◌, inl, inr, ⊎_elim, ℕ, suc, ◌+◌, ◌<◌, ℤ, ◌<ℤ◌, Bool, true, false, cond}
use Rattle.std.proofs.Common.{List, [], ◌∷◌, ◌++◌, length, map, Option, Some, None, refl, sym, ap, subst, ◌∙◌, arith, is_some}
use Rattle.std.proofs.Common.{length-append, slice_get}
use Rattle.std.proofs.lemmas.List.{length-map}
use Rattle.std.proofs.lemmas.Int.{ints}
use Rattle.std.specs.Prelude.{IsSome, find}
use Rattle.std.specs.FinMap.{empty, get, get-empty, get-insert, get-remove, insert, len, len-empty, len-insert, remove}
use Rattle.std.specs.List.Sorted.{IsStrictlySortedBy}
use Rattle.std.specs.Map.{keys_of, lookup}
use Rattle.std.specs.Option.{option_and_then, option_map, unwrap_or}
use Rattle.std.specs.Ordering.{eq_by_cmp, int_eq, nat_cmp}
use Rattle.std.specs.declared.cmp.Ordering.TheVariants.{Less}
use Rattle.std.proofs.lemmas.Bool.{false≢true}
use Rattle.tsdb_base.specs.declared.ids.Space.{Space}
use Rattle.tsdb_base.specs.declared.ids.Space.TheVariants.{Sequence, Unsequence}
use Rattle.tsdb_base.specs.declared.point.Point.{Point}
use Rattle.tsdb_base.specs.declared.value.Value.{Value}
use Rattle.tsdb_base.proofs.Lists.{among_left, among_map, among_right, each_among, each_from_among}
use Rattle.tsdb_state.proofs.LayerLemmas.Places.{is_place, place_cmp_total, place_itself, same_content}
use Rattle.tsdb_base.specs.Lists.{Among, EachPair}
use Rattle.tsdb_state.specs.Places.{Content, PointPlace, place_cmp}
use Rattle.tsdb_model.specs.declared.command.Schema.{Schema}
use Rattle.tsdb_memory.proofs.Emptiness.{not_less, parted, total}
use Rattle.tsdb_memory.proofs.Frozen.{image_of, point_at, value_there}
use Rattle.tsdb_memory.proofs.Numbers.{schema_at, some_same}
use Rattle.tsdb_memory.proofs.Raises.{beyond}
use Rattle.tsdb_memory.proofs.Series.{itself, one_number}
use Rattle.tsdb_memory.specs.Model.{HasKnownSeries}
use Rattle.tsdb_memory.specs.StateOfMemory.{IsPairContent, number_of, point_value_at, value_found}
use Rattle.tsdb_memtable.specs.Pairs.{HasRisingSeries, Pair, SeriesPoints, blank, space_count, is_series, points_in, points_of}
use Rattle.tsdb_base.specs.Points.{IsRising}

-- how many values a content has

abbrev pub AreKeys : List PointPlace → Content → Type 0
AreKeys places content = (q : PointPlace) → (Among q places → IsSome (get content q)) × (IsSome (get content q) → Among q places)

pub none_of : (o : Option Value) → (IsSome o → ⊥) → o ≡ None
none_of None h = refl
none_of (Some v) h = absurd (h refl)

pub removed_none : (content : Content) (p : PointPlace) → get (remove content p) p ≡ None
removed_none content p = get-remove place_cmp_total content p p
    ∙ ap (λ b. cond b None (get content p)) (place_itself p)

-- a content with a value is what it is without it, and the value
pub put_back : (content : Content) (p : PointPlace) (v : Value) → get content p ≡ Some v
    → content ≡ insert (remove content p) p v
put_back content p v at = same_content content (insert (remove content p) p v) (λ q.
    sym (get-insert place_cmp_total (remove content p) p v q
    ∙ ap (cond (eq_by_cmp place_cmp q p) (Some v)) (get-remove place_cmp_total content p q)
    ∙ choose q (eq_by_cmp place_cmp q p) refl))
  where
    choose : (q : PointPlace) (b : Bool) → eq_by_cmp place_cmp q p ≡ b
        → cond b (Some v) (cond b None (get content q)) ≡ get content q
    choose q true e = sym (ap (get content) (is_place q p e) ∙ at)
    choose q false e = refl

-- what is left without a value
pub left_at : (content : Content) (p q : PointPlace) (v : Value) → get (remove content p) q ≡ Some v → get content q ≡ Some v
left_at content p q v at = by (eq_by_cmp place_cmp q p) (sym (get-remove place_cmp_total content p q) ∙ at)
  where
    by : (b : Bool) → cond b None (get content q) ≡ Some v → get content q ≡ Some v
    by true e = absurd (cc)
    by false e = e

pub keys_left : (p : PointPlace) (places : List PointPlace) (content : Content) → EachPair (λ (p q : PointPlace). p ≢ q) (p ∷ places)
    → AreKeys (p ∷ places) content → AreKeys places (remove content p)
keys_left p places content differ are q = (
  λ among. by_first (eq_by_cmp place_cmp q p) refl among,
  λ some. ⊎_elim (λ same. absurd (false≢true (subst IsSome (is_gone same) some))) (λ among. among)
      ((are q).1 (was (eq_by_cmp place_cmp q p) (subst IsSome (get-remove place_cmp_total content p q) some))),
)
  where
    is_gone : p ≡ q → get (remove content p) q ≡ None
    is_gone same = subst (λ (r : PointPlace). get (remove content p) r ≡ None) same (removed_none content p)

    was : (b : Bool) → IsSome (cond b None (get content q)) → IsSome (get content q)
    was true some = absurd (false≢true some)
    was false some = some

    by_first : (b : Bool) → eq_by_cmp place_cmp q p ≡ b → Among q places → IsSome (get (remove content p) q)
    by_first true e among = absurd (each_among (λ (r : PointPlace). p ≢ r) places q differ.0 among (sym (is_place q p e)))
    by_first false e among = subst IsSome (sym (get-remove place_cmp_total content p q
        ∙ ap (λ b. cond b None (get content q)) e)) ((are q).0 (inr among))

pub len_of : (places : List PointPlace) (content : Content) → EachPair (λ (p q : PointPlace). p ≢ q) places → AreKeys places content
    → len content ≡ length places
len_of [] content differ are =
    ap len (same_content content empty
    (λ q. none_of (get content q) (λ some. nothing q ((are q).1 some)) ∙ sym (get-empty place_cmp q)))
    ∙ len-empty place_cmp Value
  where
    nothing : (q : PointPlace) → Among q [] → ⊥
    nothing q among = absurd among
len_of (p ∷ places) content differ are =
    by (get content p) refl (len_of places (remove content p) differ.1 (keys_left p places content differ are))
  where
    one_more : (n : ℕ) → n + 1 ≡ suc n
    one_more n = omega arith

    by : (o : Option Value) → get content p ≡ o → len (remove content p) ≡ length places
        → len content ≡ length (p ∷ places)
    by None e rest = absurd (false≢true (subst IsSome e ((are p).0 (inl refl))))
    by (Some v) e rest =
        ap len (put_back content p v e)
        ∙ len-insert place_cmp_total (remove content p) p v
        ∙ ap (λ o. cond (is_some o) (len (remove content p)) (len (remove content p) + 1)) (removed_none content p)
        ∙ ap (λ n. n + 1) rest ∙ one_more (length places)

-- the places of a pair's points

abbrev pub path_in : List Schema → ℕ → List ℕ
path_in series number = unwrap_or (option_map (λ (s : Schema). s.path) (slice_get series number)) []

abbrev pub placed : List ℕ → Point → PointPlace
placed path point = record { path = path; time = point.time }

abbrev pub places_in : List Schema → Space → Pair → List PointPlace
places_in series space [] = []
places_in series space (entry ∷ pair) =
    map (placed (path_in series entry.0)) (points_in space entry.1) ++ places_in series space pair

as_many : (series : List Schema) (space : Space) (pair : Pair) → length (places_in series space pair) ≡ total space pair
as_many series space [] = refl
as_many series space (entry ∷ pair) =
    length-append (map (placed (path_in series entry.0)) (points_in space entry.1)) (places_in series space pair)
    ∙ (λ i. length-map (points_in space entry.1) (placed (path_in series entry.0)) i + as_many series space pair i)
    ∙ sym (parted space entry pair)

record PlaceIn (series : List Schema) (space : Space) (pair : Pair) (place : PointPlace) : Type 0 where
  pub entry : ℕ × SeriesPoints
  pub listed : Among entry pair
  pub point : Point
  pub among : Among point (points_in space entry.1)
  pub is : placed (path_in series entry.0) point ≡ place

pub among_either : {X : Type 0} (xs ys : List X) (x : X) → Among x (xs ++ ys) → Among x xs ⊎ Among x ys
among_either [] ys x among = inr among
among_either (z ∷ xs) ys x (inl is) = inl (inl is)
among_either (z ∷ xs) ys x (inr among) = ⊎_elim (λ h. inl (inr h)) (λ h. inr h) (among_either xs ys x among)

place_in : (series : List Schema) (space : Space) (pair : Pair) (place : PointPlace)
    → Among place (places_in series space pair) → PlaceIn series space pair place
place_in series space [] place among = absurd among
place_in series space (entry ∷ pair) place among = ⊎_elim
    (λ here.
    let image = image_of (placed (path_in series entry.0)) (points_in space entry.1) place here in
    record { entry = entry; listed = inl refl; point = image.element; among = image.among; is = image.is })
    (λ behind.
    let found = place_in series space pair place behind in
    record {
      entry = found.entry;
      listed = inr found.listed;
      point = found.point;
      among = found.among;
      is = found.is;
    })
    (among_either (map (placed (path_in series entry.0)) (points_in space entry.1)) (places_in series space pair) place
    among)

has_place : (series : List Schema) (space : Space) (pair : Pair) (number : ℕ) (point : Point)
    → Among point (points_of space number pair)
    → Among (placed (path_in series number) point) (places_in series space pair)
has_place series Sequence [] number point among = absurd among
has_place series Unsequence [] number point among = absurd among
has_place series space (entry ∷ pair) number point among =
    by (is_series number entry.0) refl among (λ h. has_place series space pair number point h)
  where
    row : List PointPlace
    row = map (placed (path_in series entry.0)) (points_in space entry.1)

    by : (b : Bool) → is_series number entry.0 ≡ b
        → Among point (points_in space (unwrap_or (cond b (Some entry.1) (lookup (is_series number) pair)) blank))
        → (Among point (points_of space number pair)
        → Among (placed (path_in series number) point) (places_in series space pair))
        → Among (placed (path_in series number) point) (row ++ places_in series space pair)
    by true e among rest =
        among_left row (places_in series space pair) (placed (path_in series number) point)
        (subst (λ n. Among (placed (path_in series n) point) row) (sym (one_number number entry.0 e))
        (among_map (placed (path_in series entry.0)) (points_in space entry.1) point among))
    by false e among rest =
        among_right row (places_in series space pair) (placed (path_in series number) point) (rest among)

-- what a look-up finds is the entry
at_entry : (space : Space) (pair : Pair) → IsStrictlySortedBy nat_cmp (keys_of pair) → (entry : ℕ × SeriesPoints)
    → Among entry pair → points_of space entry.0 pair ≡ points_in space entry.1
unfolding IsStrictlySortedBy
at_entry space [] rising entry among = absurd among
at_entry space (first ∷ pair) rising entry (inl is) =
    subst (λ (e : ℕ × SeriesPoints). points_of space e.0 (first ∷ pair) ≡ points_in space e.1) is
    (ap (λ b. points_in space (unwrap_or (cond b (Some first.1) (lookup (is_series first.0) pair)) blank))
    (itself first.0))
at_entry space (first ∷ pair) rising entry (inr among) =
    by (is_series entry.0 first.0) refl (at_entry space pair rising.1 entry among)
  where
    key : Among entry.0 (keys_of pair)
    key = among_map (λ (e : ℕ × SeriesPoints). e.0) pair entry among

    by : (b : Bool) → is_series entry.0 first.0 ≡ b → points_of space entry.0 pair ≡ points_in space entry.1
        → points_in space (unwrap_or (cond b (Some first.1) (lookup (is_series entry.0) pair)) blank)
        ≡ points_in space entry.1
    by true e rest = absurd (not_less first.0
        (subst (λ n. nat_cmp first.0 n ≡ Less) (one_number entry.0 first.0 e)
        (each_among (λ y. nat_cmp first.0 y ≡ Less) (keys_of pair) entry.0 rising.0 key)))
    by false e rest = rest

-- no place stands twice

pub tail_rising : (p : Point) (points : List Point) → IsRising (p ∷ points) → IsRising points
tail_rising p points rising = λ i j d before within.
    rising (suc i) (suc j) d (omega (arith, before)) (omega (arith, within))

first_two : (p r : Point) (points : List Point) → IsRising (p ∷ r ∷ points) → p.time <ℤ r.time
first_two p r points rising = rising 0 1 p first (second (length points))
  where
    first : 0 < 1
    first = omega arith

    second : (n : ℕ) → 1 < suc (suc n)
    second n = omega arith

pub below : (p : Point) (points : List Point) → IsRising (p ∷ points) → (q : Point) → Among q points → p.time <ℤ q.time
below p [] rising q among = absurd among
below p (r ∷ points) rising q (inl is) = subst (λ (s : Point). p.time <ℤ s.time) is (first_two p r points rising)
below p (r ∷ points) rising q (inr among) =
    through p.time r.time q.time (first_two p r points rising)
    (below r points (tail_rising p (r ∷ points) rising) q among)
  where
    through : (a b c : ℤ) → a <ℤ b → b <ℤ c → a <ℤ c
    through a b c h k = omega (arith, ints)

apart : (a b : ℤ) → a <ℤ b → a ≡ b → ⊥
apart a b h e = absurd (omega (arith, ints))

same_value_at : (a b : ℤ) → a <ℤ b → int_eq b a ≡ false
same_value_at a b h = grind (arith, ints)

time_is : (a : ℤ) → int_eq a a ≡ true
time_is a = grind (arith, ints)

-- the value at the time of a point is its own
pub value_of_point : (points : List Point) (point : Point) → IsRising points → Among point points
    → point_value_at point.time points ≡ Some point.value
value_of_point [] point rising among = absurd among
value_of_point (p ∷ points) point rising (inl is) =
    subst (λ (q : Point). point_value_at q.time (p ∷ points) ≡ Some q.value) is
    (ap (λ b. option_map (λ (q : Point). q.value) (cond b (Some p) (find (λ (q : Point). int_eq p.time q.time) points)))
    (time_is p.time))
value_of_point (p ∷ points) point rising (inr among) =
    ap (λ b. option_map (λ (q : Point). q.value)
    (cond b (Some p) (find (λ (q : Point). int_eq point.time q.time) points)))
    (same_value_at p.time point.time (below p points rising point among))
    ∙ value_of_point points point (tail_rising p points rising) among

pub row_differs : (path : List ℕ) (points : List Point) → IsRising points
    → EachPair (λ (p q : PointPlace). p ≢ q) (map (placed path) points)
row_differs path [] rising = tt
row_differs path (p ∷ points) rising = (
  each_from_among (λ (q : PointPlace). placed path p ≢ q) (map (placed path) points) (λ q among same.
      let image = image_of (placed path) points q among in
      apart p.time image.element.time (below p points rising image.element image.among)
      (ap (λ (r : PointPlace). r.time) (same ∙ sym image.is))),
  row_differs path points (tail_rising p points rising),
)

pub pairs_append : {X : Type 0} (R : X → X → Type 0) (xs ys : List X) → EachPair R xs → EachPair R ys
    → ((x y : X) → Among x xs → Among y ys → R x y) → EachPair R (xs ++ ys)
pairs_append R [] ys left right cross = right
pairs_append R (x ∷ xs) ys left right cross = (
  each_from_among (R x) (xs ++ ys) (λ y among. ⊎_elim
      (λ h. each_among (R x) xs y left.0 h)
      (λ h. cross x y (inl refl) h)
      (among_either xs ys y among)),
  pairs_append R xs ys left.1 right (λ z y a b. cross z y (inr a) b),
)

record IsLive (series : List Schema) (number : ℕ) : Type 0 where
  pub schema : Schema
  pub at : slice_get series number ≡ Some schema

abbrev HasNumbers : List Schema → Type 0
HasNumbers series = (number : ℕ) (schema : Schema) → slice_get series number ≡ Some schema
    → number_of series schema.path ≡ Some number

path_is : (series : List Schema) (number : ℕ) (live : IsLive series number) → path_in series number ≡ live.schema.path
path_is series number live = ap (λ o. unwrap_or (option_map (λ (s : Schema). s.path) o) []) live.at

one_series : (series : List Schema) → HasNumbers series → (n m : ℕ) → IsLive series n → IsLive series m
    → path_in series n ≡ path_in series m → n ≡ m
one_series series once n m first second same =
    some_same n m (sym (once n first.schema first.at)
    ∙ ap (number_of series) (sym (path_is series n first) ∙ same ∙ path_is series m second)
    ∙ once m second.schema second.at)

places_differ : (series : List Schema) (space : Space) (pair : Pair) → HasNumbers series
    → IsStrictlySortedBy nat_cmp (keys_of pair)
    → ((entry : ℕ × SeriesPoints) → Among entry pair → IsRising (points_in space entry.1))
    → ((entry : ℕ × SeriesPoints) (point : Point) → Among entry pair → Among point (points_in space entry.1)
    → IsLive series entry.0)
    → EachPair (λ (p q : PointPlace). p ≢ q) (places_in series space pair)
unfolding IsStrictlySortedBy
places_differ series space [] once sorted rising live = tt
places_differ series space (first ∷ pair) once sorted rising live =
    pairs_append (λ (p q : PointPlace). p ≢ q) (map (placed (path_in series first.0)) (points_in space first.1))
    (places_in series space pair)
    (row_differs (path_in series first.0) (points_in space first.1) (rising first (inl refl)))
    (places_differ series space pair once sorted.1 (λ entry among. rising entry (inr among))
    (λ entry point among has. live entry point (inr among) has))
    (λ p q left right same.
    let image = image_of (placed (path_in series first.0)) (points_in space first.1) p left in
    let other = place_in series space pair q right in
    let number = one_series series once first.0 other.entry.0 (live first image.element (inl refl) image.among)
    (live other.entry other.point (inr other.listed) other.among)
    (ap (λ (r : PointPlace). r.path) (image.is ∙ same ∙ sym other.is)) in
    not_less first.0 (subst (λ n. nat_cmp first.0 n ≡ Less) (sym number)
    (each_among (λ y. nat_cmp first.0 y ≡ Less) (keys_of pair) other.entry.0 sorted.0
    (among_map (λ (e : ℕ × SeriesPoints). e.0) pair other.entry other.listed))))

-- the count

record FoundIn (series : List Schema) (space : Space) (pair : Pair) (place : PointPlace) : Type 0 where
  pub number : ℕ
  pub numbered : number_of series place.path ≡ Some number
  pub some : IsSome (point_value_at place.time (points_of space number pair))

found_in : (series : List Schema) (space : Space) (pair : Pair) (place : PointPlace)
    → IsSome (value_found series space pair place) → FoundIn series space pair place
found_in series space pair place some = by (number_of series place.path) refl some
  where
    by : (o : Option ℕ) → number_of series place.path ≡ o
        → IsSome (option_and_then (λ number. point_value_at place.time (points_of space number pair)) o)
        → FoundIn series space pair place
    by None e some = absurd (false≢true some)
    by (Some n) e some = record { number = n; numbered = e; some = some }

module _ (series : List Schema) (space : Space) (pair : Pair) (content : Content) (once : HasNumbers series)
    (known : HasKnownSeries series pair) (rising : (number : ℕ) → IsRising (points_of space number pair))
    (sorted : HasRisingSeries pair) (is : IsPairContent series space pair content) where
  live : (number : ℕ) (point : Point) → Among point (points_of space number pair) → IsLive series number
  live number point among = by (slice_get series number) refl
    where
      nowhere : Among point [] → ⊥
      nowhere among = absurd among

      by : (o : Option Schema) → slice_get series number ≡ o → IsLive series number
      by None e = absurd (nowhere (subst (λ l. Among point l) (known space number (beyond series number e)) among))
      by (Some schema) e = record { schema = schema; at = e }

  here : (entry : ℕ × SeriesPoints) → Among entry pair → points_of space entry.0 pair ≡ points_in space entry.1
  here entry among = at_entry space pair sorted entry among

  has : (q : PointPlace) → Among q (places_in series space pair) → IsSome (get content q)
  has q among =
      let found = place_in series space pair q among in
      let at : Among found.point (points_of space found.entry.0 pair) =
      subst (λ l. Among found.point l) (sym (here found.entry found.listed)) found.among in
      let alive = live found.entry.0 found.point at in
      let numbered : number_of series (path_in series found.entry.0) ≡ Some found.entry.0 =
      ap (number_of series) (path_is series found.entry.0 alive) ∙ once found.entry.0 alive.schema alive.at in
      let value : IsSome (value_found series space pair (placed (path_in series found.entry.0) found.point)) =
      subst (λ o. IsSome (option_and_then (λ number. point_value_at found.point.time (points_of space number pair)) o))
      (sym numbered) (value_there (points_of space found.entry.0 pair) found.point at) in
      subst (λ (p : PointPlace). IsSome (get content p)) found.is
      (subst IsSome (sym (is (placed (path_in series found.entry.0) found.point))) value)

  had : (q : PointPlace) → IsSome (get content q) → Among q (places_in series space pair)
  had q some =
      let found = found_in series space pair q (subst IsSome (is q) some) in
      let point = point_at (points_of space found.number pair) q.time found.some in
      let schema = schema_at series q.path found.number found.numbered in
      let path : path_in series found.number ≡ q.path =
      ap (λ o. unwrap_or (option_map (λ (s : Schema). s.path) o) []) schema.at ∙ schema.of_path in
      let same : placed (path_in series found.number) point.point ≡ q =
      λ i. record { path = path i; time = point.is i } in
      subst (λ (p : PointPlace). Among p (places_in series space pair)) same
      (has_place series space pair found.number point.point point.among)

  pub are_keys : AreKeys (places_in series space pair) content
  are_keys q = (has q, had q)

  pub places_apart : EachPair (λ (p q : PointPlace). p ≢ q) (places_in series space pair)
  places_apart = places_differ series space pair once sorted
      (λ entry among. subst IsRising (here entry among) (rising entry.0))
      (λ entry point among at. live entry.0 point (subst (λ l. Among point l) (sym (here entry among)) at))

  pub counted_points : len content ≡ space_count space pair
  counted_points = len_of (places_in series space pair) content places_apart are_keys ∙ as_many series space pair

  -- each point has its value at its place
  pub value_placed : (entry : ℕ × SeriesPoints) (point : Point) → Among entry pair
      → Among point (points_in space entry.1) → get content (placed (path_in series entry.0) point) ≡ Some point.value
  value_placed entry point listed among =
      let at : Among point (points_of space entry.0 pair) =
      subst (λ l. Among point l) (sym (here entry listed)) among in
      let alive = live entry.0 point at in
      is (placed (path_in series entry.0) point)
      ∙ ap (option_and_then (λ number. point_value_at point.time (points_of space number pair)))
      (ap (number_of series) (path_is series entry.0 alive) ∙ once entry.0 alive.schema alive.at)
      ∙ value_of_point (points_of space entry.0 pair) point (rising entry.0) at
