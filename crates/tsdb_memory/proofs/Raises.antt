-- The last sequence times of the working pair, series by series.
use Rattle.std.proofs.Common.{◌≡◌, ◌≢◌, ◌⊎◌, inl, inr, ⊎_elim, ℕ, zero, suc, ◌+◌, ◌-◌, ◌<◌, ◌≤◌, ℤ, ◌≤ℤ◌, ◌<ℤ◌, Bool, true, false}
use Rattle.std.proofs.Common.{cond, not, ◌==◌, ne_eqb, List, [], ◌∷◌, ◌++◌, length, map, take, drop, get_or, Some, None}
use Rattle.std.proofs.Common.{Result, Ok, Err, IfOk, refl, sym, ap, subst, ◌∙◌, arith, add-one, slice_get}
use Rattle.std.proofs.lemmas.Int.{ints}
use Rattle.std.proofs.Math.Seq.{take-suc}
use Rattle.std.specs.Prelude.{All}
use Rattle.std.specs.List.{filter}
use Rattle.std.specs.Map.{lookup}
use Rattle.std.specs.Option.{unwrap_or}
use Rattle.std.proofs.lemmas.Bool.{false≢true}
use Rattle.std.proofs.lemmas.List.{drop_more, take_all}
use Rattle.std.proofs.lemmas.List.Elements.{All-head, All-more, All-tail, All-weaker}
use Rattle.tsdb_base.specs.declared.ids.SeriesId.{SeriesId}
use Rattle.tsdb_base.specs.declared.ids.Space.TheVariants.{Sequence}
use Rattle.tsdb_base.specs.declared.point.Point.{Point}
use Rattle.tsdb_base.proofs.Lists.{among_left, among_right}
use Rattle.tsdb_state.proofs.LayerLemmas.Places.{is_path_same, path_itself}
use Rattle.tsdb_base.specs.Lists.{Among}
use Rattle.tsdb_state.specs.Places.{is_path}
use Rattle.tsdb_model.specs.declared.command.Schema.{Schema}
use Rattle.tsdb_memory.proofs.Frozen.{image_of}
use Rattle.tsdb_memory.proofs.Numbers.{some_same}
use Rattle.tsdb_memory.proofs.Series.{one_number}
use Rattle.tsdb_memory.specs.Freezing.{AreRaises, HaveWatermarkPlaces, HasPairTime, IsRaiseOf, IsReachedByRaise, raised_by}
use Rattle.tsdb_memory.specs.declared.freezing.Raise.{Raise}
use Rattle.tsdb_memtable.specs.Pairs.{Pair, SeriesPoints, blank, is_series, points_in, points_of, table}
use Rattle.tsdb_base.specs.Points.{IsRising}
use Rattle.tsdb_memtable.specs.Watermarks.{HasPlace, Watermarks, later_time, watermark}
use Rattle.tsdb_path.specs.Nodes.{device_of}

-- a series with points is in the list

abbrev Row : Type 0
Row = ℕ × List Point

abbrev row_of : ℕ × SeriesPoints → Row
row_of entry = (entry.0, points_in Sequence entry.1)

abbrev is_filled : Row → Bool
is_filled row = not (length row.1 == 0)

abbrev numbers_of : List Row → List ℕ
numbers_of rows = map (λ (row : Row). row.0) rows

no_zero : (n : ℕ) → suc n ≡ 0 → ⊥
no_zero n e = omega (arith, e)

filled_first : (row : Row) (rows : List Row) (point : Point) → Among point row.1
    → Among row.0 (numbers_of (cond (is_filled row) (row ∷ rows) rows))
filled_first row rows point among = by row.1 refl among
  where
    by : (points : List Point) → row.1 ≡ points → Among point points
        → Among row.0 (numbers_of (cond (is_filled row) (row ∷ rows) rows))
    by [] e among = absurd among
    by (p ∷ points) e among =
        let filled : is_filled row ≡ true =
        ap (λ (l : List Point). not (length l == 0)) e ∙ ap not (ne_eqb (suc (length points)) 0 (no_zero (length points))) in
        subst (λ b. Among row.0 (numbers_of (cond b (row ∷ rows) rows))) (sym filled) (inl refl)

filled_more : (b : Bool) (row : Row) (rows : List Row) (n : ℕ) → Among n (numbers_of rows)
    → Among n (numbers_of (cond b (row ∷ rows) rows))
filled_more true row rows n among = inr among
filled_more false row rows n among = among

has_row : (pair : Pair) (number : ℕ) (point : Point) → Among point (points_of Sequence number pair)
    → Among number (numbers_of (table Sequence pair))
has_row [] number point among = absurd among
has_row (e ∷ pair) number point among =
    by (is_series number e.0) refl among (λ h. has_row pair number point h)
  where
    by : (b : Bool) → is_series number e.0 ≡ b
        → Among point (points_in Sequence (unwrap_or (cond b (Some e.1) (lookup (is_series number) pair)) blank))
        → (Among point (points_of Sequence number pair) → Among number (numbers_of (table Sequence pair)))
        → Among number (numbers_of (table Sequence (e ∷ pair)))
    by true same among rest =
        subst (λ n. Among n (numbers_of (table Sequence (e ∷ pair)))) (sym (one_number number e.0 same))
        (filled_first (row_of e) (filter is_filled (map row_of pair)) point among)
    by false same among rest =
        filled_more (is_filled (row_of e)) (row_of e) (filter is_filled (map row_of pair)) number (rest among)

pub lists_ids : (pair : Pair) (all : List SeriesId)
    → map (λ (id : SeriesId). id.0) all ≡ map (λ (entry : ℕ × List Point). entry.0) (table Sequence pair)
    → (number : ℕ) (point : Point) → Among point (points_of Sequence number pair)
    → Among (record { 0 = number }) all
lists_ids pair all is number point among =
    let image = image_of (λ (id : SeriesId). id.0) all number
    (subst (λ l. Among number l) (sym is) (has_row pair number point among)) in
    subst (λ n. Among (record { 0 = n }) all) image.is image.among

pub if_ok : {T E : Type 0} (r : Result T E) (P Q : T → Type 0) → ((x : T) → P x → Q x) → IfOk r P → IfOk r Q
if_ok (Ok x) P Q f h = f x h
if_ok (Err e) P Q f h = tt

-- the raises of some of the series

pub record AreRaisesOf (series : List Schema) (pair : Pair) (ids : List SeriesId) (raises : List Raise) : Type 0 where
  pub had : (raise : Raise) → Among raise raises → HasPairTime series pair raise.device raise.time
  pub reaches : (id : SeriesId) (schema : Schema) (point : Point) → Among id ids
      → slice_get series id.0 ≡ Some schema → Among point (points_of Sequence id.0 pair)
      → IsReachedByRaise raises (device_of schema.path) point.time

pub no_raises : (series : List Schema) (pair : Pair) (raises : List Raise) → raises ≡ [] → AreRaisesOf series pair [] raises
no_raises series pair raises none = subst (AreRaisesOf series pair []) (sym none)
    (record { had = λ raise among. absurd among; reaches = λ id schema point among at has. absurd among })

push_reaches : (raises : List Raise) (raise : Raise) (device : List ℕ) (time : ℤ) → IsReachedByRaise raises device time
    → IsReachedByRaise (raises ++ raise ∷ []) device time
push_reaches raises raise device time r = record {
  raise = r.raise;
  among = among_left raises (raise ∷ []) r.raise r.among;
  of_device = r.of_device;
  reaches = r.reaches;
}

among_cases : {X : Type 0} (xs : List X) (y x : X) → Among x (xs ++ y ∷ []) → Among x xs ⊎ (y ≡ x)
among_cases [] y x (inl is) = inr is
among_cases [] y x (inr among) = absurd among
among_cases (z ∷ xs) y x (inl is) = inl (inl is)
among_cases (z ∷ xs) y x (inr among) = ⊎_elim (λ h. inl (inr h)) (λ h. inr h) (among_cases xs y x among)

one_schema : (a b : Schema) → Some a ≡ Some b → a ≡ b
one_schema a b e = some_same a b e

module _ (series : List Schema) (pair : Pair) (ids : List SeriesId) (i : ℕ) (id d : SeriesId) (raises : List Raise)
    (within : i < length ids) (is : id ≡ get_or ids i d) (before : AreRaisesOf series pair (take i ids) raises) where
  split : take (i + 1) ids ≡ take i ids ++ id ∷ []
  split = ap (λ n. take n ids) (add-one i) ∙ take-suc ids i d within ∙ ap (λ r. take i ids ++ r ∷ []) (sym is)

  pub raise_joins : (raise : Raise) (next : List Raise) → IsRaiseOf series pair id.0 raise → next ≡ raises ++ raise ∷ []
      → AreRaisesOf series pair (take (i + 1) ids) next
  raise_joins raise next r added = subst (AreRaisesOf series pair (take (i + 1) ids)) (sym added) (record {
    had = λ other among. ⊎_elim (λ k. before.had other k)
        (λ e. subst (λ (x : Raise). HasPairTime series pair x.device x.time) e r.had)
        (among_cases raises raise other among);
    reaches = λ other schema point among at has.
        ⊎_elim (λ k. push_reaches raises raise (device_of schema.path) point.time
        (before.reaches other schema point k at has))
        (λ e. record {
          raise = raise;
          among = among_right raises (raise ∷ []) raise (inl refl);
          of_device = sym r.had.of_device ∙ ap (λ (s : Schema). device_of s.path)
              (one_schema r.had.schema schema (sym r.had.at ∙ ap (slice_get series)
              (r.of_series ∙ ap (λ (n : SeriesId). n.0) e) ∙ at));
          reaches = r.reaches point
              (subst (λ (n : SeriesId). Among point (points_of Sequence n.0 pair)) (sym e) has);
        })
        (among_cases (take i ids) id other (subst (λ l. Among other l) split among));
  })

  pub none_joins : points_of Sequence id.0 pair ≡ [] → AreRaisesOf series pair (take (i + 1) ids) raises
  none_joins none = record {
    had = before.had;
    reaches = λ other schema point among at has.
        ⊎_elim (λ k. before.reaches other schema point k at has)
        (λ e. absurd (nothing point (subst (λ l. Among point l) none
        (subst (λ (n : SeriesId). Among point (points_of Sequence n.0 pair)) (sym e) has))))
        (among_cases (take i ids) id other (subst (λ l. Among other l) split among));
  }
    where
      nothing : (point : Point) → Among point [] → ⊥
      nothing point among = absurd among

pub all_raises : (series : List Schema) (pair : Pair) (ids : List SeriesId) (i : ℕ) (raises : List Raise) → length ids ≤ i
    → AreRaisesOf series pair (take i ids) raises
    → ((number : ℕ) (point : Point) → Among point (points_of Sequence number pair)
    → Among (record { 0 = number }) ids)
    → AreRaises series pair raises
all_raises series pair ids i raises end are all = record {
  had = are.had;
  reaches = λ device time has.
      let id : SeriesId = record { 0 = has.number } in
      let among : Among id (take i ids) =
      subst (λ l. Among id l) (sym (take_all i ids end)) (all has.number has.point has.among) in
      subst (λ time. IsReachedByRaise raises device time) has.is
      (subst (λ d. IsReachedByRaise raises d has.point.time) has.of_device
      (are.reaches id has.schema has.point among has.at has.among));
}

-- the last of some points

record IsLast (points : List Point) (last : Point) : Type 0 where
  pub among : Among last points
  pub reaches : (point : Point) → Among point points → point.time ≤ℤ last.time

at_most : (a b : ℤ) → a ≡ b → a ≤ℤ b
at_most a b e = omega (arith, ints)

through : (a b c : ℤ) → a <ℤ b → b ≤ℤ c → a ≤ℤ c
through a b c h k = omega (arith, ints)

last_of : (p : Point) (points : List Point) (last : Point) → slice_get (p ∷ points) (length points) ≡ Some last
    → IsRising (p ∷ points) → IsLast (p ∷ points) last
last_of p [] last at rising =
    let same = some_same p last at in
    record {
      among = inl same;
      reaches = λ point among. ⊎_elim
          (λ e. at_most point.time last.time (ap (λ (q : Point). q.time) (sym e ∙ same))) (λ h. absurd h) among;
    }
last_of p (q ∷ points) last at rising =
    let rest = last_of q points last at (λ i j d lt in_it. rising (suc i) (suc j) d (next i j lt) (next j _ in_it)) in
    record {
      among = inr rest.among;
      reaches = λ point among. ⊎_elim
          (λ e. through point.time q.time last.time
          (subst (λ (r : Point). r.time <ℤ q.time) e (rising 0 1 p first (second (length points))))
          (rest.reaches q (inl refl)))
          (λ h. rest.reaches point h) among;
    }
  where
    next : (i j : ℕ) → i < j → suc i < suc j
    next i j h = omega (arith, h)

    first : 0 < 1
    first = omega arith

    second : (n : ℕ) → 1 < suc (suc n)
    second n = omega arith

one_less : (n : ℕ) → suc n - 1 ≡ n
one_less n = omega arith

last_in : (points : List Point) (last : Point) → slice_get points (length points - 1) ≡ Some last → IsRising points
    → IsLast points last
last_in [] last at rising = absurd (cc)
last_in (p ∷ points) last at rising =
    last_of p points last (ap (slice_get (p ∷ points)) (sym (one_less (length points))) ∙ at) rising

pub no_last : (points : List Point) → slice_get points (length points - 1) ≡ None → points ≡ []
no_last [] e = refl
no_last (p ∷ points) e =
    absurd (there p points (ap (slice_get (p ∷ points)) (sym (one_less (length points))) ∙ e))
  where
    there : (p : Point) (points : List Point) → slice_get (p ∷ points) (length points) ≡ None → ⊥
    there p [] e = cc
    there p (q ∷ points) e = there q points e

pub raise_is : (series : List Schema) (pair : Pair) (number : ℕ) (schema : Schema) (last : Point) (raise : Raise)
    → slice_get series number ≡ Some schema
    → slice_get (points_of Sequence number pair) (length (points_of Sequence number pair) - 1)
    ≡ Some last → IsRising (points_of Sequence number pair)
    → raise.device ≡ device_of schema.path → raise.time ≡ last.time
    → IsRaiseOf series pair number raise
raise_is series pair number schema last raise at end rising device time =
    let is = last_in (points_of Sequence number pair) last end rising in
    record {
      had = record {
        number = number;
        schema = schema;
        point = last;
        at = at;
        among = is.among;
        of_device = sym device;
        is = sym time;
      };
      of_series = refl;
      reaches = λ point among. subst (λ t. point.time ≤ℤ t) (sym time) (is.reaches point among);
    }

-- a series that is not there has no points
pub beyond : {X : Type 0} (xs : List X) (n : ℕ) → slice_get xs n ≡ None → length xs ≤ n
beyond [] n e = omega arith
beyond (x ∷ xs) zero e = absurd (cc)
beyond (x ∷ xs) (suc n) e = let rest = beyond xs n e in omega (arith, rest)

pub all_at : {X : Type 0} (P : X → Type 0) (xs : List X) (n : ℕ) (x : X) → All P xs → slice_get xs n ≡ Some x → P x
all_at P [] n x all e = absurd (cc)
all_at P (y ∷ xs) zero x all e = subst P (some_same y x e) (All-head P y xs all)
all_at P (y ∷ xs) (suc n) x all e = all_at P xs n x (All-tail P y xs all) e

-- more places
pub place_more : (raises : List Raise) (i : ℕ) (raise : Raise) (old new : Watermarks) → i < length raises
    → raise ≡ get_or raises i raise → HaveWatermarkPlaces old (take i raises)
    → HasPlace new raise.device → ((device : List ℕ) → HasPlace old device → HasPlace new device)
    → HaveWatermarkPlaces new (take (i + 1) raises)
place_more raises i raise old new within is placed here keeps =
    All-more (λ (r : Raise). HasPlace new r.device) raises i raise within
    (All-weaker (λ (r : Raise). HasPlace old r.device) (λ (r : Raise). HasPlace new r.device)
    (λ r h. keeps r.device h) (take i raises) placed)
    (subst (λ (r : Raise). HasPlace new r.device) is here)

-- one raise more
pub raise_step : (raises : List Raise) (i : ℕ) (raise : Raise) (mid new : Watermarks) (device : List ℕ)
    → i < length raises → raise ≡ get_or raises i raise
    → watermark new raise.device ≡ later_time (watermark mid raise.device) raise.time
    → ((other : List ℕ) → raise.device ≢ other → watermark new other ≡ watermark mid other)
    → raised_by device (drop (i + 1) raises) (watermark new device)
    ≡ raised_by device (drop i raises) (watermark mid device)
raise_step raises i raise mid new device within is here there =
    ap (raised_by device (drop (i + 1) raises)) (by (is_path raise.device device) refl)
    ∙ sym (ap (λ l. raised_by device l (watermark mid device))
    (drop_more raises i raise within ∙ ap (λ r. r ∷ drop (i + 1) raises) (sym is)))
  where
    by : (b : Bool) → is_path raise.device device ≡ b
        → watermark new device ≡ cond b (later_time (watermark mid device) raise.time) (watermark mid device)
    by true e =
        let same = is_path_same raise.device device e in
        ap (watermark new) (sym same) ∙ here ∙ ap (λ d. later_time (watermark mid d) raise.time) same
    by false e = there device (λ same. false≢true (sym e ∙ ap (is_path raise.device) (sym same)
        ∙ path_itself raise.device))
