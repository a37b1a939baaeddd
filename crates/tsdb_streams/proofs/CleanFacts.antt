-- Tests of lists of pages, points and marks, one element behind the other.
use Rattle.std.proofs.Common.{◌≡◌, ℕ, ℤ, zero, suc, ◌+◌, ◌-◌, ◌<◌, ◌≤◌, Bool, true, false, cond, List, [], ◌∷◌, ◌++◌, ◌⊎◌, inl, inr, length, map, take, drop, get_or, set, Some, refl, sym, ap, subst, ◌∙◌, arith}
use Rattle.std.specs.Prelude.{◌&&◌, ◌||◌, ◌↔◌, ◌≤ℤ◌, IsTrue, flat_map, int_le, nat_lt, not, slice_get}
use Rattle.std.specs.List.{list_any}
use Rattle.std.specs.Option.{option_map, unwrap_or}
use Rattle.std.proofs.lemmas.Bool.{false≢true, lt-ltb, ltb-true}
use Rattle.std.proofs.lemmas.Int.{ints}
use Rattle.std.proofs.lemmas.List.{get_or_default, get_or-set_other, get_or-set_same, length-set, append_assoc, append-nil, drop-map, flat_map_more, map-append, take-map, take_more}
use Rattle.std.proofs.lemmas.List.Elements.{All-cons, All-head, All-tail}
use Rattle.std.proofs.lemmas.List.Folds.{list_any-append}
use Rattle.std.proofs.lemmas.Option.{slice_get-get_or}
use Rattle.tsdb_aggregate.specs.Pieces.{overlap}
use Rattle.tsdb_base.specs.declared.answers.Aggregate.{Aggregate}
use Rattle.tsdb_base.specs.declared.point.Point.{Point}
use Rattle.tsdb_base.specs.declared.point.Range.{Range}
use Rattle.tsdb_base.specs.declared.point.Stats.{Stats}
use Rattle.tsdb_streams.proofs.KeptLemmas.{common_time}
use Rattle.tsdb_streams.specs.Clean.{any_meets, hull_of, is_apart, is_marked, others}
use Rattle.tsdb_streams.specs.declared.survival.Kept.{Kept}
use Rattle.tsdb_streams.specs.declared.lane.Lane.{Lane}
use Rattle.tsdb_streams.specs.declared.lane.Lane.TheVariants.{Pages, Part}
use Rattle.tsdb_streams.specs.declared.lane.PartLane.{PartLane}
use Rattle.tsdb_index.specs.declared.index.IndexEntry.{IndexEntry}
use Rattle.tsdb_streams.specs.Cleaning.{AreCleaned, IsCleaned, IsFlagged, all_set, flags_of, lane_hulls, page_times, picked, whole_of}
use Rattle.tsdb_streams.specs.Lanes.{is_passed}
use Rattle.tsdb_index.specs.declared.index.PageEntry.{PageEntry}
use Rattle.tsdb_state.proofs.LayerLemmas.Places.{is_path_same, path_itself}
use Rattle.tsdb_state.specs.Places.{is_path}
use Rattle.tsdb_model.specs.World.{is_in}
use Rattle.tsdb_marks.specs.Survival.{Covers, Meets, Survives}
use Rattle.tsdb_marks.specs.declared.marks.Mark.{Mark}

-- ---- whether one of the elements passes

or_false : (a b : Bool) → a ≡ false → b ≡ false → (a || b) ≡ false
or_false a b e f = rw (e, f) refl

pub or_none : (a : Bool) → (a || false) ≡ a
or_none true = refl
or_none false = refl

or_right : (a b : Bool) → b ≡ true → (a || b) ≡ true
or_right true b e = refl
or_right false b e = e

pub none_more : {X Y : Type 0} (f : X → Y) (p : Y → Bool) (xs : List X) (i : ℕ) (x : X) → i < length xs → x ≡ get_or xs i x → list_any p (map f (take i xs)) ≡ false → p (f x) ≡ false → list_any p (map f (take (i + 1) xs)) ≡ false
none_more f p xs i x low is before here =
    let all : map f (take (i + 1) xs) ≡ map f (take i xs) ++ f x ∷ [] = ap (map f) (take_more xs i x low ∙ ap (λ z. take i xs ++ z ∷ []) (sym is)) ∙ map-append f (take i xs) (x ∷ []) in
    ap (list_any p) all ∙ list_any-append p (map f (take i xs)) (f x ∷ []) ∙ or_false (list_any p (map f (take i xs))) (p (f x) || false) before (or_false (p (f x)) false here refl)

pub found_one : {X Y : Type 0} (f : X → Y) (p : Y → Bool) (xs : List X) (i : ℕ) (x : X) → i < length xs → x ≡ get_or xs i x → p (f x) ≡ true → list_any p (map f xs) ≡ true
found_one f p [] i x low is here = absurd (omega (arith, low))
found_one f p (y ∷ xs) zero x low is here = rw (ap (λ z. p (f z)) (sym is) ∙ here) refl
found_one f p (y ∷ xs) (suc i) x low is here = or_right (p (f y)) (list_any p (map f xs)) (found_one f p xs i x (omega (arith, low)) is here)

-- one result more
pub map_push : {X Y : Type 0} (f : X → Y) (xs : List X) (i : ℕ) (x : X) (was now : List Y) (y : Y) → i < length xs → x ≡ get_or xs i x → was ≡ map f (take i xs) → now ≡ was ++ y ∷ [] → y ≡ f x → now ≡ map f (take (i + 1) xs)
map_push f xs i x was now y low is so_far pushed one =
    pushed ∙ ap (λ l. l ++ y ∷ []) so_far ∙ ap (λ z. map f (take i xs) ++ z ∷ []) one ∙ sym (map-append f (take i xs) (x ∷ [])) ∙ ap (map f) (sym (take_more xs i x low ∙ ap (λ z. take i xs ++ z ∷ []) (sym is)))

pub flat_push : {X Y : Type 0} (f : X → List Y) (xs : List X) (i : ℕ) (x : X) (was now : List Y) → i < length xs → x ≡ get_or xs i x → was ≡ flat_map f (take i xs) → now ≡ was ++ f x → now ≡ flat_map f (take (i + 1) xs)
flat_push f xs i x was now low is so_far pushed =
    pushed ∙ ap (λ l. l ++ f x) so_far ∙ flat_map_more f [] (take i xs) x ∙ ap (flat_map f) (sym (take_more xs i x low ∙ ap (λ z. take i xs ++ z ∷ []) (sym is)))

-- ---- the times of points

abbrev range_of : ℤ → ℤ → Range
range_of from to = record { from = from; to = to }

pub hull_is : (points : List Point) (first last : Point) → 0 < length points → first ≡ get_or points 0 first → last ≡ get_or points (length points - 1) last → hull_of points ≡ record { from = first.time; to = last.time } ∷ []
hull_is [] first last some is end = absurd (omega (arith, some))
hull_is (p ∷ ps) first last some is end =
    let at : length (p ∷ ps) - 1 ≡ length ps = omega arith in
    let here : slice_get (p ∷ ps) (length ps) ≡ Some last = slice_get-get_or (p ∷ ps) (length ps) last (omega arith) ∙ ap Some (ap (λ n. get_or (p ∷ ps) n last) (sym at) ∙ sym end) in
    ap (λ o. range_of p.time (unwrap_or (option_map (λ (q : Point). q.time) o) p.time) ∷ []) here ∙ ap (λ (q : Point). range_of q.time last.time ∷ []) (sym is)

pub no_hull : (points : List Point) → length points ≡ 0 → hull_of points ≡ []
no_hull [] none = refl
no_hull (p ∷ ps) none = absurd (omega (arith, none))

-- ---- marks that meet a range

pub both : (a b : Bool) → (a && b) ≡ true → (a ≡ true) × (b ≡ true)
both true b e = (refl, e)
both false b e = absurd cc

le_of : (a b : ℤ) → int_le a b ≡ true → a ≤ℤ b
le_of a b e = grind (arith, ints)

le_test : (a b : ℤ) → a ≤ℤ b → int_le a b ≡ true
le_test a b low = grind (arith, ints)

pub inside : (range : Range) (time : ℤ) → is_in range time ≡ true → (range.from ≤ℤ time) × (time ≤ℤ range.to)
inside range time e = let p = both (int_le range.from time) (int_le time range.to) e in (le_of range.from time p.0, le_of time range.to p.1)

pub inside_test : (range : Range) (time : ℤ) → range.from ≤ℤ time → time ≤ℤ range.to → is_in range time ≡ true
inside_test range time from to = rw (le_test range.from time from, le_test time range.to to) refl

-- ranges that overlap have a time in common
pub shared_time : (a b : Range) → overlap a b ≡ true → (time : ℤ) × (is_in a time ≡ true) × (is_in b time ≡ true)
shared_time a b e = by (is_in a b.from && is_in b b.from) refl
  where
    by : (c : Bool) → (is_in a b.from && is_in b b.from) ≡ c → (time : ℤ) × (is_in a time ≡ true) × (is_in b time ≡ true)
    by true f = let p = both (is_in a b.from) (is_in b b.from) f in (b.from, p.0, p.1)
    by false f =
        let other : (is_in b a.from && is_in a a.from) ≡ true = sym (ap (λ c. c || (is_in b a.from && is_in a a.from)) f) ∙ e in
        let p = both (is_in b a.from) (is_in a a.from) other in
        (a.from, p.1, p.0)

module _ (path : List ℕ) (born : ℕ) (times : Range) where
  abbrev mark_range : Mark → Range
  mark_range mark = record { from = mark.from; to = mark.to }

  abbrev test : Mark → Bool
  test mark = is_path mark.path path && (nat_lt born mark.version.0 && overlap (mark_range mark) times)

  abbrev Meet : List Mark → Type 0
  Meet marks = Meets marks path times born

  meets_now : (mark : Mark) (marks : List Mark) → test mark ≡ true → Meet (mark ∷ marks)
  meets_now mark marks e =
      let one = both (is_path mark.path path) (nat_lt born mark.version.0 && overlap (mark_range mark) times) e in
      let two = both (nat_lt born mark.version.0) (overlap (mark_range mark) times) one.1 in
      let shared = shared_time (mark_range mark) times two.1 in
      let at = inside times shared.0 shared.2 in
      let over = inside (mark_range mark) shared.0 shared.1 in
      record {
        time = shared.0;
        from = at.0;
        to = at.1;
        covered = λ all. All-head (λ mark. ¬ Covers mark path shared.0 born) mark marks all
            (record { path = is_path_same mark.path path one.0; from = over.0; to = over.1; newer = ltb-true born mark.version.0 two.0 });
      }

  meets_later : (mark : Mark) (marks : List Mark) → Meet marks → Meet (mark ∷ marks)
  meets_later mark marks m = record {
    time = m.time;
    from = m.from;
    to = m.to;
    covered = λ all. m.covered (All-tail (λ mark. ¬ Covers mark path m.time born) mark marks all);
  }

  meets_of : (marks : List Mark) → is_marked path marks born times ≡ true → Meet marks
  meets_of [] e = absurd cc
  meets_of (mark ∷ marks) e = by (test mark) refl (meets_of marks)
    where
      by : (b : Bool) → test mark ≡ b → (is_marked path marks born times ≡ true → Meet marks) → Meet (mark ∷ marks)
      by true f rest = meets_now mark marks f
      by false f rest = meets_later mark marks (rest (sym (ap (λ b. b || is_marked path marks born times) f) ∙ e))

  covers_test : (mark : Mark) (time : ℤ) → is_in times time ≡ true → Covers mark path time born → test mark ≡ true
  covers_test mark time at c =
      rw (ap (λ p. is_path mark.path p) (sym c.path) ∙ path_itself mark.path, lt-ltb born mark.version.0 c.newer)
      (common_time (mark_range mark) times time (inside_test (mark_range mark) time c.from c.to) at)

  marked_of : (marks : List Mark) (time : ℤ) → is_in times time ≡ true → ¬ Survives marks path time born → is_marked path marks born times ≡ true
  marked_of [] time at gone = absurd (gone (λ k d low. absurd (omega (arith, low))))
  marked_of (mark ∷ marks) time at gone = by (test mark) refl (marked_of marks time at)
    where
      by : (b : Bool) → test mark ≡ b → (¬ Survives marks path time born → is_marked path marks born times ≡ true) → is_marked path (mark ∷ marks) born times ≡ true
      by true f rest = ap (λ b. b || is_marked path marks born times) f
      by false f rest = ap (λ b. b || is_marked path marks born times) f
          ∙ rest (λ all. gone (All-cons (λ mark. ¬ Covers mark path time born) mark marks (λ c. false≢true (sym f ∙ covers_test mark time at c)) all))

  -- the test says whether a mark meets the range
  pub marked_test : (marks : List Mark) → (is_marked path marks born times ≡ true) ↔ Meets marks path times born
  marked_test marks = (meets_of marks, λ m. marked_of marks m.time (inside_test times m.time m.from m.to) m.covered)

-- ---- statistics of pages that are passed over

pub picked_none : (flags : List Bool) → picked flags [] ≡ []
picked_none [] = refl
picked_none (flag ∷ flags) = refl

pub picked_more : (flags : List Bool) (pages : List PageEntry) (i : ℕ) (page : PageEntry) → i < length pages → page ≡ get_or pages i page → picked flags (take (suc i) pages) ≡ picked flags (take i pages) ++ cond (is_passed flags i) (page.stats ∷ []) []
picked_more [] pages i page low is = refl
picked_more (flag ∷ flags) [] i page low is = absurd (omega (arith, low))
picked_more (flag ∷ flags) (p ∷ pages) zero page low is = first flag
  where
    first : (b : Bool) → cond b (p.stats ∷ picked flags []) (picked flags []) ≡ cond b (page.stats ∷ []) []
    first true = ap (λ l. p.stats ∷ l) (picked_none flags) ∙ ap (λ (q : PageEntry). q.stats ∷ []) (sym is)
    first false = picked_none flags
picked_more (flag ∷ flags) (p ∷ pages) (suc i) page low is = by flag (picked_more flags pages i page (omega (arith, low)) is)
  where
    by : (b : Bool) → picked flags (take (suc i) pages) ≡ picked flags (take i pages) ++ cond (is_passed flags i) (page.stats ∷ []) []
        → cond b (p.stats ∷ picked flags (take (suc i) pages)) (picked flags (take (suc i) pages)) ≡ cond b (p.stats ∷ picked flags (take i pages)) (picked flags (take i pages)) ++ cond (is_passed flags i) (page.stats ∷ []) []
    by true rest = ap (λ l. p.stats ∷ l) rest
    by false rest = rest

get_or_same : {X : Type 0} (xs : List X) (i : ℕ) (d : X) → i < length xs → get_or xs i d ≡ get_or xs i (get_or xs i d)
get_or_same [] i d low = absurd (omega (arith, low))
get_or_same (x ∷ xs) zero d low = refl
get_or_same (x ∷ xs) (suc i) d low = get_or_same xs i d (omega (arith, low))

pub picked_push : (flags : List Bool) (pages : List PageEntry) (i : ℕ) (page : PageEntry) (was now before : List Stats) (passed : Bool) → i < length pages → page ≡ get_or pages i page → was ≡ before ++ picked flags (take i pages) → passed ≡ is_passed flags i
    → now ≡ was ++ cond passed (page.stats ∷ []) [] → now ≡ before ++ picked flags (take (i + 1) pages)
picked_push flags pages i page was now before passed low is so_far flag pushed =
    let step : i + 1 ≡ suc i = omega arith in
    pushed ∙ ap (λ l. l ++ cond passed (page.stats ∷ []) []) so_far ∙ append_assoc before (picked flags (take i pages)) (cond passed (page.stats ∷ []) [])
    ∙ ap (λ b. before ++ (picked flags (take i pages) ++ cond b (page.stats ∷ []) [])) flag
    ∙ ap (λ l. before ++ l) (sym (picked_more flags pages i page low is)) ∙ ap (λ n. before ++ picked flags (take n pages)) (sym step)

pub pushed_one : (was now : List Stats) (copy stats : Stats) → now ≡ was ++ copy ∷ [] → copy ≡ stats → Unit {0} → now ≡ was ++ cond true (stats ∷ []) []
pushed_one was now copy stats push same done = push ∙ ap (λ s. was ++ s ∷ []) same

pub picked_skip : (flags : List Bool) (pages : List PageEntry) (i : ℕ) (was now before : List Stats) → i < length pages → was ≡ before ++ picked flags (take i pages) → false ≡ is_passed flags i → now ≡ was → now ≡ before ++ picked flags (take (i + 1) pages)
picked_skip flags [] i was now before low so_far flag same = absurd (omega (arith, low))
picked_skip flags (p ∷ pages) i was now before low so_far flag same =
    picked_push flags (p ∷ pages) i (get_or (p ∷ pages) i p) was now before false low (get_or_same (p ∷ pages) i p low) so_far flag (same ∙ sym (append-nil was))

-- ---- clean

pub take_drop : {X Y : Type 0} (f : X → Y) (p : Y → Bool) (n : ℕ) (xs : List X) → list_any p (others n (map f xs)) ≡ (list_any p (map f (take n xs)) || list_any p (map f (drop (n + 1) xs)))
take_drop f p n xs =
    list_any-append p (take n (map f xs)) (drop (n + 1) (map f xs))
    ∙ ap (λ l. list_any p l || list_any p (drop (n + 1) (map f xs))) (take-map f n xs)
    ∙ ap (λ l. list_any p (map f (take n xs)) || list_any p l) (drop-map f (n + 1) xs)

pub drop_one : {X : Type 0} (n : ℕ) (xs : List X) → drop 1 (drop n xs) ≡ drop (suc n) xs
drop_one zero xs = refl
drop_one (suc n) [] = refl
drop_one (suc n) (x ∷ xs) = drop_one n xs

or_true : (a b : Bool) → a ≡ true → (a || b) ≡ true
or_true a b e = rw e refl

-- one of the sources before this one meets the times
pub met_before : {X Y : Type 0} (f : X → Y) (p : Y → Bool) (n : ℕ) (xs front : List X) → front ≡ take n xs → list_any p (map f front) ≡ true → list_any p (others n (map f xs)) ≡ true
met_before f p n xs front is met = take_drop f p n xs ∙ or_true (list_any p (map f (take n xs))) (list_any p (map f (drop (n + 1) xs))) (ap (λ l. list_any p (map f l)) (sym is) ∙ met)

-- none of them does, so it is said by those behind it
pub met_behind : {X Y : Type 0} (f : X → Y) (p : Y → Bool) (n : ℕ) (xs front back rest : List X) (result : Bool) → front ≡ take n xs → back ≡ drop n xs → rest ≡ drop 1 back → list_any p (map f front) ≡ false → result ≡ list_any p (map f rest)
    → list_any p (others n (map f xs)) ≡ result
met_behind f p n xs front back rest result is behind later none says =
    let step : n + 1 ≡ suc n = omega arith in
    take_drop f p n xs ∙ ap (λ b. b || list_any p (map f (drop (n + 1) xs))) (ap (λ l. list_any p (map f l)) (sym is) ∙ none)
    ∙ ap (λ k. list_any p (map f (drop k xs))) step ∙ ap (λ l. list_any p (map f l)) (sym (later ∙ ap (drop 1) behind ∙ drop_one n xs)) ∙ sym says

module _ (path : List ℕ) (range : Range) (marks : List Mark) (hulls : List (List Range)) (born : ℕ) (times : Range) where
  abbrev clean : Bool
  clean = is_apart path range marks hulls born times

  by_parts : (a b m o : Bool) → is_in range times.from ≡ a → is_in range times.to ≡ b → is_marked path marks born times ≡ m → list_any (any_meets times) hulls ≡ o → clean ≡ ((a && b) && (not m && not o))
  by_parts a b m o ea eb em eo = rw (ea, eb, em, eo) refl

  pub clean_from : is_in range times.from ≡ false → false ≡ clean
  clean_from out = sym (by_parts false (is_in range times.to) (is_marked path marks born times) (list_any (any_meets times) hulls) out refl refl refl)

  pub clean_to : is_in range times.to ≡ false → false ≡ clean
  clean_to out = sym (by_parts (is_in range times.from) false (is_marked path marks born times) (list_any (any_meets times) hulls) refl out refl refl ∙ no (is_in range times.from) (not (is_marked path marks born times) && not (list_any (any_meets times) hulls)))
    where
      no : (a b : Bool) → ((a && false) && b) ≡ false
      no true b = refl
      no false b = refl

  pub clean_marked : IsTrue (is_marked path marks born times) → false ≡ clean
  clean_marked marked = sym (by_parts (is_in range times.from) (is_in range times.to) true (list_any (any_meets times) hulls) refl refl marked refl ∙ no (is_in range times.from) (is_in range times.to))
    where
      no : (a b : Bool) → ((a && b) && false) ≡ false
      no true true = refl
      no true false = refl
      no false b = refl

  pub clean_met : list_any (any_meets times) hulls ≡ true → false ≡ clean
  clean_met met = sym (by_parts (is_in range times.from) (is_in range times.to) (is_marked path marks born times) true refl refl refl met ∙ no (is_in range times.from) (is_in range times.to) (is_marked path marks born times))
    where
      no : (a b m : Bool) → ((a && b) && (not m && false)) ≡ false
      no true true true = refl
      no true true false = refl
      no true false m = refl
      no false b m = refl

  pub clean_else : is_in range times.from ≡ true → is_in range times.to ≡ true → is_marked path marks born times ≡ false → (o : Bool) → list_any (any_meets times) hulls ≡ o → not o ≡ clean
  clean_else ea eb em o eo = sym (by_parts true true false o ea eb em eo)

-- ---- sources that pass over their clean pages

pub same_hulls : {R : Type 0} (flags : List Bool) (whole : Bool) (old new : Lane R) → IsFlagged flags whole old new → lane_hulls new ≡ lane_hulls old
same_hulls flags whole (Pages old) (Pages new) is = ap (λ (e : IndexEntry). map page_times e.pages) is.3
same_hulls flags whole (Pages old) (Part new) is = absurd is
same_hulls flags whole (Part old) (Pages new) is = absurd is
same_hulls flags whole (Part old) (Part new) is = ap (λ (p : PartLane). hull_of p.rest.now) is

map_set : {X Y : Type 0} (f : X → Y) (xs : List X) (k : ℕ) (x : X) → k < length xs → f x ≡ f (get_or xs k x) → map f (set xs k x) ≡ map f xs
map_set f [] k x low same = absurd (omega (arith, low))
map_set f (y ∷ xs) zero x low same = ap (λ z. z ∷ map f xs) same
map_set f (y ∷ xs) (suc k) x low same = ap (λ l. f y ∷ l) (map_set f xs k x (omega (arith, low)) same)

-- two that were found at one place
pub same_at : {X : Type 0} (xs : List X) (i : ℕ) (x y : X) → i < length xs → x ≡ get_or xs i x → y ≡ get_or xs i y → x ≡ y
same_at xs i x y low a b = a ∙ get_or_default xs i x y low ∙ sym b

pub before_or_at : (k n : ℕ) → k < n + 1 → (k < n) ⊎ (k ≡ n)
before_or_at zero zero low = inr refl
before_or_at zero (suc n) low = inl (omega arith)
before_or_at (suc k) zero low = absurd (omega (arith, low))
before_or_at (suc k) (suc n) low = by (before_or_at k n (omega (arith, low)))
  where
    by : (k < n) ⊎ (k ≡ n) → (suc k < suc n) ⊎ (suc k ≡ suc n)
    by (inl less) = inl (omega (arith, less))
    by (inr same) = inr (ap suc same)

-- ---- flags that are all set

set_push : (flags : List Bool) (flag : Bool) → all_set flags ≡ true → flag ≡ true → all_set (flags ++ flag ∷ []) ≡ true
set_push [] flag all here = ap (λ b. b && true) here
set_push (f ∷ flags) flag all here =
    let parts = both f (all_set flags) all in
    ap (λ b. b && all_set (flags ++ flag ∷ [])) parts.0 ∙ set_push flags flag parts.1 here

pub set_more : (flags : List Bool) (i : ℕ) (flag : Bool) → i < length flags → flag ≡ get_or flags i flag → all_set (take i flags) ≡ true → flag ≡ true → all_set (take (i + 1) flags) ≡ true
set_more flags i flag low is before here =
    ap all_set (take_more flags i flag low ∙ ap (λ z. take i flags ++ z ∷ []) (sym is)) ∙ set_push (take i flags) flag before here

pub set_none : (flags : List Bool) (i : ℕ) (flag : Bool) → i < length flags → flag ≡ get_or flags i flag → flag ≡ false → all_set flags ≡ false
set_none [] i flag low is here = absurd (omega (arith, low))
set_none (f ∷ flags) zero flag low is here = ap (λ b. b && all_set flags) (sym is ∙ here)
set_none (f ∷ flags) (suc i) flag low is here = by f (set_none flags i flag (omega (arith, low)) is here)
  where
    by : (b : Bool) → all_set flags ≡ false → (b && all_set flags) ≡ false
    by true rest = rest
    by false rest = refl

pub passed_at : (flags : List Bool) (i : ℕ) → i < length flags → is_passed flags i ≡ get_or flags i (is_passed flags i)
passed_at flags i low = ap (λ o. unwrap_or o false) (slice_get-get_or flags i (is_passed flags i) low)

-- the pages of a source and whether they are one piece, as they were found
pub as_cleaned : {R : Type 0} (name : Aggregate) (kept : Kept) (hulls : List (List Range)) (flags : List Bool) (whole : Bool) (old new : Lane R) → flags ≡ flags_of name kept hulls old → whole ≡ whole_of name hulls flags old → IsFlagged flags whole old new → IsCleaned name kept hulls old new
as_cleaned name kept hulls flags whole old new are is flagged =
    subst (λ f. IsFlagged f (whole_of name hulls f old) old new) are (subst (λ w. IsFlagged flags w old new) is flagged)

module _ {R : Type 0} (name : Aggregate) (kept : Kept) where
  -- the first sources pass over their clean pages, and the rest are as before
  pub record IsPassing (old new : List (Lane R)) (place : ℕ) : Type 0 where
    pub long : length new ≡ length old
    pub hulls : map lane_hulls new ≡ map lane_hulls old
    pub done : (k : ℕ) (d : Lane R) → k < length old → k < place → IsCleaned name kept (others k (map lane_hulls old)) (get_or old k d) (get_or new k d)
    pub rest : (k : ℕ) (d : Lane R) → k < length old → place ≤ k → get_or new k d ≡ get_or old k d

  pub passing_none : (old : List (Lane R)) → IsPassing old old 0
  passing_none old = record { long = refl; hulls = refl; done = λ k d low none. absurd (omega (arith, none)); rest = λ k d low past. refl }

  pub passing_more : (old new : List (Lane R)) (place : ℕ) (lane lane_now : Lane R) → IsPassing old new place → place < length new → lane ≡ get_or new place lane → IsCleaned name kept (others place (map lane_hulls new)) lane lane_now
      → IsPassing old (set new place lane_now) (place + 1)
  passing_more old new place lane lane_now was low is cleaned =
      let long = was.long in
      let below : place < length old = omega (arith, low, long) in
      let before : lane ≡ get_or old place lane = is ∙ was.rest place lane below (omega arith) in
      record {
        long = length-set new place lane_now ∙ was.long;
        hulls = map_set lane_hulls new place lane_now low (same_hulls (flags_of name kept (others place (map lane_hulls new)) lane) (whole_of name (others place (map lane_hulls new)) (flags_of name kept (others place (map lane_hulls new)) lane) lane) lane lane_now cleaned ∙ ap lane_hulls (is ∙ get_or_default new place lane lane_now low)) ∙ was.hulls;
        done = λ k d under less. by k d under (before_or_at k place less);
        rest = λ k d under past. get_or-set_other new place k lane_now d (apart k past) ∙ was.rest k d under (omega (arith, past));
      }
    where
      apart : (k : ℕ) → place + 1 ≤ k → k ≡ place → ⊥
      apart k past same = absurd (omega (arith, past, same))

      by : (k : ℕ) (d : Lane R) → k < length old → (k < place) ⊎ (k ≡ place) → IsCleaned name kept (others k (map lane_hulls old)) (get_or old k d) (get_or (set new place lane_now) k d)
      by k d under (inl less) = subst (IsCleaned name kept (others k (map lane_hulls old)) (get_or old k d)) (sym (get_or-set_other new place k lane_now d (λ same. absurd (omega (arith, less, same))))) (was.done k d under less)
      by k d under (inr same) =
          let here : lane ≡ get_or old k d = is ∙ get_or_default new place lane d low ∙ ap (λ n. get_or new n d) (sym same) ∙ was.rest k d under (omega (arith, same)) in
          let now : get_or (set new place lane_now) k d ≡ lane_now = ap (λ n. get_or (set new place lane_now) n d) same ∙ get_or-set_same new place lane_now d low in
          let hulls : others place (map lane_hulls new) ≡ others k (map lane_hulls old) = ap (others place) was.hulls ∙ ap (λ n. others n (map lane_hulls old)) (sym same) in
          subst (λ z. IsCleaned name kept (others k (map lane_hulls old)) z (get_or (set new place lane_now) k d)) here
          (subst (IsCleaned name kept (others k (map lane_hulls old)) lane) (sym now) (subst (λ h. IsCleaned name kept h lane lane_now) hulls cleaned))

  pub passing_all : (old new : List (Lane R)) (place : ℕ) → IsPassing old new place → length new ≤ place → AreCleaned name kept old new
  passing_all old new place was past = record {
    long = was.long;
    hulls = was.hulls;
    each = λ k d under. let long = was.long in was.done k d under (omega (arith, under, past, long));
  }
