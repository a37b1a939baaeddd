-- Sources that were opened and pass over their clean pages, as pages with their times.
use Rattle.std.proofs.Common.{◌≡◌, ℕ, ℤ, zero, suc, ◌-◌, Bool, true, false, cond, not, List, [], ◌∷◌, ◌++◌, map, length, Option, None, Some, is_some, refl, sym, ap, subst, ◌∙◌, arith}
use Rattle.std.specs.Prelude.{◌||◌, ◌&&◌, ◌<ℤ◌, ◌≤ℤ◌, All, Contains, flat_map, int_le, nat_lt, slice_get}
use Rattle.std.specs.List.{AllByRecursion as Each, list_any}
use Rattle.std.specs.Option.{option_map}
use Rattle.std.proofs.lemmas.Bool.{false≢true}
use Rattle.std.proofs.lemmas.Int.{ints}
use Rattle.std.proofs.lemmas.List.Elements.{All-cons, All-head, All-nil, All-tail}
use Rattle.tsdb_aggregate.proofs.ListFacts.{AllPairs-across}
use Rattle.tsdb_aggregate.specs.Pieces.{overlap}
use Rattle.tsdb_base.specs.declared.answers.Aggregate.TheVariants.{MaxTime, MinTime}
use Rattle.tsdb_base.specs.declared.point.Point.{Point}
use Rattle.tsdb_base.specs.declared.point.Range.{Range}
use Rattle.tsdb_base.specs.declared.point.Stats.{Stats}
use Rattle.tsdb_base.specs.declared.value.Value.{Value}
use Rattle.tsdb_base.specs.declared.value.Value.TheVariants.{I64}
use Rattle.tsdb_streams.proofs.CleanFacts.{both, inside, inside_test}
use Rattle.tsdb_streams.proofs.KeptLemmas.{common_time}
use Rattle.tsdb_streams.proofs.Views.{AreApart, IsFit, Seen}
use Rattle.tsdb_streams.proofs.ViewMerges.{left_part, points_of, right_part, rising_back}
use Rattle.tsdb_streams.specs.Clean.{any_meets, hull_of, is_apart, is_marked}
use Rattle.tsdb_streams.specs.Cleaning.{page_times, picked}
use Rattle.tsdb_streams.specs.KeptPoints.{is_kept, stats_range}
use Rattle.tsdb_streams.specs.Lanes.{left_pages}
use Rattle.tsdb_index.specs.declared.index.PageEntry.{PageEntry}
use Rattle.tsdb_base.specs.Lists.{EachPair, if_some}
use Rattle.tsdb_state.specs.Marks.{is_over, survives}
use Rattle.tsdb_state.specs.Places.{is_path}
use Rattle.tsdb_model.specs.Folds.{value_of_points}
use Rattle.tsdb_model.specs.World.{is_in}
use Rattle.tsdb_marks.specs.declared.marks.Mark.{Mark}
use Rattle.tsdb_base.specs.Points.{IsRising}
use Rattle.tsdb_merge.proofs.MergeLemmas.{Contains-head, Contains-tail}
use Rattle.tsdb_streams.specs.Pieces.{joined}
use Rattle.tsdb_stats.specs.Statistics.{AreStatsOf}
use Rattle.tsfile_reader.specs.Page.{LieIn}
use Rattle.tsdb_streams.specs.Survivors.{place_at as at}

-- ---- the pages of a file

-- a page, which is passed over or not
abbrev pub seen_page : Bool → PageEntry → List Point → Seen
seen_page passed page points = record { hull = page_times page; passed = cond passed (Some page.stats) None; points = points }

abbrev pub seen_pages : List Bool → List PageEntry → List (List Point) → List Seen
seen_pages flags [] list = []
seen_pages flags (page ∷ pages) [] = []
seen_pages [] (page ∷ pages) (points ∷ list) = seen_page false page points ∷ seen_pages [] pages list
seen_pages (flag ∷ flags) (page ∷ pages) (points ∷ list) = seen_page flag page points ∷ seen_pages flags pages list

-- the points that are told of a page, which lie within its times and have its statistics
pub record IsPage (page : PageEntry) (points : List Point) : Type 0 where
  pub within : LieIn page.stats points
  pub stats : AreStatsOf points page.stats

-- pages one by one
abbrev pub ArePages : List PageEntry → List (List Point) → Type 0
ArePages [] [] = Unit {0}
ArePages [] (points ∷ list) = ⊥
ArePages (page ∷ pages) [] = ⊥
ArePages (page ∷ pages) (points ∷ list) = IsPage page points × ArePages pages list

pub pages_by_number : (pages : List PageEntry) (list : List (List Point)) → length list ≡ length pages → ((number : ℕ) (page : PageEntry) (points : List Point) → slice_get pages number ≡ Some page → slice_get list number ≡ Some points → IsPage page points)
    → ArePages pages list
pages_by_number [] [] long says = tt
pages_by_number [] (points ∷ list) long says = absurd (omega (arith, long))
pages_by_number (page ∷ pages) [] long says = absurd (omega (arith, long))
pages_by_number (page ∷ pages) (points ∷ list) long says = (says 0 page points refl refl, pages_by_number pages list (omega (arith, long)) (λ n p q a b. says (suc n) p q a b))

pub all_seen : (flags : List Bool) (pages : List PageEntry) (list : List (List Point)) → ArePages pages list → points_of (seen_pages flags pages list) ≡ joined list
all_seen flags [] [] are = refl
all_seen flags [] (points ∷ list) are = absurd are
all_seen flags (page ∷ pages) [] are = absurd are
all_seen [] (page ∷ pages) (points ∷ list) are = ap (λ l. points ++ l) (all_seen [] pages list are.1)
all_seen (flag ∷ flags) (page ∷ pages) (points ∷ list) are = ap (λ l. points ++ l) (all_seen flags pages list are.1)

abbrev pub left_seen : List Seen → List Point
left_seen seens = flat_map (λ (s : Seen). cond (is_some s.passed) [] s.points) seens

pub left_pages_seen : (flags : List Bool) (pages : List PageEntry) (list : List (List Point)) → ArePages pages list → left_seen (seen_pages flags pages list) ≡ joined (left_pages flags list)
left_pages_seen [] [] [] are = refl
left_pages_seen (flag ∷ flags) [] [] are = refl
left_pages_seen flags [] (points ∷ list) are = absurd are
left_pages_seen flags (page ∷ pages) [] are = absurd are
left_pages_seen [] (page ∷ pages) (points ∷ list) are = ap (λ l. points ++ l) (left_pages_seen [] pages list are.1)
left_pages_seen (flag ∷ flags) (page ∷ pages) (points ∷ list) are = by flag (left_pages_seen flags pages list are.1)
  where
    by : (b : Bool) → left_seen (seen_pages flags pages list) ≡ joined (left_pages flags list)
        → cond (is_some (cond b (Some page.stats) None)) [] points ++ left_seen (seen_pages flags pages list) ≡ cond b [] points ++ joined (left_pages flags list)
    by true rest = rest
    by false rest = ap (λ l. points ++ l) rest

pub picked_seen : (flags : List Bool) (pages : List PageEntry) (list : List (List Point)) → ArePages pages list → flat_map (λ (s : Seen). if_some s.passed) (seen_pages flags pages list) ≡ picked flags pages
picked_seen [] [] [] are = refl
picked_seen (flag ∷ flags) [] [] are = refl
picked_seen flags [] (points ∷ list) are = absurd are
picked_seen flags (page ∷ pages) [] are = absurd are
picked_seen [] (page ∷ pages) (points ∷ list) are = picked_seen [] pages list are.1
picked_seen (flag ∷ flags) (page ∷ pages) (points ∷ list) are = by flag (picked_seen flags pages list are.1)
  where
    by : (b : Bool) → flat_map (λ (s : Seen). if_some s.passed) (seen_pages flags pages list) ≡ picked flags pages
        → if_some (cond b (Some page.stats) None) ++ flat_map (λ (s : Seen). if_some s.passed) (seen_pages flags pages list) ≡ cond b (page.stats ∷ picked flags pages) (picked flags pages)
    by true rest = ap (λ l. page.stats ∷ l) rest
    by false rest = rest

-- ---- pages of one file are apart

first_of : (points : List Point) (start : ℤ) → value_of_points MinTime points ≡ Some (I64 start) → (p : Point) × Contains points p × (p.time ≡ start)
first_of [] start e = absurd (none_some e)
  where
    none_some : ◌≡◌ {A = Option Value} None (Some (I64 start)) → ⊥
    none_some e = cc
first_of (p ∷ ps) start e = (p, Contains-head p ps, let same : p.time ≡ start = cc in same)

last_of : (points : List Point) (end : ℤ) → value_of_points MaxTime points ≡ Some (I64 end) → (p : Point) × Contains points p × (p.time ≡ end)
last_of points end e = by (slice_get points (length points - 1)) refl e
  where
    none_some : ◌≡◌ {A = Option Value} None (Some (I64 end)) → ⊥
    none_some e = cc

    there : (xs : List Point) (k : ℕ) (p : Point) → slice_get xs k ≡ Some p → Contains xs p
    there [] k p e = absurd cc
    there (x ∷ xs) zero p e = let same : x ≡ p = cc in subst (λ z. Contains (x ∷ xs) z) same (Contains-head x xs)
    there (x ∷ xs) (suc k) p e = Contains-tail x p xs (there xs k p e)

    by : (o : Option Point) → slice_get points (length points - 1) ≡ o → option_map (λ (p : Point). I64 p.time) o ≡ Some (I64 end) → (p : Point) × Contains points p × (p.time ≡ end)
    by None is e = absurd (none_some e)
    by (Some p) is e = (p, there points (length points - 1) p is, let same : p.time ≡ end = cc in same)

apart_ends : (a b : Range) → a.to <ℤ b.from → overlap a b ≡ false
apart_ends a b low = grind (arith, ints)

abbrev Before : Point → Point → Type 0
Before a b = a.time <ℤ b.time

each_later : (flags : List Bool) (pages : List PageEntry) (list : List (List Point)) (a : Seen) → ArePages pages list → ((q : Point) → Contains (joined list) q → a.hull.to <ℤ q.time) → Each (AreApart a) (seen_pages flags pages list)
each_later flags [] list a are later = tt
each_later flags (page ∷ pages) [] a are later = absurd are
each_later [] (page ∷ pages) (points ∷ list) a are later =
    let first = first_of points page.stats.start are.0.stats.start in
    let e : overlap a.hull (page_times page) ≡ false = apart_ends a.hull (page_times page) (subst (λ t. a.hull.to <ℤ t) first.2 (later first.0 (left_part points (joined list) first.0 first.1))) in
    (record { first = λ passed. e; second = λ passed. e }, each_later [] pages list a are.1 (λ q has. later q (right_part points (joined list) q has)))
each_later (flag ∷ flags) (page ∷ pages) (points ∷ list) a are later =
    let first = first_of points page.stats.start are.0.stats.start in
    let e : overlap a.hull (page_times page) ≡ false = apart_ends a.hull (page_times page) (subst (λ t. a.hull.to <ℤ t) first.2 (later first.0 (left_part points (joined list) first.0 first.1))) in
    (record { first = λ passed. e; second = λ passed. e }, each_later flags pages list a are.1 (λ q has. later q (right_part points (joined list) q has)))

behind_page : (page : PageEntry) (points rest : List Point) → IsPage page points → IsRising (points ++ rest) → (q : Point) → Contains rest q → page.stats.end <ℤ q.time
behind_page page points rest is rising q has =
    let last = last_of points page.stats.end is.stats.end in
    subst (λ t. t <ℤ q.time) last.2 (AllPairs-across Before points rest rising last.0 q last.1 has)

pub pages_apart : (flags : List Bool) (pages : List PageEntry) (list : List (List Point)) → ArePages pages list → IsRising (joined list) → EachPair AreApart (seen_pages flags pages list)
pages_apart flags [] list are rising = tt
pages_apart flags (page ∷ pages) [] are rising = absurd are
pages_apart [] (page ∷ pages) (points ∷ list) are rising =
    (each_later [] pages list (seen_page false page points) are.1 (behind_page page points (joined list) are.0 rising), pages_apart [] pages list are.1 (rising_back points (joined list) rising))
pages_apart (flag ∷ flags) (page ∷ pages) (points ∷ list) are rising =
    (each_later flags pages list (seen_page flag page points) are.1 (behind_page page points (joined list) are.0 rising), pages_apart flags pages list are.1 (rising_back points (joined list) rising))

-- ---- pages that are clean have points that are kept

le_of : (a b : ℤ) → int_le a b ≡ true → a ≤ℤ b
le_of a b e = grind (arith, ints)

le_test : (a b : ℤ) → a ≤ℤ b → int_le a b ≡ true
le_test a b low = grind (arith, ints)

or_parts : (a b : Bool) → (a || b) ≡ false → (a ≡ false) × (b ≡ false)
or_parts true b e = absurd (false≢true (sym e))
or_parts false b e = (refl, e)

is_false : (b : Bool) → (b ≡ true → ⊥) → b ≡ false
is_false true none = absurd (none refl)
is_false false none = refl

both_true : (a b : Bool) → a ≡ true → b ≡ true → (a && b) ≡ true
both_true a b e f = rw (e, f) refl

survives_clean : (path : List ℕ) (marks : List Mark) (born : ℕ) (times : Range) (t : ℤ) → is_marked path marks born times ≡ false → is_in times t ≡ true → survives marks (at path t) born ≡ true
survives_clean path [] born times t none here = refl
survives_clean path (mark ∷ marks) born times t none here =
    let parts = or_parts (is_path mark.path path && (nat_lt born mark.version.0 && overlap (record { from = mark.from; to = mark.to }) times)) (is_marked path marks born times) none in
    let over : (is_over mark (at path t) && nat_lt born mark.version.0) ≡ false = is_false (is_over mark (at path t) && nat_lt born mark.version.0) (λ e. clash e parts.0) in
    both_true (not (is_over mark (at path t) && nat_lt born mark.version.0)) (survives marks (at path t) born) (ap not over) (survives_clean path marks born times t parts.1 here)
  where
    clash : (is_over mark (at path t) && nat_lt born mark.version.0) ≡ true → (is_path mark.path path && (nat_lt born mark.version.0 && overlap (record { from = mark.from; to = mark.to }) times)) ≡ false → ⊥
    clash e f =
        let one = both (is_over mark (at path t)) (nat_lt born mark.version.0) e in
        let two = both (is_path mark.path path) (int_le mark.from t && int_le t mark.to) one.0 in
        let met : overlap (record { from = mark.from; to = mark.to }) times ≡ true = common_time (record { from = mark.from; to = mark.to }) times t two.1 here in
        false≢true (sym f ∙ both_true (is_path mark.path path) (nat_lt born mark.version.0 && overlap (record { from = mark.from; to = mark.to }) times) two.0 (both_true (nat_lt born mark.version.0) (overlap (record { from = mark.from; to = mark.to }) times) one.1 met))

pub not_true : (b : Bool) → not b ≡ true → b ≡ false
not_true true e = absurd (false≢true e)
not_true false e = refl

-- what a clean page is
pub record IsCleanPage (path : List ℕ) (range : Range) (marks : List Mark) (hulls : List (List Range)) (born : ℕ) (times : Range) : Type 0 where
  pub from : is_in range times.from ≡ true
  pub to : is_in range times.to ≡ true
  pub unmarked : is_marked path marks born times ≡ false
  pub unmet : list_any (any_meets times) hulls ≡ false

pub clean_page : (path : List ℕ) (range : Range) (marks : List Mark) (hulls : List (List Range)) (born : ℕ) (times : Range) → is_apart path range marks hulls born times ≡ true → IsCleanPage path range marks hulls born times
clean_page path range marks hulls born times e =
    let one = both (is_in range times.from && is_in range times.to) (not (is_marked path marks born times) && not (list_any (any_meets times) hulls)) e in
    let two = both (is_in range times.from) (is_in range times.to) one.0 in
    let three = both (not (is_marked path marks born times)) (not (list_any (any_meets times) hulls)) one.1 in
    record { from = two.0; to = two.1; unmarked = not_true (is_marked path marks born times) three.0; unmet = not_true (list_any (any_meets times) hulls) three.1 }

pub kept_clean : (path : List ℕ) (range : Range) (marks : List Mark) (hulls : List (List Range)) (born : ℕ) (times : Range) (p : Point) → IsCleanPage path range marks hulls born times → is_in times p.time ≡ true → is_kept path range marks born p ≡ true
kept_clean path range marks hulls born times p clean here =
    let a = inside range times.from clean.from in
    let b = inside range times.to clean.to in
    let c = inside times p.time here in
    both_true (is_in range p.time) (survives marks (at path p.time) born) (inside_test range p.time (omega (arith, ints, a.0, c.0)) (omega (arith, ints, b.1, c.1))) (survives_clean path marks born times p.time clean.unmarked here)

pub all_inside : (stats : Stats) (points : List Point) → LieIn stats points → All (λ p. is_in (stats_range stats) p.time ≡ true) points
all_inside stats [] lie = All-nil (λ (p : Point). is_in (stats_range stats) p.time ≡ true)
all_inside stats (p ∷ ps) lie =
    let here = All-head (λ (p : Point). (stats.start ≤ℤ p.time) × (p.time ≤ℤ stats.end)) p ps lie in
    All-cons (λ (p : Point). is_in (stats_range stats) p.time ≡ true) p ps (inside_test (stats_range stats) p.time here.0 here.1) (all_inside stats ps (All-tail (λ (p : Point). (stats.start ≤ℤ p.time) × (p.time ≤ℤ stats.end)) p ps lie))

pub all_kept : (keep : Point → Bool) (times : Range) (points : List Point) → All (λ p. is_in times p.time ≡ true) points → ((p : Point) → is_in times p.time ≡ true → keep p ≡ true) → All (λ p. keep p ≡ true) points
all_kept keep times [] all f = All-nil (λ (p : Point). keep p ≡ true)
all_kept keep times (p ∷ ps) all f = All-cons (λ (p : Point). keep p ≡ true) p ps (f p (All-head (λ (p : Point). is_in times p.time ≡ true) p ps all)) (all_kept keep times ps (All-tail (λ (p : Point). is_in times p.time ≡ true) p ps all) f)

pub fit_one : (keep : Point → Bool) (b : Bool) (page : PageEntry) (points : List Point) → IsPage page points → (b ≡ true → (p : Point) → is_in (page_times page) p.time ≡ true → keep p ≡ true) → IsFit keep (seen_page b page points)
fit_one keep b page points is kept = record {
  inside = all_inside page.stats points is.within;
  times = λ stats e. ap stats_range (sym (which b stats e).1);
  are = λ stats e. subst (AreStatsOf points) (which b stats e).1 is.stats;
  kept = λ stats e. all_kept keep (page_times page) points (all_inside page.stats points is.within) (kept (which b stats e).0);
}
  where
    which : (b : Bool) (stats : Stats) → cond b (Some page.stats) None ≡ Some stats → (b ≡ true) × (page.stats ≡ stats)
    which true stats e = (refl, let same : page.stats ≡ stats = cc in same)
    which false stats e = absurd (none_some e)
      where
        none_some : ◌≡◌ {A = Option Stats} None (Some stats) → ⊥
        none_some e = cc

pub fit_pages : (keep : Point → Bool) (test : PageEntry → Bool) (pages : List PageEntry) (list : List (List Point)) → ArePages pages list → ((page : PageEntry) → test page ≡ true → (p : Point) → is_in (page_times page) p.time ≡ true → keep p ≡ true)
    → Each (IsFit keep) (seen_pages (map test pages) pages list)
fit_pages keep test [] list are kept = tt
fit_pages keep test (page ∷ pages) [] are kept = absurd are
fit_pages keep test (page ∷ pages) (points ∷ list) are kept = (fit_one keep (test page) page points are.0 (kept page), fit_pages keep test pages list are.1 kept)

-- ---- a part in memory

abbrev pub part_seens : List Point → List Seen
part_seens points = map (λ hull. record { hull = hull; passed = None; points = points }) (hull_of points)
