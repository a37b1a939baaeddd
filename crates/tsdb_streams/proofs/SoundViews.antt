-- Sources that were opened are sound views.
use Rattle.std.proofs.Common.{◌≡◌, ◌⊎◌, inl, inr, ℕ, ℤ, zero, suc, ◌+◌, ◌<◌, Bool, true, false, cond, List, [], ◌∷◌, ◌++◌, map, length, get_or, take, drop, Option, None, Some, is_some, refl, sym, ap, subst, ◌∙◌, arith}
use Rattle.std.specs.Prelude.{◌||◌, ◌&&◌, ◌<ℤ◌, ◌≤ℤ◌, ◌≢◌, All, flat_map, slice_get}
use Rattle.std.specs.List.{AllByRecursion as Each, list_any}
use Rattle.std.specs.Option.{option_map, unwrap_or}
use Rattle.std.proofs.lemmas.Bool.{false≢true}
use Rattle.std.proofs.lemmas.Int.{ints}
use Rattle.std.proofs.lemmas.List.{append-nil}
use Rattle.std.proofs.lemmas.List.Elements.{All-append, All-head, All-nil}
use Rattle.std.proofs.lemmas.Option.{slice_get-get_or}
use Rattle.tsdb_aggregate.specs.Pieces.{has_asked, overlap}
use Rattle.tsdb_base.specs.declared.answers.Aggregate.{Aggregate}
use Rattle.tsdb_base.specs.declared.point.Point.{Point}
use Rattle.tsdb_base.specs.declared.point.Range.{Range}
use Rattle.tsdb_base.specs.declared.point.Stats.{Stats}
use Rattle.tsdb_base.specs.declared.value.Value.{Value}
use Rattle.tsdb_base.specs.declared.value.Value.TheVariants.{I64}
use Rattle.tsdb_streams.proofs.CleanFacts.{before_or_at, both, inside_test}
use Rattle.tsdb_streams.proofs.DueFacts.{stats_hull}
use Rattle.tsdb_streams.proofs.KeptLemmas.{common_time}
use Rattle.tsdb_streams.proofs.LaneViews.{ArePages, IsCleanPage, all_inside, all_kept, all_seen, clean_page, fit_pages, kept_clean, left_pages_seen, left_seen, pages_apart, part_seens, picked_seen, seen_pages}
use Rattle.tsdb_streams.proofs.OpenFacts.{got_map}
use Rattle.tsdb_streams.proofs.Views.{AreApart, AreSound, IsFit, Seen, View, ViewsApart, all_of, overlap_swap}
use Rattle.tsdb_streams.proofs.ViewMerges.{points_of}
use Rattle.tsdb_streams.specs.Clean.{any_meets, hull_of, is_apart, others}
use Rattle.tsdb_streams.specs.Cleaning.{all_set, is_clean_page, lane_hulls, page_times, picked}
use Rattle.tsdb_streams.specs.KeptPoints.{stats_range}
use Rattle.tsdb_streams.specs.Lanes.{keep_of, left_pages}
use Rattle.tsdb_streams.specs.declared.survival.Kept.{Kept}
use Rattle.tsdb_streams.specs.declared.lane.Lane.{Lane}
use Rattle.tsdb_streams.specs.declared.lane.Lane.TheVariants.{Pages, Part}
use Rattle.tsdb_streams.specs.declared.lane.PageLane.{PageLane}
use Rattle.tsdb_index.specs.declared.index.PageEntry.{PageEntry}
use Rattle.tsdb_base.specs.Lists.{Among, EachPair, if_some}
use Rattle.tsdb_base.proofs.Lists.{each_among, each_weaker}
use Rattle.tsdb_model.specs.World.{is_in}
use Rattle.tsdb_base.specs.Points.{IsRising}
use Rattle.tsdb_streams.specs.Pieces.{joined}
use Rattle.tsdb_stats.specs.Statistics.{AreStatsOf}

-- ---- a part in memory

pub part_points : (points : List Point) → points_of (part_seens points) ≡ points
part_points [] = refl
part_points (p ∷ ps) = append-nil (p ∷ ps)

pub part_left : (points : List Point) → left_seen (part_seens points) ≡ points
part_left [] = refl
part_left (p ∷ ps) = append-nil (p ∷ ps)

pub part_passed : (points : List Point) → flat_map (λ (s : Seen). if_some s.passed) (part_seens points) ≡ []
part_passed [] = refl
part_passed (p ∷ ps) = refl

pub part_apart : (points : List Point) → EachPair AreApart (part_seens points)
part_apart [] = tt
part_apart (p ∷ ps) = (tt, tt)

none_some : {X : Type 0} (x : X) → ◌≡◌ {A = Option X} None (Some x) → ⊥
none_some x e = cc

pub part_fit : (keep : Point → Bool) (points : List Point) → IsRising points → Each (IsFit keep) (part_seens points)
part_fit keep [] rising = tt
part_fit keep (p ∷ ps) rising = (
  record {
    inside = within;
    times = λ stats e. absurd (none_some stats e);
    are = λ stats e. absurd (none_some stats e);
    kept = λ stats e. absurd (none_some stats e);
  },
  tt,
)
  where
    end_is : (d : Point) → unwrap_or (option_map (λ (last : Point). last.time) (slice_get (p ∷ ps) (length ps))) p.time ≡ (get_or (p ∷ ps) (length ps) d).time
    end_is d = ap (λ o. unwrap_or (option_map (λ (last : Point). last.time) o) p.time) (slice_get-get_or (p ∷ ps) (length ps) d (omega arith))

    from_low : (k : ℕ) (d : Point) → k < length (p ∷ ps) → p.time ≤ℤ (get_or (p ∷ ps) k d).time
    from_low zero d l = omega (arith, ints)
    from_low (suc k) d l = let less : p.time <ℤ (get_or ps k d).time = rising 0 (suc k) d (omega arith) l in omega (arith, ints, less)

    to_by : (k : ℕ) (d : Point) → (k < length ps) ⊎ (k ≡ length ps) → (get_or (p ∷ ps) k d).time ≤ℤ (get_or (p ∷ ps) (length ps) d).time
    to_by k d (inl l) = let less : (get_or (p ∷ ps) k d).time <ℤ (get_or (p ∷ ps) (length ps) d).time = rising k (length ps) d l (omega arith) in omega (arith, ints, less)
    to_by k d (inr e) = subst (λ n. (get_or (p ∷ ps) n d).time ≤ℤ (get_or (p ∷ ps) (length ps) d).time) (sym e) (omega (arith, ints))

    within : All (λ q. is_in (record { from = p.time; to = unwrap_or (option_map (λ (last : Point). last.time) (slice_get (p ∷ ps) (length ps))) p.time }) q.time ≡ true) (p ∷ ps)
    within k d l = inside_test _ _ (from_low k d l) (subst (λ t. (get_or (p ∷ ps) k d).time ≤ℤ t) (sym (end_is d)) (to_by k d (before_or_at k (length ps) (omega (arith, l)))))

-- ---- pages of one source

-- a page that is passed over is met by no other source
abbrev IsClear : List (List Range) → Seen → Type 0
IsClear hulls a = is_some a.passed ≡ true → list_any (any_meets a.hull) hulls ≡ false

pages_clear : (hulls : List (List Range)) (test : PageEntry → Bool) → ((page : PageEntry) → test page ≡ true → list_any (any_meets (page_times page)) hulls ≡ false) → (pages : List PageEntry) (list : List (List Point)) → Each (IsClear hulls) (seen_pages (map test pages) pages list)
pages_clear hulls test clear [] list = tt
pages_clear hulls test clear (page ∷ pages) [] = tt
pages_clear hulls test clear (page ∷ pages) (points ∷ list) = (λ e. clear page (by (test page) e), pages_clear hulls test clear pages list)
  where
    by : (b : Bool) → is_some (cond b (Some page.stats) None) ≡ true → b ≡ true
    by true e = refl
    by false e = absurd (false≢true e)

part_clear : (hulls : List (List Range)) (points : List Point) → Each (IsClear hulls) (part_seens points)
part_clear hulls [] = tt
part_clear hulls (p ∷ ps) = (λ e. absurd (false≢true e), tt)

-- the times of its pages are those of the source
pages_hulls : (flags : List Bool) (pages : List PageEntry) (list : List (List Point)) (all : List Range) → ((r : Range) → Among r (map page_times pages) → Among r all) → Each (λ b. Among b.hull all) (seen_pages flags pages list)
pages_hulls flags [] list all among = tt
pages_hulls flags (page ∷ pages) [] all among = tt
pages_hulls [] (page ∷ pages) (points ∷ list) all among = (among (page_times page) (inl refl), pages_hulls [] pages list all (λ r m. among r (inr m)))
pages_hulls (flag ∷ flags) (page ∷ pages) (points ∷ list) all among = (among (page_times page) (inl refl), pages_hulls flags pages list all (λ r m. among r (inr m)))

each_all : {X : Type 0} (P : X → Type 0) (xs : List X) → ((x : X) → Among x xs → P x) → Each P xs
each_all P [] f = tt
each_all P (x ∷ xs) f = (f x (inl refl), each_all P xs (λ y m. f y (inr m)))

-- ---- a chunk that is one piece

abbrev pub whole_seen : Stats → List Point → Seen
whole_seen stats points = record { hull = stats_range stats; passed = Some stats; points = points }

-- it is passed over, and begins with a page that has these times
pub record BeginsAs (t : Seen) (r : Range) : Type 0 where
  pub passed : is_some t.passed ≡ true
  pub from : r.from ≡ t.hull.from
  pub some : is_in r r.from ≡ true

no_start : (start : ℤ) → ◌≡◌ {A = Option Value} None (Some (I64 start)) → ⊥
no_start start e = cc

start_of : (time start : ℤ) → ◌≡◌ {A = Option Value} (Some (I64 time)) (Some (I64 start)) → time ≡ start
start_of time start e = cc

-- nothing is left of pages that are all passed over
none_left : (flags : List Bool) (pages : List PageEntry) (list : List (List Point)) → ArePages pages list → length flags ≡ length pages → all_set flags ≡ true → joined (left_pages flags list) ≡ []
none_left [] [] [] are long all = refl
none_left [] [] (points ∷ list) are long all = absurd are
none_left [] (page ∷ pages) list are long all = absurd (omega (arith, long))
none_left (flag ∷ flags) [] list are long all = absurd (omega (arith, long))
none_left (flag ∷ flags) (page ∷ pages) [] are long all = absurd are
none_left (flag ∷ flags) (page ∷ pages) (points ∷ list) are long all =
    let parts = both flag (all_set flags) all in
    ap (λ b. cond b [] points ++ joined (left_pages flags list)) parts.0 ∙ none_left flags pages list are.1 (omega (arith, long)) parts.1

-- all of its points are kept
all_kept_pages : (keep : Point → Bool) (test : PageEntry → Bool) (pages : List PageEntry) (list : List (List Point)) → ArePages pages list
    → ((page : PageEntry) → test page ≡ true → (p : Point) → is_in (page_times page) p.time ≡ true → keep p ≡ true) → all_set (map test pages) ≡ true → All (λ p. keep p ≡ true) (joined list)
all_kept_pages keep test [] [] are kept all = All-nil (λ (p : Point). keep p ≡ true)
all_kept_pages keep test [] (points ∷ list) are kept all = absurd are
all_kept_pages keep test (page ∷ pages) [] are kept all = absurd are
all_kept_pages keep test (page ∷ pages) (points ∷ list) are kept all =
    let parts = both (test page) (all_set (map test pages)) all in
    All-append (λ (p : Point). keep p ≡ true) points (joined list)
    (all_kept keep (page_times page) points (all_inside page.stats points are.0.within) (kept page parts.0)) (all_kept_pages keep test pages list are.1 kept parts.1)

fit_whole : (keep : Point → Bool) (stats : Stats) (points : List Point) → AreStatsOf points stats → IsRising points → All (λ p. keep p ≡ true) points → IsFit keep (whole_seen stats points)
fit_whole keep stats points are rising kept = record {
  inside = within points rising (stats_hull stats points are);
  times = λ s e. ap stats_range (sym (same s e));
  are = λ s e. subst (AreStatsOf points) (same s e) are;
  kept = λ s e. kept;
}
  where
    same : (s : Stats) → Some stats ≡ Some s → stats ≡ s
    same s e = cc

    one_alike : (a b : Range) → a ∷ [] ≡ b ∷ [] → a ≡ b
    one_alike a b e = cc

    within : (points : List Point) → IsRising points → stats_range stats ∷ [] ≡ hull_of points → All (λ p. is_in (stats_range stats) p.time ≡ true) points
    within [] rising hull = All-nil (λ (p : Point). is_in (stats_range stats) p.time ≡ true)
    within (p ∷ ps) rising hull =
        subst (λ (r : Range). All (λ q. is_in r q.time ≡ true) (p ∷ ps)) (sym (one_alike (stats_range stats) _ hull)) (part_fit (λ q. true) (p ∷ ps) rising).0.inside

-- it begins with its first page, which has a point
first_page : (pages : List PageEntry) (list : List (List Point)) (stats : Stats) → ArePages pages list → AreStatsOf (joined list) stats
    → (r : Range) × Among r (map page_times pages) × (r.from ≡ stats.start) × (is_in r r.from ≡ true)
first_page [] [] stats are of = absurd (no_start stats.start of.start)
first_page [] (points ∷ list) stats are of = absurd are
first_page (page ∷ pages) [] stats are of = absurd are
first_page (page ∷ pages) ([] ∷ list) stats are of = absurd (no_start page.stats.start are.0.stats.start)
first_page (page ∷ pages) ((p ∷ ps) ∷ list) stats are of =
    let here : p.time ≡ page.stats.start = start_of p.time page.stats.start are.0.stats.start in
    let first : p.time ≡ stats.start = start_of p.time stats.start of.start in
    let low = All-head (λ (q : Point). (page.stats.start ≤ℤ q.time) × (q.time ≤ℤ page.stats.end)) p ps are.0.within in
    (page_times page, inl refl, sym here ∙ first, inside_test (page_times page) page.stats.start (omega (arith, ints)) (omega (arith, ints, low.0, low.1)))

-- ranges of which each begins outside of the other have no time in common
begin_outside : (a b : Range) → is_in a b.from ≡ false → is_in b a.from ≡ false → overlap a b ≡ false
begin_outside a b first second = by (is_in a b.from) (is_in b b.from) (is_in b a.from) (is_in a a.from) first second
  where
    by : (p q r s : Bool) → p ≡ false → r ≡ false → ((p && q) || (r && s)) ≡ false
    by p q r s first second = rw (first, second) refl

-- what begins as a range that does not meet another begins outside of it
outside_of : (t s : Seen) (r : Range) → BeginsAs t r → overlap r s.hull ≡ false → is_in s.hull t.hull.from ≡ false
outside_of t s r begins apart = by (is_in s.hull t.hull.from) refl
  where
    by : (b : Bool) → is_in s.hull t.hull.from ≡ b → b ≡ false
    by false e = refl
    by true e = absurd (false≢true (sym apart ∙ common_time r s.hull r.from begins.some (ap (is_in s.hull) begins.from ∙ e)))

-- ---- one source

-- nothing else meets the times of a clean page
apart_of : (kept : Kept) (hulls : List (List Range)) (born : ℕ) (name : Aggregate) (page : PageEntry) → is_clean_page name kept hulls born page ≡ true
    → IsCleanPage kept.series.now kept.range kept.marks.now.marks hulls born (page_times page)
apart_of kept hulls born name page clean = clean_page kept.series.now kept.range kept.marks.now.marks hulls born (page_times page)
    (both (has_asked name page.stats) (is_apart kept.series.now kept.range kept.marks.now.marks hulls born (page_times page)) clean).1

module _ {R : Type 0} where
  abbrev pub lane_born : Lane R → ℕ
  lane_born (Pages lane) = lane.born.0
  lane_born (Part lane) = lane.born.0

  -- its pages, or its chunk where they are one piece
  abbrev pub seens_of : Bool → PageLane R → List (List Point) → List Seen
  seens_of true lane list = whole_seen lane.entry.stats (joined list) ∷ []
  seens_of false lane list = seen_pages lane.passed.items lane.entry.pages list

  abbrev pub lane_seens : Lane R → List (List Point) → List Seen
  lane_seens (Pages lane) list = seens_of lane.whole lane list
  lane_seens (Part lane) list = part_seens lane.rest.now

  abbrev pub view : Kept → Lane R → List (List Point) → View
  view kept lane list = record { keep = keep_of kept (lane_born lane); seens = lane_seens lane list }

  -- all pages are passed over, nothing of another source meets the times of the chunk, whose statistics are of all points
  pub record IsOnePiece (hulls : List (List Range)) (lane : PageLane R) (list : List (List Point)) : Type 0 where
    pub all : all_set lane.passed.items ≡ true
    pub clear : list_any (any_meets (stats_range lane.entry.stats)) hulls ≡ false
    pub stats : AreStatsOf (joined list) lane.entry.stats

  -- a source that was opened, whose clean pages are passed over, with what is told of it
  abbrev pub IsOpen : Aggregate → Kept → List (List Range) → Lane R → List (List Point) → Type 0
  IsOpen name kept hulls (Pages lane) list = (lane.passed.items ≡ map (is_clean_page name kept hulls lane.born.0) lane.entry.pages) × ArePages lane.entry.pages list × IsRising (joined list)
      × (lane.whole ≡ true → IsOnePiece hulls lane list)
  IsOpen name kept hulls (Part lane) list = IsRising lane.rest.now

  pub left_seens : (lane : PageLane R) (list : List (List Point)) → ArePages lane.entry.pages list → length lane.passed.items ≡ length lane.entry.pages → (whole : Bool) → (whole ≡ true → all_set lane.passed.items ≡ true)
      → left_seen (seens_of whole lane list) ≡ joined (left_pages lane.passed.items list)
  left_seens lane list are long true all = sym (none_left lane.passed.items lane.entry.pages list are long (all refl))
  left_seens lane list are long false all = left_pages_seen lane.passed.items lane.entry.pages list are

  pub all_seens : (lane : PageLane R) (list : List (List Point)) → ArePages lane.entry.pages list → (whole : Bool) → points_of (seens_of whole lane list) ≡ joined list
  all_seens lane list are true = append-nil (joined list)
  all_seens lane list are false = all_seen lane.passed.items lane.entry.pages list are

  pub passed_seens : (lane : PageLane R) (list : List (List Point)) → ArePages lane.entry.pages list → (whole : Bool)
      → flat_map (λ (s : Seen). if_some s.passed) (seens_of whole lane list) ≡ cond whole (lane.entry.stats ∷ []) (picked lane.passed.items lane.entry.pages)
  passed_seens lane list are true = refl
  passed_seens lane list are false = picked_seen lane.passed.items lane.entry.pages list are

  keeps : (name : Aggregate) (kept : Kept) (hulls : List (List Range)) (lane : PageLane R) (page : PageEntry) → is_clean_page name kept hulls lane.born.0 page ≡ true → (p : Point) → is_in (page_times page) p.time ≡ true → keep_of kept lane.born.0 p ≡ true
  keeps name kept hulls lane page clean p here = kept_clean kept.series.now kept.range kept.marks.now.marks hulls lane.born.0 (page_times page) p (apart_of kept hulls lane.born.0 name page clean) here

  open_fit : (name : Aggregate) (kept : Kept) (hulls : List (List Range)) (lane : Lane R) (list : List (List Point)) → IsOpen name kept hulls lane list → Each (IsFit (keep_of kept (lane_born lane))) (lane_seens lane list)
  open_fit name kept hulls (Pages lane) list is = by lane.whole is.3
    where
      by : (whole : Bool) → (whole ≡ true → IsOnePiece hulls lane list) → Each (IsFit (keep_of kept lane.born.0)) (seens_of whole lane list)
      by true piece =
          let one = piece refl in (
            fit_whole (keep_of kept lane.born.0) lane.entry.stats (joined list) one.stats is.2
                (all_kept_pages (keep_of kept lane.born.0) (is_clean_page name kept hulls lane.born.0) lane.entry.pages list is.1 (keeps name kept hulls lane) (ap all_set (sym is.0) ∙ one.all)),
            tt,
          )
      by false piece = subst (λ flags. Each (IsFit (keep_of kept lane.born.0)) (seen_pages flags lane.entry.pages list)) (sym is.0)
          (fit_pages (keep_of kept lane.born.0) (is_clean_page name kept hulls lane.born.0) lane.entry.pages list is.1 (keeps name kept hulls lane))
  open_fit name kept hulls (Part lane) list is = part_fit (keep_of kept lane.born.0) lane.rest.now is

  open_rising : (name : Aggregate) (kept : Kept) (hulls : List (List Range)) (lane : Lane R) (list : List (List Point)) → IsOpen name kept hulls lane list → IsRising (points_of (lane_seens lane list))
  open_rising name kept hulls (Pages lane) list is = subst IsRising (sym (all_seens lane list is.1 lane.whole)) is.2
  open_rising name kept hulls (Part lane) list is = subst IsRising (sym (part_points lane.rest.now)) is

  open_apart : (name : Aggregate) (kept : Kept) (hulls : List (List Range)) (lane : Lane R) (list : List (List Point)) → IsOpen name kept hulls lane list → EachPair AreApart (lane_seens lane list)
  open_apart name kept hulls (Pages lane) list is = by lane.whole
    where
      by : (whole : Bool) → EachPair AreApart (seens_of whole lane list)
      by true = (tt, tt)
      by false = pages_apart lane.passed.items lane.entry.pages list is.1 is.2
  open_apart name kept hulls (Part lane) list is = part_apart lane.rest.now

  open_clear : (name : Aggregate) (kept : Kept) (hulls : List (List Range)) (lane : Lane R) (list : List (List Point)) → IsOpen name kept hulls lane list → Each (IsClear hulls) (lane_seens lane list)
  open_clear name kept hulls (Pages lane) list is = by lane.whole is.3
    where
      by : (whole : Bool) → (whole ≡ true → IsOnePiece hulls lane list) → Each (IsClear hulls) (seens_of whole lane list)
      by true piece = (λ e. (piece refl).clear, tt)
      by false piece = subst (λ flags. Each (IsClear hulls) (seen_pages flags lane.entry.pages list)) (sym is.0)
          (pages_clear hulls (is_clean_page name kept hulls lane.born.0) (λ page clean. (apart_of kept hulls lane.born.0 name page clean).unmet) lane.entry.pages list)
  open_clear name kept hulls (Part lane) list is = part_clear hulls lane.rest.now

  -- it has the times of a page or part of the source, or is passed over and begins with a page of it
  abbrev pub IsPlaced : Lane R → Seen → Type 0
  IsPlaced lane t = (Among t.hull (lane_hulls lane)) ⊎ ((r : Range) × Among r (lane_hulls lane) × BeginsAs t r)

  open_hulls : (name : Aggregate) (kept : Kept) (hulls : List (List Range)) (lane : Lane R) (list : List (List Point)) → IsOpen name kept hulls lane list → Each (IsPlaced lane) (lane_seens lane list)
  open_hulls name kept hulls (Pages lane) list is = by lane.whole is.3
    where
      by : (whole : Bool) → (whole ≡ true → IsOnePiece hulls lane list) → Each (IsPlaced (Pages lane)) (seens_of whole lane list)
      by true piece =
          let first = first_page lane.entry.pages list lane.entry.stats is.1 (piece refl).stats in
          (inr (first.0, first.1, record { passed = refl; from = first.2; some = first.3 }), tt)
      by false piece = each_weaker (λ (b : Seen). Among b.hull (map page_times lane.entry.pages)) (IsPlaced (Pages lane)) (λ b among. inl among) (seen_pages lane.passed.items lane.entry.pages list)
          (pages_hulls lane.passed.items lane.entry.pages list (map page_times lane.entry.pages) (λ r m. m))
  open_hulls name kept hulls (Part lane) list is = by lane.rest.now
    where
      by : (points : List Point) → Each (λ b. (Among b.hull (hull_of points)) ⊎ ((r : Range) × Among r (hull_of points) × BeginsAs b r)) (part_seens points)
      by [] = tt
      by (p ∷ ps) = (inl (inl refl), tt)

-- ---- all sources

or_parts : (a b : Bool) → (a || b) ≡ false → (a ≡ false) × (b ≡ false)
or_parts true b e = absurd (false≢true (sym e))
or_parts false b e = (refl, e)

none_at : {X : Type 0} (p : X → Bool) (xs : List X) (k : ℕ) (x : X) → list_any p xs ≡ false → slice_get xs k ≡ Some x → p x ≡ false
none_at p [] k x none is = absurd (none_some x is)
none_at p (y ∷ xs) zero x none is = let same : y ≡ x = cc in ap p (sym same) ∙ (or_parts (p y) (list_any p xs) none).0
none_at p (y ∷ xs) (suc k) x none is = none_at p xs k x (or_parts (p y) (list_any p xs) none).1 is

none_among : {X : Type 0} (p : X → Bool) (xs : List X) (x : X) → list_any p xs ≡ false → Among x xs → p x ≡ false
none_among p [] x none m = absurd m
none_among p (y ∷ xs) x none (inl same) = ap p (sym same) ∙ (or_parts (p y) (list_any p xs) none).0
none_among p (y ∷ xs) x none (inr m) = none_among p xs x (or_parts (p y) (list_any p xs) none).1 m

-- what is so of none of the others is not so of another
none_other : {X : Type 0} (p : X → Bool) (i k : ℕ) (xs : List X) (x : X) → list_any p (take i xs ++ drop (suc i) xs) ≡ false → i ≢ k → slice_get xs k ≡ Some x → p x ≡ false
none_other p i k [] x none apart is = absurd (none_some x is)
none_other p zero zero (y ∷ xs) x none apart is = absurd (apart refl)
none_other p zero (suc k) (y ∷ xs) x none apart is = none_at p xs k x none is
none_other p (suc i) zero (y ∷ xs) x none apart is = let same : y ≡ x = cc in ap p (sym same) ∙ (or_parts (p y) (list_any p (take i xs ++ drop (suc i) xs)) none).0
none_other p (suc i) (suc k) (y ∷ xs) x none apart is = none_other p i k xs x (or_parts (p y) (list_any p (take i xs ++ drop (suc i) xs)) none).1 (λ e. apart (ap suc e)) is

module _ {R : Type 0} (kept : Kept) where
  abbrev pub views : List (Lane R) → List (List (List Point)) → List View
  views [] lists = []
  views (lane ∷ lanes) [] = []
  views (lane ∷ lanes) (list ∷ lists) = view kept lane list ∷ views lanes lists

  each_view : (P : View → Type 0) (lanes : List (Lane R)) (lists : List (List (List Point))) → ((k : ℕ) (lane : Lane R) (list : List (List Point)) → slice_get lanes k ≡ Some lane → slice_get lists k ≡ Some list → P (view kept lane list)) → Each P (views lanes lists)
  each_view P [] lists f = tt
  each_view P (lane ∷ lanes) [] f = tt
  each_view P (lane ∷ lanes) (list ∷ lists) f = (f 0 lane list refl refl, each_view P lanes lists (λ k a b x y. f (suc k) a b x y))

  pair_views : (Q : View → View → Type 0) (lanes : List (Lane R)) (lists : List (List (List Point)))
      → ((i k : ℕ) (a b : Lane R) (l m : List (List Point)) → i < k → slice_get lanes i ≡ Some a → slice_get lists i ≡ Some l → slice_get lanes k ≡ Some b → slice_get lists k ≡ Some m → Q (view kept a l) (view kept b m)) → EachPair Q (views lanes lists)
  pair_views Q [] lists f = tt
  pair_views Q (lane ∷ lanes) [] f = tt
  pair_views Q (lane ∷ lanes) (list ∷ lists) f = (
    each_view (Q (view kept lane list)) lanes lists (λ k b m x y. f 0 (suc k) lane b list m (omega arith) refl refl x y),
    pair_views Q lanes lists (λ i k a b l m low x y z w. f (suc i) (suc k) a b l m (omega (arith, low)) x y z w),
  )

module _ {R : Type 0} (name : Aggregate) (kept : Kept) where
  -- all sources are open
  abbrev pub AreOpen : List (Lane R) → List (List (List Point)) → Type 0
  AreOpen lanes lists = (k : ℕ) (lane : Lane R) (list : List (List Point)) → slice_get lanes k ≡ Some lane → slice_get lists k ≡ Some list → IsOpen name kept (others k (map lane_hulls lanes)) lane list

  -- a page that is passed over meets no page or part of another source
  unmet : (lanes : List (Lane R)) (i k : ℕ) (a b : Lane R) (l : List (List Point)) → i ≢ k → IsOpen name kept (others i (map lane_hulls lanes)) a l → slice_get lanes k ≡ Some b → (s : Seen) (r : Range) → Among s (lane_seens a l) → is_some s.passed ≡ true
      → Among r (lane_hulls b) → overlap r s.hull ≡ false
  unmet lanes i k a b l apart is at s r ms passed mr =
      let step : i + 1 ≡ suc i = omega arith in
      let clear = each_among (IsClear (others i (map lane_hulls lanes))) (lane_seens a l) s (open_clear name kept (others i (map lane_hulls lanes)) a l is) ms passed in
      let none = none_other (any_meets s.hull) i k (map lane_hulls lanes) (lane_hulls b) (ap (λ n. list_any (any_meets s.hull) (take i (map lane_hulls lanes) ++ drop n (map lane_hulls lanes))) (sym step) ∙ clear) apart (got_map lane_hulls lanes k b at) in
      none_among (λ hull. overlap hull s.hull) (lane_hulls b) r none mr

  clear_of : (lanes : List (Lane R)) (i k : ℕ) (a b : Lane R) (l m : List (List Point)) → i ≢ k → IsOpen name kept (others i (map lane_hulls lanes)) a l → IsOpen name kept (others k (map lane_hulls lanes)) b m → slice_get lanes i ≡ Some a → slice_get lanes k ≡ Some b
      → (s t : Seen) → Among s (lane_seens a l) → Among t (lane_seens b m) → is_some s.passed ≡ true → overlap t.hull s.hull ≡ false
  clear_of lanes i k a b l m apart is_a is_b at_a at_b s t ms mt passed =
      by (each_among (IsPlaced a) (lane_seens a l) s (open_hulls name kept (others i (map lane_hulls lanes)) a l is_a) ms)
      (each_among (IsPlaced b) (lane_seens b m) t (open_hulls name kept (others k (map lane_hulls lanes)) b m is_b) mt)
    where
      of_b : (r : Range) → Among r (lane_hulls b) → overlap r s.hull ≡ false
      of_b r mr = unmet lanes i k a b l apart is_a at_b s r ms passed mr

      of_a : is_some t.passed ≡ true → (r : Range) → Among r (lane_hulls a) → overlap r t.hull ≡ false
      of_a passed_t r mr = unmet lanes k i b a m (λ e. apart (sym e)) is_b at_a t r mt passed_t mr

      by : IsPlaced a s → IsPlaced b t → overlap t.hull s.hull ≡ false
      by first (inl among) = of_b t.hull among
      by (inl among) (inr last) = overlap_swap t.hull s.hull ∙ of_a last.2.passed s.hull among
      by (inr head) (inr last) = begin_outside t.hull s.hull
          (outside_of s t head.0 head.2 (of_a last.2.passed head.0 head.1)) (outside_of t s last.0 last.2 (of_b last.0 last.1))

  pub sound : (lanes : List (Lane R)) (lists : List (List (List Point))) → AreOpen lanes lists → AreSound (views kept lanes lists)
  sound lanes lists are = record {
    fit = each_view kept (λ v. Each (IsFit v.keep) v.seens) lanes lists (λ k lane list x y. open_fit name kept (others k (map lane_hulls lanes)) lane list (are k lane list x y));
    rising = each_view kept (λ v. IsRising (all_of v)) lanes lists (λ k lane list x y. open_rising name kept (others k (map lane_hulls lanes)) lane list (are k lane list x y));
    within = each_view kept (λ v. EachPair AreApart v.seens) lanes lists (λ k lane list x y. open_apart name kept (others k (map lane_hulls lanes)) lane list (are k lane list x y));
    across = pair_views kept ViewsApart lanes lists (λ i k a b l m low x y z w.
        each_all (λ s. Each (AreApart s) (lane_seens b m)) (lane_seens a l) (λ s ms. each_all (AreApart s) (lane_seens b m) (λ t mt. record {
          first = λ passed. overlap_swap s.hull t.hull ∙ clear_of lanes i k a b l m (λ e. absurd (omega (arith, low, e))) (are i a l x y) (are k b m z w) x z s t ms mt passed;
          second = λ passed. clear_of lanes k i b a m l (λ e. absurd (omega (arith, low, e))) (are k b m z w) (are i a l x y) z x t s mt ms passed;
        })));
  }
