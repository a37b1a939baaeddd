-- How many pages of sources are due that pass over their clean pages.
use Rattle.std.proofs.Common.{◌≡◌, ℕ, ℤ, suc, ◌+◌, ◌-◌, Bool, true, false, cond, not, List, [], ◌∷◌, ◌++◌, map, length, Option, None, Some, refl, sym, ap, subst, ◌∙◌, arith}
use Rattle.std.specs.Prelude.{◌&&◌, All, filter, flat_map, is_some, slice_get, sum_by}
use Rattle.std.specs.List.{AllZip, enumerate_from}
use Rattle.std.specs.Option.{option_map, unwrap_or}
use Rattle.std.proofs.lemmas.List.Elements.{All-head, All-tail}
use Rattle.std.proofs.lemmas.List.Sums.{sum_by-cons}
use Rattle.tsdb_aggregate.specs.Pieces.{has_asked, overlap}
use Rattle.tsdb_base.specs.declared.answers.Aggregate.{Aggregate}
use Rattle.tsdb_base.specs.declared.answers.Aggregate.TheVariants.{Count, FirstValue, LastValue, MinValue, MaxValue, MinTime, MaxTime, Sum}
use Rattle.tsdb_base.specs.declared.point.Point.{Point}
use Rattle.tsdb_base.specs.declared.point.Range.{Range}
use Rattle.tsdb_base.specs.declared.point.Stats.{Stats}
use Rattle.tsdb_base.specs.declared.value.Value.{Value}
use Rattle.tsdb_base.specs.declared.value.Value.TheVariants.{I64}
use Rattle.tsdb_streams.proofs.LaneViews.{ArePages, IsPage, pages_by_number}
use Rattle.tsdb_streams.specs.Clean.{answers, count_read, hull_of, is_clean, others, page_of, source_hulls, source_pages, source_read}
use Rattle.tsdb_streams.specs.Cleaning.{IsCleaned, is_clean_page, lane_hulls, page_times, said_page}
use Rattle.tsdb_streams.specs.Files.{FilePages, HasEntryPages, sums_in}
use Rattle.tsdb_model.specs.Folds.{sum_of}
use Rattle.tsdb_streams.specs.KeptPoints.{stats_range}
use Rattle.tsdb_streams.specs.Lanes.{IsTrueSource, OpensAs, count_due, is_due, lane_due, source_all}
use Rattle.tsdb_streams.specs.declared.survival.Kept.{Kept}
use Rattle.tsdb_streams.specs.declared.lane.Lane.{Lane}
use Rattle.tsdb_streams.specs.declared.lane.Lane.TheVariants.{Pages, Part}
use Rattle.tsdb_streams.specs.declared.lane.PageLane.{PageLane}
use Rattle.tsdb_streams.specs.declared.lane.PartLane.{PartLane}
use Rattle.tsdb_streams.specs.declared.source.StreamSource.{StreamSource}
use Rattle.tsdb_streams.specs.declared.source.StreamSource.TheVariants as source
use Rattle.tsdb_index.specs.declared.index.PageEntry.{PageEntry}
use Rattle.tsdb_outside.specs.Files.{NamedFile}
use Rattle.tsdb_streams.specs.Pieces.{joined}
use Rattle.tsdb_stats.specs.Statistics.{AreStatsOf}

-- ---- pages of an entry, of which the flags say whether they are clean

-- a page is read
abbrev is_read : Kept → List (List Range) → ℕ → Range × Bool → Bool
is_read kept hulls born page = not (is_clean kept.series.now kept.range kept.marks.now.marks hulls born page) && overlap kept.range page.0

pub due_count : (name : Aggregate) (kept : Kept) (hulls : List (List Range)) (born : ℕ) (pages : List PageEntry)
    → count_due kept.range (map (is_clean_page name kept hulls born) pages) pages ≡ count_read kept.series.now kept.range kept.marks.now.marks hulls born (map (said_page name) pages)
due_count name kept hulls born [] = refl
due_count name kept hulls born (page ∷ pages) = by (is_due kept.range (is_clean_page name kept hulls born page) page) (due_count name kept hulls born pages)
  where
    by : (b : Bool) → count_due kept.range (map (is_clean_page name kept hulls born) pages) pages ≡ length (filter (is_read kept hulls born) (map (said_page name) pages))
        → cond b 1 0 + count_due kept.range (map (is_clean_page name kept hulls born) pages) pages
        ≡ length (cond b (said_page name page ∷ filter (is_read kept hulls born) (map (said_page name) pages)) (filter (is_read kept hulls born) (map (said_page name) pages)))
    by true rest = omega (arith, rest)
    by false rest = omega (arith, rest)

-- ---- the times of pages are those of their points

last_time : (o : Option Point) (start end : ℤ) → option_map (λ (p : Point). I64 p.time) o ≡ Some (I64 end) → unwrap_or (option_map (λ (p : Point). p.time) o) start ≡ end
last_time None start end e = absurd (none_some e)
  where
    none_some : ◌≡◌ {A = Option Value} None (Some (I64 end)) → ⊥
    none_some e = cc
last_time (Some p) start end e = let same : p.time ≡ end = cc in same

-- statistics of points have their times
pub stats_hull : (stats : Stats) (points : List Point) → AreStatsOf points stats → stats_range stats ∷ [] ≡ hull_of points
stats_hull stats [] are = absurd (none_some are.start)
  where
    none_some : ◌≡◌ {A = Option Value} None (Some (I64 stats.start)) → ⊥
    none_some e = cc
stats_hull stats (p ∷ ps) are =
    let from : p.time ≡ stats.start = first are.start in
    let at : length (p ∷ ps) - 1 ≡ length ps = omega arith in
    let to : unwrap_or (option_map (λ (q : Point). q.time) (slice_get (p ∷ ps) (length ps))) p.time ≡ stats.end =
    last_time (slice_get (p ∷ ps) (length ps)) p.time stats.end (subst (λ n. option_map (λ (q : Point). I64 q.time) (slice_get (p ∷ ps) n) ≡ Some (I64 stats.end)) at are.end) in
    ap (λ t. range_of t stats.end ∷ []) (sym from) ∙ ap (λ t. range_of p.time t ∷ []) (sym to)
  where
    range_of : ℤ → ℤ → Range
    range_of from to = record { from = from; to = to }

    first : ◌≡◌ {A = Option Value} (Some (I64 p.time)) (Some (I64 stats.start)) → p.time ≡ stats.start
    first e = cc

page_hull : (page : PageEntry) (points : List Point) → IsPage page points → page_times page ∷ [] ≡ hull_of points
page_hull page points is = stats_hull page.stats points is.stats

pages_hulls : (pages : List PageEntry) (list : List (List Point)) → ArePages pages list → map page_times pages ≡ flat_map hull_of list
pages_hulls [] [] are = refl
pages_hulls [] (points ∷ list) are = absurd are
pages_hulls (page ∷ pages) [] are = absurd are
pages_hulls (page ∷ pages) (points ∷ list) are = ap (λ l. page_times page ∷ l) (pages_hulls pages list are.1) ∙ ap (λ l. l ++ flat_map hull_of list) (page_hull page points are.0)

-- ---- whether the statistics of pages answer an aggregate

-- the sums that entries say are there where the file has sums and the points are numbers
abbrev AreSummed : Bool → List PageEntry → List (List Point) → Type 0
AreSummed sums [] list = Unit {0}
AreSummed sums (page ∷ pages) [] = Unit {0}
AreSummed sums (page ∷ pages) (points ∷ list) = (is_some page.stats.sum ≡ (sums && is_some (sum_of points))) × AreSummed sums pages list

summed_by_number : (sums : Bool) (pages : List PageEntry) (list : List (List Point))
    → ((number : ℕ) (page : PageEntry) (points : List Point) → slice_get pages number ≡ Some page → slice_get list number ≡ Some points → is_some page.stats.sum ≡ (sums && is_some (sum_of points)))
    → AreSummed sums pages list
summed_by_number sums [] list says = tt
summed_by_number sums (page ∷ pages) [] says = tt
summed_by_number sums (page ∷ pages) (points ∷ list) says = (says 0 page points refl refl, summed_by_number sums pages list (λ n p q a b. says (suc n) p q a b))

asked_same : (name : Aggregate) (sums : Bool) (stats : Stats) (points : List Point) → is_some stats.sum ≡ (sums && is_some (sum_of points)) → has_asked name stats ≡ answers name sums points
asked_same Count sums stats points is = refl
asked_same FirstValue sums stats points is = refl
asked_same LastValue sums stats points is = refl
asked_same MinValue sums stats points is = refl
asked_same MaxValue sums stats points is = refl
asked_same MinTime sums stats points is = refl
asked_same MaxTime sums stats points is = refl
asked_same Sum sums stats points is = is

page_said : (name : Aggregate) (sums : Bool) (page : PageEntry) (points : List Point) → IsPage page points → is_some page.stats.sum ≡ (sums && is_some (sum_of points))
    → said_page name page ∷ [] ≡ page_of name sums points
page_said name sums page points is summed =
    ap (λ b. (page_times page, b) ∷ []) (asked_same name sums page.stats points summed)
    ∙ ap (map (λ times. (times, answers name sums points))) (page_hull page points is)

pages_said : (name : Aggregate) (sums : Bool) (pages : List PageEntry) (list : List (List Point)) → ArePages pages list → AreSummed sums pages list → map (said_page name) pages ≡ flat_map (page_of name sums) list
pages_said name sums [] [] are summed = refl
pages_said name sums [] (points ∷ list) are summed = absurd are
pages_said name sums (page ∷ pages) [] are summed = absurd are
pages_said name sums (page ∷ pages) (points ∷ list) are summed =
    ap (λ l. said_page name page ∷ l) (pages_said name sums pages list are.1 summed.1) ∙ ap (λ l. l ++ flat_map (page_of name sums) list) (page_said name sums page points are.0 summed.0)

none_said : (name : Aggregate) (sums : Bool) (list : List (List Point)) → filter (λ (p : Point). true) (joined list) ≡ [] → flat_map (page_of name sums) list ≡ []
none_said name sums [] none = refl
none_said name sums ([] ∷ list) none = none_said name sums list none
none_said name sums ((p ∷ ps) ∷ list) none = absurd (cons_nil p (filter (λ (p : Point). true) (ps ++ joined list)) none)
  where
    cons_nil : (q : Point) (qs : List Point) → q ∷ qs ≡ [] → ⊥
    cons_nil q qs e = cc

no_hulls : (list : List (List Point)) → filter (λ (p : Point). true) (joined list) ≡ [] → flat_map hull_of list ≡ []
no_hulls [] none = refl
no_hulls ([] ∷ list) none = no_hulls list none
no_hulls ((p ∷ ps) ∷ list) none = absurd (cons_nil p (filter (λ (p : Point). true) (ps ++ joined list)) none)
  where
    cons_nil : (q : Point) (qs : List Point) → q ∷ qs ≡ [] → ⊥
    cons_nil q qs e = cc

some_same : {X : Type 0} (x y : X) → Some x ≡ Some y → x ≡ y
some_same x y e = cc

pub sums : {X Y : Type 0} (f : X → ℕ) (g : ℕ → Y → ℕ) (xs : List X) (ys : List Y) (n : ℕ) → length xs ≡ length ys → ((k : ℕ) (x : X) (y : Y) → slice_get xs k ≡ Some x → slice_get ys k ≡ Some y → f x ≡ g (n + k) y)
    → sum_by f xs ≡ sum_by (λ (entry : ℕ × Y). g entry.0 entry.1) (enumerate_from n ys)
sums f g [] [] n long each = refl
sums f g [] (y ∷ ys) n long each = absurd (omega (arith, long))
sums f g (x ∷ xs) [] n long each = absurd (omega (arith, long))
sums {X} {Y} f g (x ∷ xs) (y ∷ ys) n long each =
    let first : f x ≡ g n y = each 0 x y refl refl ∙ ap (λ m. g m y) (omega arith) in
    let rest : sum_by f xs ≡ sum_by (λ (entry : ℕ × Y). g entry.0 entry.1) (enumerate_from (n + 1) ys) =
    sums f g xs ys (n + 1) (omega (arith, long)) (λ k a b p q. each (suc k) a b p q ∙ ap (λ m. g m b) (omega arith)) in
    sum_by-cons f x xs ∙ ap (λ m. m + sum_by f xs) first ∙ ap (λ m. g n y + m) rest ∙ sym (sum_by-cons (λ (entry : ℕ × Y). g entry.0 entry.1) (n, y) (enumerate_from (n + 1) ys))

module _ {R : Type 0} (file : R → NamedFile) (pages : FilePages) where
  told_list : (o : Option (List (List Point))) (points : List Point) → option_map joined o ≡ Some points → o ≡ Some (unwrap_or o [])
  told_list None points e = absurd (none_some points e)
    where
      none_some : (points : List Point) → ◌≡◌ {A = Option (List Point)} None (Some points) → ⊥
      none_some points e = cc
  told_list (Some list) points e = refl

  -- the times of a source that was opened are those of its points
  pub hulls_are : (names : List ℕ × List ℕ) (from : StreamSource R) (lane : Lane R) (points : List Point) → OpensAs file names from lane → IsTrueSource file names pages from → source_all file pages from ≡ Some points
      → lane_hulls lane ≡ source_hulls file pages from
  hulls_are names (source.File right born) (Pages lane) points opens truth all =
      let list = unwrap_or (pages (file right.now).number) [] in
      let told : pages (file lane.right.now).number ≡ Some list = ap (λ r. pages (file r.now).number) opens.new.0 ∙ told_list (pages (file right.now).number) points all in
      let entry_pages : HasEntryPages lane.entry (file lane.right.now) list = opens.truth pages truth lane refl list told in
      pages_hulls lane.entry.pages list (pages_by_number lane.entry.pages list entry_pages.1 (λ number page ps a b. let h = entry_pages.2 number page ps a b in record { within = h.0; stats = h.2 }))
  hulls_are names (source.File right born) (Part lane) points opens truth all =
      let list = unwrap_or (pages (file right.now).number) [] in
      let told = told_list (pages (file right.now).number) points all in
      let left : Some (filter (λ (p : Point). true) lane.rest.now) ≡ Some (filter (λ (p : Point). true) (joined list)) =
      opens.left pages truth (λ b p. true) (filter (λ (p : Point). true) (joined list)) (ap (option_map (λ (l : List (List Point)). filter (λ (p : Point). true) (joined l))) told) in
      let none : filter (λ (p : Point). true) (joined list) ≡ [] = some_same (filter (λ (p : Point). true) (joined list)) [] (sym left ∙ ap (λ (l : List Point). Some (filter (λ (p : Point). true) l)) opens.new.0) in
      ap hull_of opens.new.0 ∙ sym (no_hulls list none)
  hulls_are names (source.Part parts born) (Pages lane) points opens truth all = absurd opens.new
  hulls_are names (source.Part parts born) (Part lane) points opens truth all = ap (λ r. hull_of r.now) opens.new.0

  pub all_hulls_are : (names : List ℕ × List ℕ) (sources : List (StreamSource R)) (lanes : List (Lane R)) (lists : List (List Point)) → AllZip (OpensAs file names) sources lanes → All (IsTrueSource file names pages) sources
      → map (source_all file pages) sources ≡ map Some lists → map lane_hulls lanes ≡ map (source_hulls file pages) sources
  all_hulls_are names [] [] lists zip truth all = refl
  all_hulls_are names [] (lane ∷ lanes) lists zip truth all = absurd zip
  all_hulls_are names (from ∷ sources) [] lists zip truth all = absurd zip
  all_hulls_are names (from ∷ sources) (lane ∷ lanes) [] zip truth all = absurd (cons_nil (source_all file pages from) (map (source_all file pages) sources) all)
    where
      cons_nil : {A : Type 0} (a : A) (rest : List A) → a ∷ rest ≡ [] → ⊥
      cons_nil a rest e = cc
  all_hulls_are names (from ∷ sources) (lane ∷ lanes) (points ∷ lists) zip truth all =
      let first : source_all file pages from ≡ Some points = cc in
      let rest : map (source_all file pages) sources ≡ map Some lists = cc in
      ap (λ h. h ∷ map lane_hulls lanes) (hulls_are names from lane points zip.0 (All-head (IsTrueSource file names pages) from sources truth) first)
      ∙ ap (λ l. source_hulls file pages from ∷ l) (all_hulls_are names sources lanes lists zip.1 (All-tail (IsTrueSource file names pages) from sources truth) rest)

  -- what the entries of a source that was opened say of an aggregate is so of its points
  pub pages_are : (name : Aggregate) (names : List ℕ × List ℕ) (right : _) (born : _) (lane : PageLane R) (points : List Point) → OpensAs file names (source.File right born) (Pages lane) → IsTrueSource file names pages (source.File right born)
      → source_all file pages (source.File right born) ≡ Some points → map (said_page name) lane.entry.pages ≡ source_pages file pages name (source.File right born)
  pages_are name names right born lane points opens truth all =
      let list = unwrap_or (pages (file right.now).number) [] in
      let told : pages (file lane.right.now).number ≡ Some list = ap (λ r. pages (file r.now).number) opens.new.0 ∙ told_list (pages (file right.now).number) points all in
      let entry_pages : HasEntryPages lane.entry (file lane.right.now) list = opens.truth pages truth lane refl list told in
      let are = pages_by_number lane.entry.pages list entry_pages.1 (λ number page ps a b. let h = entry_pages.2 number page ps a b in record { within = h.0; stats = h.2 }) in
      let summed = summed_by_number (sums_in (file lane.right.now)) lane.entry.pages list (λ number page ps a b. (entry_pages.2 number page ps a b).3) in
      pages_said name (sums_in (file lane.right.now)) lane.entry.pages list are summed
      ∙ ap (λ r. flat_map (page_of name (sums_in (file r.now))) list) opens.new.0

  -- a file without the series has no page of it
  no_pages : (name : Aggregate) (names : List ℕ × List ℕ) (right : _) (born : _) (lane : PartLane) (points : List Point) → OpensAs file names (source.File right born) (Part lane) → IsTrueSource file names pages (source.File right born)
      → source_all file pages (source.File right born) ≡ Some points → source_pages file pages name (source.File right born) ≡ []
  no_pages name names right born lane points opens truth all =
      let list = unwrap_or (pages (file right.now).number) [] in
      let told = told_list (pages (file right.now).number) points all in
      let left : Some (filter (λ (p : Point). true) lane.rest.now) ≡ Some (filter (λ (p : Point). true) (joined list)) =
      opens.left pages truth (λ b p. true) (filter (λ (p : Point). true) (joined list)) (ap (option_map (λ (l : List (List Point)). filter (λ (p : Point). true) (joined l))) told) in
      none_said name (sums_in (file right.now)) list (some_same (filter (λ (p : Point). true) (joined list)) [] (sym left ∙ ap (λ (l : List Point). Some (filter (λ (p : Point). true) l)) opens.new.0))

  -- as many pages of a source are due as meet the range and are not clean for the aggregate
  pub one_due : (name : Aggregate) (kept : Kept) (names : List ℕ × List ℕ) (hulls : List (List Range)) (number : ℕ) (from : StreamSource R) (old new : Lane R) (points : List Point) → OpensAs file names from old → IsTrueSource file names pages from
      → source_all file pages from ≡ Some points → IsCleaned name kept (others number hulls) old new → lane_due kept.range new ≡ source_read file pages name kept.series.now kept.range kept.marks.now.marks hulls number from
  one_due name kept names hulls number (source.File right born) (Pages old) (Pages new) points opens truth all flagged =
      ap (λ flags. count_due kept.range flags new.entry.pages) flagged.0
      ∙ ap (λ e. count_due kept.range (map (is_clean_page name kept (others number hulls) old.born.0) old.entry.pages) e.pages) flagged.3
      ∙ due_count name kept (others number hulls) old.born.0 old.entry.pages
      ∙ ap (λ b. count_read kept.series.now kept.range kept.marks.now.marks (others number hulls) b.0 (map (said_page name) old.entry.pages)) opens.new.1
      ∙ ap (λ l. count_read kept.series.now kept.range kept.marks.now.marks (others number hulls) born.0 l) (pages_are name names right born old points opens truth all)
  one_due name kept names hulls number (source.File right born) (Pages old) (Part new) points opens truth all flagged = absurd flagged
  one_due name kept names hulls number (source.File right born) (Part old) (Pages new) points opens truth all flagged = absurd flagged
  one_due name kept names hulls number (source.File right born) (Part old) (Part new) points opens truth all flagged =
      ap (λ l. count_read kept.series.now kept.range kept.marks.now.marks (others number hulls) born.0 l) (sym (no_pages name names right born old points opens truth all))
  one_due name kept names hulls number (source.Part parts born) (Pages old) new points opens truth all flagged = absurd opens.new
  one_due name kept names hulls number (source.Part parts born) (Part old) (Pages new) points opens truth all flagged = absurd flagged
  one_due name kept names hulls number (source.Part parts born) (Part old) (Part new) points opens truth all flagged = refl
