-- The merge of sources that were opened and pass over their clean pages is parted.
use Rattle.std.proofs.Common.{◌≡◌, ℕ, zero, suc, ◌+◌, ◌<◌, Bool, true, false, cond, not, inl, inr, List, [], ◌∷◌, ◌++◌, map, length, get_or, drop, Option, None, Some, refl, sym, ap, subst, ◌∙◌, arith}
use Rattle.std.specs.Prelude.{◌&&◌, All, IsTrue, filter, flat_map, slice_get, sum_by, ◌<ℤ◌}
use Rattle.std.specs.List.{AllZip, list_any}
use Rattle.std.specs.List.Sorted.{IsPermutation}
use Rattle.std.specs.Option.{option_map, unwrap_or}
use Rattle.std.specs.Prelude.{AllPairs, ◌≤ℤ◌}
use Rattle.std.proofs.lemmas.List.{length-map}
use Rattle.std.proofs.lemmas.List.Elements.{All-append, All-cons, All-nil}
use Rattle.std.proofs.lemmas.List.Sorted.{All-permutation}
use Rattle.std.proofs.lemmas.List.Kept.{AllPairs-filter}
use Rattle.std.proofs.lemmas.Option.{get_or_from_slice_get, slice_get_within}
use Rattle.tsdb_aggregate.specs.Pieces.{has_asked}
use Rattle.tsdb_base.specs.declared.answers.Aggregate.{Aggregate}
use Rattle.tsdb_base.specs.declared.point.Point.{Point}
use Rattle.tsdb_base.specs.declared.point.Range.{Range}
use Rattle.tsdb_base.specs.declared.point.Stats.{Stats}
use Rattle.tsdb_streams.proofs.LaneViews.{ArePages, not_true, pages_by_number}
use Rattle.tsdb_streams.proofs.OpenFacts.{got_map, pages_of_store, pages_true, part_of_store, part_true}
use Rattle.tsdb_streams.proofs.SoundViews.{AreOpen, IsOnePiece, IsOpen, all_seens, left_seens, part_left as left_of_part, part_passed, part_points, passed_seens, sound, view, views}
use Rattle.tsdb_streams.proofs.Views.{View, all_of, covered, gathered, kept_all, kept_left, lists_left, passed_of}
use Rattle.tsdb_streams.proofs.ViewMerges.{parted}
use Rattle.tsdb_streams.proofs.DueFacts.{all_hulls_are, one_due, sums}
use Rattle.tsdb_streams.proofs.CleanFacts.{both}
use Rattle.tsdb_streams.specs.Clean.{any_meets, is_apart, others, source_hulls, source_read, sources_read}
use Rattle.tsdb_streams.specs.Cleaning.{AreCleaned, IsCleaned, IsFlagged, all_set, flags_of, is_clean_page, lane_hulls, lane_passed, page_times, picked}
use Rattle.tsdb_streams.specs.Files.{FilePages, HasEntryPages}
use Rattle.tsdb_streams.specs.KeptPoints.{stats_range}
use Rattle.tsdb_streams.specs.Lanes.{IsLaneOfStore, IsToldLane, IsTrueLane, IsTrueSource, OpensAs, keep_of, lane_due, lane_points_left, left_pages, source_all, source_left}
use Rattle.tsdb_streams.specs.PartedMerge.{IsParted}
use Rattle.tsdb_streams.specs.declared.survival.Kept.{Kept}
use Rattle.tsdb_streams.specs.declared.lane.Lane.{Lane}
use Rattle.tsdb_streams.specs.declared.lane.Lane.TheVariants.{Pages, Part}
use Rattle.tsdb_streams.specs.declared.lane.PageLane.{PageLane}
use Rattle.tsdb_streams.specs.declared.lane.PartLane.{PartLane}
use Rattle.tsdb_streams.specs.declared.source.StreamSource.{StreamSource}
use Rattle.tsdb_streams.specs.declared.source.StreamSource.TheVariants as source
use Rattle.tsdb_index.specs.declared.index.IndexEntry.{IndexEntry}
use Rattle.tsdb_index.specs.declared.index.PageEntry.{PageEntry}
use Rattle.tsdb_base.proofs.Lists.{each_among}
use Rattle.tsdb_base.specs.Lists.{Among}
use Rattle.tsdb_merge.proofs.MergeLemmas.{AllPairs-nil}
use Rattle.tsdb_base.specs.Points.{IsRising}
use Rattle.tsdb_merge.specs.Winners.{IsMergeOf, IsToldMergeOf}
use Rattle.tsdb_outside.specs.Files.{NamedFile, Store}
use Rattle.tsdb_streams.specs.Pieces.{joined}
use Rattle.tsdb_stats.specs.Statistics.{AreStatsOf}

none_some : {X : Type 0} (x : X) → ◌≡◌ {A = Option X} None (Some x) → ⊥
none_some x e = cc

some_same : {X : Type 0} (x y : X) → Some x ≡ Some y → x ≡ y
some_same x y e = cc

module _ {R : Type 0} (file : R → NamedFile) (pages : FilePages) (name : Aggregate) (kept : Kept) where
  -- the pages that are told of a source
  abbrev pub told_of : StreamSource R → List (List Point)
  told_of (source.File right born) = unwrap_or (pages (file right.now).number) []
  told_of (source.Part points born) = []

  -- a source that is open, what is left of it, and what it has
  pub record IsSeen (hulls : List (List Range)) (from : StreamSource R) (lane : Lane R) : Type 0 where
    pub opened : IsOpen name kept hulls lane (told_of from)
    pub left : lane_points_left file pages (keep_of kept) lane ≡ Some (kept_left (view kept lane (told_of from)))
    pub all : source_left file pages (keep_of kept) from ≡ Some (kept_all (view kept lane (told_of from)))
    pub passed : lane_passed lane ≡ passed_of (view kept lane (told_of from))

  told_is : (o : Option (List (List Point))) (points : List Point) → option_map joined o ≡ Some points → (o ≡ Some (unwrap_or o [])) × (joined (unwrap_or o []) ≡ points)
  told_is None points e = absurd (none_some points e)
  told_is (Some list) points e = (refl, some_same (joined list) points e)

  seen_file : (hulls : List (List Range)) (names : List ℕ × List ℕ) (right : _) (born : _) (old new : PageLane R) (points : List Point) → OpensAs file names (source.File right born) (Pages old) → IsTrueSource file names pages (source.File right born)
      → IsCleaned name kept hulls (Pages old) (Pages new) → source_all file pages (source.File right born) ≡ Some points → IsRising points → IsSeen hulls (source.File right born) (Pages new)
  seen_file hulls names right born old new points opens truth flagged all rising =
      let list = unwrap_or (pages (file right.now).number) [] in
      let told = told_is (pages (file right.now).number) points all in
      let right_is : new.right ≡ right = flagged.1 ∙ opens.new.0 in
      let born_is : new.born ≡ born = flagged.2 ∙ opens.new.1 in
      let next_is : new.next ≡ 0 = flagged.4 ∙ opens.new.3 in
      let told_old : pages (file old.right.now).number ≡ Some list = ap (λ r. pages (file r.now).number) opens.new.0 ∙ told.0 in
      let entry_pages : HasEntryPages old.entry (file old.right.now) list = opens.truth pages truth old refl list told_old in
      let are_old : ArePages old.entry.pages list = pages_by_number old.entry.pages list entry_pages.1 (λ number page ps a b. let h = entry_pages.2 number page ps a b in record { within = h.0; stats = h.2 }) in
      let are : ArePages new.entry.pages list = subst (λ (e : IndexEntry). ArePages e.pages list) (sym flagged.3) are_old in
      let told_new : pages (file new.right.now).number ≡ Some list = ap (λ r. pages (file r.now).number) right_is ∙ told.0 in
      let flags_are : new.passed.items ≡ map (is_clean_page name kept hulls new.born.0) new.entry.pages = flagged.0 ∙ ap (λ b. map (is_clean_page name kept hulls b) old.entry.pages) (ap (λ s. s.0) (sym flagged.2)) ∙ ap (λ (e : IndexEntry). map (is_clean_page name kept hulls new.born.0) e.pages) (sym flagged.3) in
      let long : length new.passed.items ≡ length new.entry.pages = ap length flags_are ∙ length-map new.entry.pages (is_clean_page name kept hulls new.born.0) in
      let piece : new.whole ≡ true → IsOnePiece hulls new list = λ e.
      let parts = both (all_set (flags_of name kept hulls (Pages old))) (has_asked name old.entry.stats && not (list_any (any_meets (stats_range old.entry.stats)) hulls)) (sym flagged.5 ∙ e) in
      let unmet = both (has_asked name old.entry.stats) (not (list_any (any_meets (stats_range old.entry.stats)) hulls)) parts.1 in
      record {
        all = ap all_set flagged.0 ∙ parts.0;
        clear = ap (λ (n : IndexEntry). list_any (any_meets (stats_range n.stats)) hulls) flagged.3
            ∙ not_true (list_any (any_meets (stats_range old.entry.stats)) hulls) unmet.1;
        stats = subst (λ (n : IndexEntry). AreStatsOf (joined list) n.stats) (sym flagged.3) entry_pages.3;
      } in
      record {
        opened = (
          flags_are,
          are,
          subst IsRising (sym told.1) rising,
          piece,
        );
        left =
            ap (option_map (λ l. filter (keep_of kept new.born.0) (joined (drop new.next (left_pages new.passed.items l))))) told_new
            ∙ ap (λ n. Some (filter (keep_of kept new.born.0) (joined (drop n (left_pages new.passed.items list))))) next_is
            ∙ ap (λ l. Some (filter (keep_of kept new.born.0) l)) (sym (left_seens new list are long new.whole (λ e. (piece e).all)));
        all =
            ap (option_map (λ l. filter (keep_of kept born.0) (joined l))) told.0
            ∙ ap (λ b. Some (filter (keep_of kept b) (joined list))) (ap (λ s. s.0) (sym born_is))
            ∙ ap (λ l. Some (filter (keep_of kept new.born.0) l)) (sym (all_seens new list are new.whole));
        passed = sym (passed_seens new list are new.whole);
      }

  one_seen : (hulls : List (List Range)) (names : List ℕ × List ℕ) (from : StreamSource R) (old new : Lane R) (points : List Point) → OpensAs file names from old → IsTrueSource file names pages from → IsCleaned name kept hulls old new
      → source_all file pages from ≡ Some points → IsRising points → IsSeen hulls from new
  one_seen hulls names (source.File right born) (Pages old) (Pages new) points opens truth flagged all rising = seen_file hulls names right born old new points opens truth flagged all rising
  one_seen hulls names (source.File right born) (Pages old) (Part new) points opens truth flagged all rising = absurd flagged
  one_seen hulls names (source.File right born) (Part old) (Pages new) points opens truth flagged all rising = absurd flagged
  one_seen hulls names (source.File right born) (Part old) (Part new) points opens truth flagged all rising =
      let told = told_is (pages (file right.now).number) points all in
      let rest_is : new.rest.now ≡ [] = ap (λ (p : PartLane). p.rest.now) flagged ∙ opens.new.0 in
      let kept_points = filter (keep_of kept born.0) (joined (unwrap_or (pages (file right.now).number) [])) in
      let has : source_left file pages (keep_of kept) (source.File right born) ≡ Some kept_points = ap (option_map (λ l. filter (keep_of kept born.0) (joined l))) told.0 in
      record {
        opened = subst IsRising (sym rest_is) (AllPairs-nil (λ (a b : Point). a.time <ℤ b.time));
        left = ap (λ l. Some (filter (keep_of kept new.born.0) l)) (sym (left_of_part new.rest.now));
        all = has ∙ sym (opens.left pages truth (keep_of kept) kept_points has) ∙ ap (λ (p : PartLane). Some (filter (keep_of kept p.born.0) p.rest.now)) (sym flagged) ∙ ap (λ l. Some (filter (keep_of kept new.born.0) l)) (sym (part_points new.rest.now));
        passed = sym (part_passed new.rest.now);
      }
  one_seen hulls names (source.Part parts born) (Pages old) new points opens truth flagged all rising = absurd opens.new
  one_seen hulls names (source.Part parts born) (Part old) (Pages new) points opens truth flagged all rising = absurd flagged
  one_seen hulls names (source.Part parts born) (Part old) (Part new) points opens truth flagged all rising =
      let rest_is : new.rest.now ≡ parts.now = ap (λ (p : PartLane). p.rest.now) flagged ∙ ap (λ r. r.now) opens.new.0 in
      let born_is : new.born ≡ born = ap (λ (p : PartLane). p.born) flagged ∙ opens.new.1 in
      record {
        opened = subst IsRising (sym (rest_is ∙ some_same parts.now points all)) rising;
        left = ap (λ l. Some (filter (keep_of kept new.born.0) l)) (sym (left_of_part new.rest.now));
        all = ap (λ l. Some (filter (keep_of kept born.0) l)) (sym rest_is) ∙ ap (λ b. Some (filter (keep_of kept b) new.rest.now)) (ap (λ s. s.0) (sym born_is)) ∙ ap (λ l. Some (filter (keep_of kept new.born.0) l)) (sym (part_points new.rest.now));
        passed = sym (part_passed new.rest.now);
      }

  -- ---- all sources

  zip_at : {X Y : Type 0} (Q : X → Y → Type 0) (xs : List X) (ys : List Y) (k : ℕ) (x : X) → AllZip Q xs ys → slice_get xs k ≡ Some x → (y : Y) × (slice_get ys k ≡ Some y) × Q x y
  zip_at Q [] ys k x zip is = absurd (none_some x is)
  zip_at Q (z ∷ xs) [] k x zip is = absurd zip
  zip_at Q (z ∷ xs) (y ∷ ys) zero x zip is = let same : z ≡ x = cc in (y, refl, subst (λ w. Q w y) same zip.0)
  zip_at Q (z ∷ xs) (y ∷ ys) (suc k) x zip is = zip_at Q xs ys k x zip.1 is

  zip_long : {X Y : Type 0} (Q : X → Y → Type 0) (xs : List X) (ys : List Y) → AllZip Q xs ys → length xs ≡ length ys
  zip_long Q [] [] zip = refl
  zip_long Q [] (y ∷ ys) zip = absurd zip
  zip_long Q (x ∷ xs) [] zip = absurd zip
  zip_long Q (x ∷ xs) (y ∷ ys) zip = ap suc (zip_long Q xs ys zip.1)

  some_at : {X Y : Type 0} (f : X → Option Y) (xs : List X) (ys : List Y) (k : ℕ) (x : X) → map f xs ≡ map Some ys → slice_get xs k ≡ Some x → (y : Y) × (f x ≡ Some y) × (slice_get ys k ≡ Some y)
  some_at f [] ys k x same is = absurd (none_some x is)
  some_at f (z ∷ xs) [] k x same is = absurd (cons_nil (f z) (map f xs) same)
    where
      cons_nil : {A : Type 0} (a : A) (rest : List A) → a ∷ rest ≡ [] → ⊥
      cons_nil a rest e = cc
  some_at f (z ∷ xs) (y ∷ ys) zero x same is =
      let here : z ≡ x = cc in
      let first : f z ≡ Some y = cc in
      (y, ap f (sym here) ∙ first, refl)
  some_at f (z ∷ xs) (y ∷ ys) (suc k) x same is = let rest : map f xs ≡ map Some ys = cc in some_at f xs ys k x rest is

  all_at : {X : Type 0} (Q : X → Type 0) (xs : List X) (k : ℕ) (x : X) → All Q xs → slice_get xs k ≡ Some x → Q x
  all_at Q xs k x all is = subst Q (get_or_from_slice_get xs k x x is) (all k x (slice_get_within xs k x is))

  got_at : {X : Type 0} (xs : List X) (k : ℕ) (d : X) → k < length xs → (x : X) × (slice_get xs k ≡ Some x)
  got_at [] k d low = absurd (omega (arith, low))
  got_at (x ∷ xs) zero d low = (x, refl)
  got_at (x ∷ xs) (suc k) d low = got_at xs k d (omega (arith, low))

  -- as many pages are due as meet the range and are not clean
  pub as_many_due : (names : List ℕ × List ℕ) (sources : List (StreamSource R)) (olds news : List (Lane R)) (lists : List (List Point)) → AllZip (OpensAs file names) sources olds → All (IsTrueSource file names pages) sources → AreCleaned name kept olds news
      → map (source_all file pages) sources ≡ map Some lists → sum_by (lane_due kept.range) news ≡ sources_read file pages name kept.series.now kept.range kept.marks.now.marks sources
  as_many_due names sources olds news lists opens truth cleaned told =
      sums (lane_due kept.range) (source_read file pages name kept.series.now kept.range kept.marks.now.marks (map (source_hulls file pages) sources)) news sources 0 (cleaned.long ∙ sym (zip_long (OpensAs file names) sources olds opens))
      (λ k lane from b a. let same : k ≡ 0 + k = omega arith in here k lane from b a ∙ ap (λ m. source_read file pages name kept.series.now kept.range kept.marks.now.marks (map (source_hulls file pages) sources) m from) same)
    where
      hulls : map lane_hulls olds ≡ map (source_hulls file pages) sources
      hulls = all_hulls_are file pages names sources olds lists opens truth told

      here : (k : ℕ) (lane : Lane R) (from : StreamSource R) → slice_get news k ≡ Some lane → slice_get sources k ≡ Some from
          → lane_due kept.range lane ≡ source_read file pages name kept.series.now kept.range kept.marks.now.marks (map (source_hulls file pages) sources) k from
      here k lane from b a =
          let old = zip_at (OpensAs file names) sources olds k from opens a in
          let low : k < length olds = slice_get_within olds k old.0 old.1 in
          let list = some_at (source_all file pages) sources lists k from told a in
          let old_is : get_or olds k lane ≡ old.0 = get_or_from_slice_get olds k old.0 lane old.1 in
          let new_is : get_or news k lane ≡ lane = get_or_from_slice_get news k lane lane b in
          let flagged : IsCleaned name kept (others k (map (source_hulls file pages) sources)) old.0 lane =
          subst (λ h. IsCleaned name kept (others k h) old.0 lane) hulls
          (subst (λ z. IsCleaned name kept (others k (map lane_hulls olds)) old.0 z) new_is
          (subst (λ z. IsCleaned name kept (others k (map lane_hulls olds)) z (get_or news k lane)) old_is (cleaned.each k lane low))) in
          one_due file pages name kept names (map (source_hulls file pages) sources) k from old.0 lane list.0 old.2 (all_at (IsTrueSource file names pages) sources k from truth a) list.1 flagged

  module _ (names : List ℕ × List ℕ) (sources : List (StreamSource R)) (olds news : List (Lane R)) (lists : List (List Point)) (opens : AllZip (OpensAs file names) sources olds) (truth : All (IsTrueSource file names pages) sources)
      (cleaned : AreCleaned name kept olds news) (told : map (source_all file pages) sources ≡ map Some lists) (rising : All IsRising lists) where
    seen_at : (k : ℕ) (from : StreamSource R) (lane : Lane R) → slice_get sources k ≡ Some from → slice_get news k ≡ Some lane → IsSeen (others k (map lane_hulls news)) from lane
    seen_at k from lane a b =
        let old = zip_at (OpensAs file names) sources olds k from opens a in
        let low : k < length olds = slice_get_within olds k old.0 old.1 in
        let list = some_at (source_all file pages) sources lists k from told a in
        let old_is : get_or olds k lane ≡ old.0 = get_or_from_slice_get olds k old.0 lane old.1 in
        let new_is : get_or news k lane ≡ lane = get_or_from_slice_get news k lane lane b in
        let flagged : IsCleaned name kept (others k (map lane_hulls news)) old.0 lane =
        subst (λ h. IsCleaned name kept (others k h) old.0 lane) (sym cleaned.hulls)
        (subst (λ z. IsCleaned name kept (others k (map lane_hulls olds)) old.0 z) new_is
        (subst (λ z. IsCleaned name kept (others k (map lane_hulls olds)) z (get_or news k lane)) old_is (cleaned.each k lane low))) in
        one_seen (others k (map lane_hulls news)) names from old.0 lane list.0 old.2 (all_at (IsTrueSource file names pages) sources k from truth a) flagged list.1 (all_at IsRising lists k list.0 rising list.2)

    same_long : length sources ≡ length news
    same_long = zip_long (OpensAs file names) sources olds opens ∙ sym cleaned.long

    abbrev all_views : List View
    all_views = views kept news (map told_of sources)

    map_left : (ss : List (StreamSource R)) (ls : List (Lane R)) → length ss ≡ length ls → ((k : ℕ) (from : StreamSource R) (lane : Lane R) → slice_get ss k ≡ Some from → slice_get ls k ≡ Some lane → lane_points_left file pages (keep_of kept) lane ≡ Some (kept_left (view kept lane (told_of from))))
        → map (lane_points_left file pages (keep_of kept)) ls ≡ map Some (map kept_left (views kept ls (map told_of ss)))
    map_left [] [] long f = refl
    map_left [] (l ∷ ls) long f = absurd (omega (arith, long))
    map_left (s ∷ ss) [] long f = absurd (omega (arith, long))
    map_left (s ∷ ss) (l ∷ ls) long f = ap (λ o. o ∷ map (lane_points_left file pages (keep_of kept)) ls) (f 0 s l refl refl) ∙ ap (λ os. Some (kept_left (view kept l (told_of s))) ∷ os) (map_left ss ls (omega (arith, long)) (λ k a b x y. f (suc k) a b x y))

    map_all : (ss : List (StreamSource R)) (ls : List (Lane R)) → length ss ≡ length ls → ((k : ℕ) (from : StreamSource R) (lane : Lane R) → slice_get ss k ≡ Some from → slice_get ls k ≡ Some lane → source_left file pages (keep_of kept) from ≡ Some (kept_all (view kept lane (told_of from))))
        → map (source_left file pages (keep_of kept)) ss ≡ map Some (map kept_all (views kept ls (map told_of ss)))
    map_all [] [] long f = refl
    map_all [] (l ∷ ls) long f = absurd (omega (arith, long))
    map_all (s ∷ ss) [] long f = absurd (omega (arith, long))
    map_all (s ∷ ss) (l ∷ ls) long f = ap (λ o. o ∷ map (source_left file pages (keep_of kept)) ss) (f 0 s l refl refl) ∙ ap (λ os. Some (kept_all (view kept l (told_of s))) ∷ os) (map_all ss ls (omega (arith, long)) (λ k a b x y. f (suc k) a b x y))

    map_passed : (ss : List (StreamSource R)) (ls : List (Lane R)) → length ss ≡ length ls → ((k : ℕ) (from : StreamSource R) (lane : Lane R) → slice_get ss k ≡ Some from → slice_get ls k ≡ Some lane → lane_passed lane ≡ passed_of (view kept lane (told_of from)))
        → flat_map lane_passed ls ≡ gathered (views kept ls (map told_of ss))
    map_passed [] [] long f = refl
    map_passed [] (l ∷ ls) long f = absurd (omega (arith, long))
    map_passed (s ∷ ss) [] long f = absurd (omega (arith, long))
    map_passed (s ∷ ss) (l ∷ ls) long f = ap (λ o. o ++ flat_map lane_passed ls) (f 0 s l refl refl) ∙ ap (λ os. passed_of (view kept l (told_of s)) ++ os) (map_passed ss ls (omega (arith, long)) (λ k a b x y. f (suc k) a b x y))

    are_open : AreOpen name kept news (map told_of sources)
    are_open k lane list x y =
        let low : k < length sources = (let low = slice_get_within news k lane x in let long = same_long in omega (arith, low, long)) in
        let from = from_at sources k low in
        let is : list ≡ told_of from.0 = some_same list (told_of from.0) (sym y ∙ got_map told_of sources k from.0 from.1) in
        subst (IsOpen name kept (others k (map lane_hulls news)) lane) (sym is) (seen_at k from.0 lane from.1 x).opened
      where
        from_at : (ss : List (StreamSource R)) (k : ℕ) → k < length ss → (s : StreamSource R) × (slice_get ss k ≡ Some s)
        from_at [] k low = absurd (omega (arith, low))
        from_at (s ∷ ss) zero low = (s, refl)
        from_at (s ∷ ss) (suc k) low = from_at ss k (omega (arith, low))

    somes : (xs ys : List (List Point)) → map (λ (x : List Point). Some x) xs ≡ map (λ (x : List Point). Some x) ys → xs ≡ ys
    somes [] [] e = refl
    somes [] (y ∷ ys) e = absurd cc
    somes (x ∷ xs) [] e = absurd cc
    somes (x ∷ xs) (y ∷ ys) e =
        let first : x ≡ y = cc in
        let rest : map (λ (x : List Point). Some x) xs ≡ map (λ (x : List Point). Some x) ys = cc in
        ap (λ z. z ∷ xs) first ∙ ap (λ l. y ∷ l) (somes xs ys rest)

    rising_filters : (test : Point → Bool) (some : List View) → ((v : View) → Among v some → IsRising (all_of v)) → All IsRising (map (filter test) (map kept_all some))
    rising_filters test [] f = All-nil IsRising
    rising_filters test (v ∷ some) f = All-cons IsRising (filter test (kept_all v)) (map (filter test) (map kept_all some))
        (AllPairs-filter (λ (a b : Point). a.time <ℤ b.time) test (kept_all v) (AllPairs-filter (λ (a b : Point). a.time <ℤ b.time) v.keep (all_of v) (f v (inl refl))))
        (rising_filters test some (λ w m. f w (inr m)))

    rising_all : (some : List View) → ((v : View) → Among v some → IsRising (all_of v)) → All IsRising (map kept_all some)
    rising_all [] f = All-nil IsRising
    rising_all (v ∷ some) f = All-cons IsRising (kept_all v) (map kept_all some) (AllPairs-filter (λ (a b : Point). a.time <ℤ b.time) v.keep (all_of v) (f v (inl refl))) (rising_all some (λ w m. f w (inr m)))

    told_merge : (ls : List (List Point)) (o : Option (List Point)) → IsToldMergeOf ls o → (points : List Point) × (o ≡ Some points) × IsMergeOf ls points
    told_merge ls None merge = absurd merge
    told_merge ls (Some points) merge = (points, refl, merge)

    long_views : (ss : List (StreamSource R)) (ls : List (Lane R)) → length ss ≡ length ls → length (views kept ls (map told_of ss)) ≡ length ls
    long_views [] [] long = refl
    long_views [] (l ∷ ls) long = absurd (omega (arith, long))
    long_views (s ∷ ss) [] long = absurd (omega (arith, long))
    long_views (s ∷ ss) (l ∷ ls) long = ap suc (long_views ss ls (omega (arith, long)))

    pub is_parted : (clean : List Stats) (kept_lists : List (List Point)) (left_of : List (Option (List Point)) → Option (List Point)) → IsPermutation (flat_map lane_passed news) clean → AllPairs (λ a b. a.start ≤ℤ b.start) clean
        → map (source_left file pages (keep_of kept)) sources ≡ map Some kept_lists → ((ls : List (List Point)) → length ls ≡ length news → All IsRising ls → IsToldMergeOf ls (left_of (map Some ls)))
        → IsParted kept_lists clean (left_of (map (lane_points_left file pages (keep_of kept)) news))
    is_parted clean kept_lists left_of perm starts is merged =
        let all_sound = sound name kept news (map told_of sources) are_open in
        let rises : (v : View) → Among v all_views → IsRising (all_of v) = λ v m. each_among (λ (v : View). IsRising (all_of v)) all_views v all_sound.rising m in
        let lists_are : map kept_left all_views ≡ map (filter (λ (p : Point). not (covered (gathered all_views) p.time))) (map kept_all all_views) = lists_left all_views all_sound all_views (λ v m. m) in
        let long : length all_views ≡ length news = long_views sources news same_long in
        let whole = told_merge (map kept_all all_views) (left_of (map Some (map kept_all all_views))) (merged (map kept_all all_views) (length-map all_views kept_all ∙ long) (rising_all all_views rises)) in
        let rest = told_merge (map kept_left all_views) (left_of (map Some (map kept_left all_views))) (merged (map kept_left all_views) (length-map all_views kept_left ∙ long) (subst (All IsRising) (sym lists_are) (rising_filters (λ (p : Point). not (covered (gathered all_views) p.time)) all_views rises))) in
        let left_is = map_left sources news same_long (λ k from lane x y. (seen_at k from lane x y).left) in
        let all_is : kept_lists ≡ map kept_all all_views = somes kept_lists (map kept_all all_views) (sym is ∙ map_all sources news same_long (λ k from lane x y. (seen_at k from lane x y).all)) in
        let passed_is = map_passed sources news same_long (λ k from lane x y. (seen_at k from lane x y).passed) in
        let done = parted all_views all_sound clean whole.0 rest.0 (subst (λ l. IsPermutation l clean) passed_is perm) starts whole.2 rest.2 in
        record {
          points = whole.0;
          merge = subst (λ ls. IsMergeOf ls whole.0) (sym all_is) whole.2;
          taken = done.0;
          left_is = ap left_of left_is ∙ rest.1 ∙ ap Some done.1;
        }

-- ---- what was so of the sources is so of them with their flags

module _ {R : Type 0} (file : R → NamedFile) where
  pub flagged_true : (pages : FilePages) (flags : List Bool) (whole : Bool) (old new : Lane R) → IsFlagged flags whole old new → IsTrueLane file pages old → IsTrueLane file pages new
  flagged_true pages flags whole (Pages old) (Pages new) is truth = pages_true file pages new (rw (is.1, is.3) (truth old refl))
  flagged_true pages flags whole (Pages old) (Part new) is truth = absurd is
  flagged_true pages flags whole (Part old) (Pages new) is truth = absurd is
  flagged_true pages flags whole (Part old) (Part new) is truth = part_true file pages new

  pub flagged_told : (pages : FilePages) (flags : List Bool) (whole : Bool) (old new : Lane R) → IsFlagged flags whole old new → IsToldLane file pages old → IsToldLane file pages new
  flagged_told pages flags whole (Pages old) (Pages new) is told = rw is.1 told
  flagged_told pages flags whole (Pages old) (Part new) is told = absurd is
  flagged_told pages flags whole (Part old) (Pages new) is told = absurd is
  flagged_told pages flags whole (Part old) (Part new) is told = tt

  pub flagged_of : (store : Store) (flags : List Bool) (whole : Bool) (old new : Lane R) → IsFlagged flags whole old new → IsLaneOfStore file store old → IsLaneOfStore file store new
  flagged_of store flags whole (Pages old) (Pages new) is of = pages_of_store file store new (ap (λ r. (file r.now).store) is.1 ∙ of old refl)
  flagged_of store flags whole (Pages old) (Part new) is of = absurd is
  flagged_of store flags whole (Part old) (Pages new) is of = absurd is
  flagged_of store flags whole (Part old) (Part new) is of = part_of_store file store new

pub all_cleaned : {R : Type 0} (name : Aggregate) (kept : Kept) (olds news : List (Lane R)) (Q : Lane R → Type 0) → ((flags : List Bool) (whole : Bool) (old new : Lane R) → IsFlagged flags whole old new → Q old → Q new) → AreCleaned name kept olds news → All Q olds → All Q news
all_cleaned name kept olds news Q step cleaned all = λ k d low. let long = cleaned.long in step _ _ (get_or olds k d) (get_or news k d) (cleaned.each k d (omega (arith, low, long))) (all k d (omega (arith, low, long)))

-- ---- statistics that are given answer the aggregate

abbrev IsAsked : Aggregate → Stats → Type 0
IsAsked name stats = IsTrue (has_asked name stats)

picked_asked : (name : Aggregate) (test : PageEntry → Bool) (pages : List PageEntry) → ((page : PageEntry) → test page ≡ true → IsAsked name page.stats) → All (IsAsked name) (picked (map test pages) pages)
picked_asked name test [] asks = All-nil (IsAsked name)
picked_asked name test (page ∷ pages) asks = by (test page) refl (picked_asked name test pages asks)
  where
    by : (b : Bool) → test page ≡ b → All (IsAsked name) (picked (map test pages) pages) → All (IsAsked name) (cond b (page.stats ∷ picked (map test pages) pages) (picked (map test pages) pages))
    by true e rest = All-cons (IsAsked name) page.stats (picked (map test pages) pages) (asks page e) rest
    by false e rest = rest

module _ {R : Type 0} (name : Aggregate) (kept : Kept) where
  lane_asked : (hulls : List (List Range)) (old new : Lane R) → IsCleaned name kept hulls old new → All (IsAsked name) (lane_passed new)
  lane_asked hulls (Pages old) (Pages new) flagged = by new.whole refl
    where
      page_asked : (page : PageEntry) → is_clean_page name kept hulls old.born.0 page ≡ true → IsAsked name page.stats
      page_asked page e = (both (has_asked name page.stats) (is_apart kept.series.now kept.range kept.marks.now.marks hulls old.born.0 (page_times page)) e).0

      by : (whole : Bool) → new.whole ≡ whole → All (IsAsked name) (cond whole (new.entry.stats ∷ []) (picked new.passed.items new.entry.pages))
      by true e =
          let parts = both (all_set (flags_of name kept hulls (Pages old))) (has_asked name old.entry.stats && not (list_any (any_meets (stats_range old.entry.stats)) hulls)) (sym flagged.5 ∙ e) in
          let one = (both (has_asked name old.entry.stats) (not (list_any (any_meets (stats_range old.entry.stats)) hulls)) parts.1).0 in
          All-cons (IsAsked name) new.entry.stats [] (subst (λ (n : IndexEntry). IsAsked name n.stats) (sym flagged.3) one) (All-nil (IsAsked name))
      by false e =
          subst (λ (n : IndexEntry). All (IsAsked name) (picked new.passed.items n.pages)) (sym flagged.3)
          (subst (λ flags. All (IsAsked name) (picked flags old.entry.pages)) (sym flagged.0) (picked_asked name (is_clean_page name kept hulls old.born.0) old.entry.pages page_asked))
  lane_asked hulls (Pages old) (Part new) flagged = absurd flagged
  lane_asked hulls (Part old) (Pages new) flagged = absurd flagged
  lane_asked hulls (Part old) (Part new) flagged = All-nil (IsAsked name)

  flat_asked : (lanes : List (Lane R)) → ((k : ℕ) (lane : Lane R) → slice_get lanes k ≡ Some lane → All (IsAsked name) (lane_passed lane)) → All (IsAsked name) (flat_map lane_passed lanes)
  flat_asked [] each = All-nil (IsAsked name)
  flat_asked (lane ∷ lanes) each = All-append (IsAsked name) (lane_passed lane) (flat_map lane_passed lanes) (each 0 lane refl) (flat_asked lanes (λ k l is. each (suc k) l is))

  -- the statistics of what is passed over, in whatever order, answer the aggregate
  pub all_asked : (olds news : List (Lane R)) (clean : List Stats) → AreCleaned name kept olds news → IsPermutation (flat_map lane_passed news) clean → All (IsAsked name) clean
  all_asked olds news clean cleaned perm = All-permutation (IsAsked name) (flat_map lane_passed news) clean perm (flat_asked news each)
    where
      each : (k : ℕ) (lane : Lane R) → slice_get news k ≡ Some lane → All (IsAsked name) (lane_passed lane)
      each k lane is =
          let low = slice_get_within news k lane is in
          let long = cleaned.long in
          lane_asked (others k (map lane_hulls olds)) (get_or olds k lane) lane
          (subst (λ z. IsCleaned name kept (others k (map lane_hulls olds)) (get_or olds k lane) z) (get_or_from_slice_get news k lane lane is) (cleaned.each k lane (omega (arith, low, long))))
