-- A file that is opened: the pages of a tree's chunk are those of its entry.
use Rattle.std.proofs.Common.{◌≡◌, ℕ, Bool, zero, suc, ◌+◌, List, [], ◌∷◌, ◌++◌, length, map, get_or, Result, Ok, Err, refl, sym, ap, subst, ◌∙◌, arith}
use Rattle.std.specs.Prelude.{◌&&◌, All, Option, None, Some, IfSome, Contains, filter, is_some, option_map, slice_get}
use Rattle.std.specs.Option.{unwrap_or}
use Rattle.std.proofs.lemmas.List.{length-map}
use Rattle.std.proofs.lemmas.List.Elements.{All-contains}
use Rattle.tsdb_base.specs.declared.point.Point.{Point}
use Rattle.tsdb_base.specs.declared.value.Encoding.{Encoding}
use Rattle.std.proofs.lemmas.Option.{get_or_from_slice_get, slice_get_within}
use Rattle.tsdb_streams.proofs.PageFacts.{at_some, some_same, there}
use Rattle.tsdb_stats.specs.Statistics.{AreStatsOf}
use Rattle.tsdb_streams.specs.Files.{FilePages, HasEntryPages, HasPages, IsSeriesChunk, IsTold, IsTruth, sums_in}
use Rattle.tsdb_streams.specs.Lanes.{ArePagesOf, IsLaneOfStore, IsTrueLane}
use Rattle.tsdb_streams.specs.declared.lane.Lane.TheVariants.{Pages, Part}
use Rattle.tsdb_streams.specs.declared.lane.PageLane.{PageLane}
use Rattle.tsdb_streams.specs.declared.lane.PartLane.{PartLane}
use Rattle.tsdb_index.specs.Entries.{names_of}
use Rattle.tsdb_index.specs.declared.index.IndexEntry.{IndexEntry}
use Rattle.tsdb_index.specs.declared.index.PageEntry.{PageEntry}
use Rattle.tsdb_index.specs.Versions.{has_sums}
use Rattle.tsdb_model.specs.Folds.{sum_of}
use Rattle.tsdb_outside.specs.Files.{NamedFile, Store}
use Rattle.tsdb_pages.specs.File.{ArePageEntries, HasSum, HasSums, IsChunkEntry, IsFile, page_field, version_in}
use Rattle.tsdb_pages.proofs.Statistics.{sum_there}
use Rattle.tsdb_pages.specs.Places.{HasPlaces}
use Rattle.tsdb_pages.specs.Pages.{ArePoints}
use Rattle.tsdb_pages.specs.Trees.{IsMade, IsTree, page_points}
use Rattle.tsdb_pages.specs.declared.tree.Chunk.{Chunk}
use Rattle.tsdb_pages.specs.declared.tree.Group.{Group}
use Rattle.tsdb_pages.specs.declared.tree.Page.{Page}
use Rattle.tsdb_pages.specs.declared.tree.Tree.{Tree}
use Rattle.tsdb_pages.proofs.Places.{entries_stand}
use Rattle.tsdb_streams.specs.Pieces.{joined}
use Rattle.tsfile_reader.proofs.OfTree.{one_page_there, page_stands}
use Rattle.tsfile_reader.specs.Answers.{IsNotDamaged}
use Rattle.tsfile_reader.specs.LookUp.{IsEntryInTree}
use Rattle.tsfile_reader.specs.Page.{HasNoPage, HasPage, IsEntryOf}
use Rattle.tsfile_reader.specs.declared.fault.ReadFault.{ReadFault}

-- as many pages as entries
same_count : (encoding : Encoding) (place : ℕ) (pages : List Page) (entries : List PageEntry) → ArePageEntries encoding place pages entries → length pages ≡ length entries
same_count encoding place [] [] are = refl
same_count encoding place [] (e ∷ es) are = absurd are
same_count encoding place (p ∷ ps) [] are = absurd are
same_count encoding place (p ∷ ps) (e ∷ es) are = ap suc (same_count encoding (place + length (page_field encoding p)) ps es are.1)

pub got_map : {X Y : Type 0} (f : X → Y) (xs : List X) (k : ℕ) (x : X) → slice_get xs k ≡ Some x → slice_get (map f xs) k ≡ Some (f x)
got_map f [] k x e = absurd cc
got_map f (y ∷ xs) zero x e = let same : y ≡ x = cc in ap (λ z. Some (f z)) same
got_map f (y ∷ xs) (suc k) x e = got_map f xs k x e

-- the chunk that an entry of these names speaks of is the series'
chunk_of : (tree : Tree) (names : List ℕ × List ℕ) (entry : IndexEntry) (group : Group) (chunk : Chunk) → names_of entry ≡ names → Contains tree.groups group → Contains group.chunks chunk → IsChunkEntry group.device entry.place chunk entry
    → IsSeriesChunk tree names chunk
chunk_of tree names entry group chunk named in_tree in_group says = record {
  group = group;
  in_tree = in_tree;
  in_group = in_group;
  device = sym says.device_is ∙ ap (λ (n : List ℕ × List ℕ). n.0) named;
  measurement = sym says.measurement_is ∙ ap (λ (n : List ℕ × List ℕ). n.1) named;
}

-- a caller tells the pages of the entry that was found
entry_pages : (names : List ℕ × List ℕ) (name : NamedFile) (entry : IndexEntry) (list : List (List Point)) (h : HasPages names name list) → IsEntryOf h.tree entry → names_of entry ≡ names → HasSums (version_in h.bytes) entry → HasEntryPages entry name list
entry_pages names name entry list h of named sums = (
  rw h.told refl,
  ap length (h.pages_are.of_chunk place.chunk (chunk_of h.tree names entry place.group place.chunk named place.in_tree place.in_group place.says))
      ∙ length-map place.chunk.pages (λ (page : Page). page.points) ∙ same_count _ _ place.chunk.pages entry.pages place.says.pages,
  λ number said points says got.
      let st = page_stands h.tree h.bytes entry number said h.is h.made h.file of says in
      let all = h.pages_are.of_chunk st.chunk (chunk_of h.tree names entry st.group st.chunk named st.in_tree st.in_group st.says) in
      let here = got_map (λ (page : Page). page.points) st.chunk.pages number st.page st.page_is in
      let same : points ≡ st.page.points = some_same (slice_get list number) points st.page.points got (ap (λ l. slice_get l number) all ∙ here) in (
        rw same st.stands.within,
        λ bytes e.
            let b : bytes ≡ h.bytes = some_same name.bytes bytes h.bytes e h.told in (
              λ read has. one_page_there entry.data_type entry.encoding _ (record { points = read }) (record { points = st.page.points }) (subst (λ bs. HasPage bs entry said read) b has).stands st.stands.stands ∙ sym same,
              λ none. subst (λ bs. HasNoPage bs entry said) b none st.page.points st.stands,
            ),
        stats_of number said points says got,
        sum_of_page number said points says (subst (ArePoints entry.data_type) (sym same) st.stands.stands.good.0),
      ),
  subst (λ (q : List Point). AreStatsOf q entry.stats) (sym all_points) place.says.stats,
)
  where
    place : HasPlaces h.tree h.bytes entry
    place = All-contains (HasPlaces h.tree h.bytes) of.entries entry (entries_stand h.tree h.bytes of.entries h.file of.say) of.there

    -- a page has a sum where the file has sums and its points are numbers
    sum_of_page : (number : ℕ) (said : PageEntry) (points : List Point) → slice_get entry.pages number ≡ Some said → ArePoints entry.data_type points
        → is_some said.stats.sum ≡ (sums_in name && is_some (sum_of points))
    sum_of_page number said points says are =
        let low = slice_get_within entry.pages number said says in
        let at = get_or_from_slice_get entry.pages number said said says in
        subst (λ (e : PageEntry). HasSum (version_in h.bytes) entry.data_type e.stats) at (sums.pages number said low)
        ∙ ap (λ b. has_sums (version_in h.bytes) && b) (sym (sum_there entry.data_type points are))
        ∙ ap (λ o. has_sums (version_in (unwrap_or o [])) && is_some (sum_of points)) (sym h.told)

    joined_points : (pages : List Page) → joined (map (λ (page : Page). page.points) pages) ≡ page_points pages
    joined_points [] = refl
    joined_points (page ∷ pages) = ap (λ l. page.points ++ l) (joined_points pages)

    all_points : joined list ≡ page_points place.chunk.pages
    all_points =
        ap joined (h.pages_are.of_chunk place.chunk (chunk_of h.tree names entry place.group place.chunk named place.in_tree place.in_group place.says))
        ∙ joined_points place.chunk.pages

    stats_of : (number : ℕ) (said : PageEntry) (points : List Point) → slice_get entry.pages number ≡ Some said → slice_get list number ≡ Some points → AreStatsOf points said.stats
    stats_of number said points says got =
        let low = slice_get_within entry.pages number said says in
        let count = place.count in
        let found = there place.chunk.pages number (omega (arith, low, count)) in
        let all = h.pages_are.of_chunk place.chunk (chunk_of h.tree names entry place.group place.chunk named place.in_tree place.in_group place.says) in
        let same : points ≡ found.0.points = some_same (slice_get list number) points found.0.points got (ap (λ l. slice_get l number) all ∙ got_map (λ (page : Page). page.points) place.chunk.pages number found.0 found.1) in
        let at_page = get_or_from_slice_get place.chunk.pages number found.0 found.0 found.1 in
        let at_said = get_or_from_slice_get entry.pages number said said says in
        subst (λ (q : List Point). AreStatsOf q said.stats) (sym same)
        (subst (λ (q : Page). AreStatsOf q.points said.stats) at_page
        (subst (λ (e : PageEntry). AreStatsOf (get_or place.chunk.pages number found.0).points e.stats) at_said (place.pages number found.0 said low).stats))

module _ (pages : FilePages) (names : List ℕ × List ℕ) (name : NamedFile) (truth : IsTruth names pages name) where
  -- what a caller tells of the file
  told_truth : (list : List (List Point)) → pages name.number ≡ Some list → HasPages names name list
  told_truth list e = at_some (pages name.number) list (HasPages names name) e truth

  abbrev pub Finds : {T : Type 0} → Result T ReadFault → (List ℕ → Tree → Type 0) → Type 0
  Finds result P = IfSome name.bytes (λ bytes. (tree : Tree) → IsTree tree → IsMade tree → IsFile tree bytes → IsNotDamaged result × P bytes tree)

  found_in : {T : Type 0} (result : Result T ReadFault) (P : List ℕ → Tree → Type 0) (list : List (List Point)) (e : pages name.number ≡ Some list) → Finds result P → IsNotDamaged result × P (told_truth list e).bytes (told_truth list e).tree
  found_in result P list e finds =
      let h = told_truth list e in
      at_some name.bytes h.bytes (λ bytes. (tree : Tree) → IsTree tree → IsMade tree → IsFile tree bytes → IsNotDamaged result × P bytes tree) h.told finds h.tree h.is h.made h.file

  -- an entry was found
  pub found_entry : (found : Option IndexEntry) (entry : IndexEntry) → found ≡ Some entry → Finds (Ok found) (λ bytes tree. IsEntryInTree (version_in bytes) tree names found) → (list : List (List Point)) → pages name.number ≡ Some list
      → HasEntryPages entry name list
  found_entry found entry is finds list e =
      let h = told_truth list e in
      let in_tree : IsEntryInTree (version_in h.bytes) h.tree names (Some entry) =
      subst (IsEntryInTree (version_in h.bytes) h.tree names) is (found_in (Ok found) (λ bytes tree. IsEntryInTree (version_in bytes) tree names found) list e finds).1 in
      entry_pages names name entry list h in_tree.0 in_tree.1 in_tree.2

  -- no entry was found
  pub found_none : (found : Option IndexEntry) → found ≡ None → Finds (Ok found) (λ bytes tree. IsEntryInTree (version_in bytes) tree names found) → (list : List (List Point)) → pages name.number ≡ Some list → list ≡ []
  found_none found is finds list e =
      let h = told_truth list e in
      let none : IsEntryInTree (version_in h.bytes) h.tree names None =
      subst (IsEntryInTree (version_in h.bytes) h.tree names) is (found_in (Ok found) (λ bytes tree. IsEntryInTree (version_in bytes) tree names found) list e finds).1 in
      h.pages_are.none (λ chunk is. none is.group chunk is.in_tree is.in_group is.device is.measurement)

  -- the index of a file of which a caller tells is not damaged
  pub undamaged_index : (T : Type 0) (fault : ReadFault) (P : List ℕ → Tree → Type 0) → Finds {T = T} (Err fault) P → IsTold pages name → (bytes : List ℕ) → name.bytes ≡ Some bytes → IsNotDamaged {T = T} (Err fault)
  undamaged_index T fault P finds told bytes e =
      let list = told bytes e in
      (found_in {T = T} (Err fault) P list.0 list.1 finds).0

-- the lane of the pages of an entry
pub pages_true : {R : Type 0} (file : R → NamedFile) (pages : FilePages) (lane : PageLane R) → ArePagesOf file pages lane → IsTrueLane file pages (Pages lane)
pages_true file pages lane are page e = let same : lane ≡ page = cc in subst (λ l. ArePagesOf file pages l) same are

pub pages_of_store : {R : Type 0} (file : R → NamedFile) (store : Store) (lane : PageLane R) → (file lane.right.now).store ≡ store → IsLaneOfStore file store (Pages lane)
pages_of_store file store lane of page e = let same : lane ≡ page = cc in subst (λ (l : PageLane _). (file l.right.now).store ≡ store) same of

-- a part has no file
pub part_of_store : {R : Type 0} (file : R → NamedFile) (store : Store) (part : PartLane) → IsLaneOfStore file store (Part part)
part_of_store file store part page e = absurd cc

pub part_true : {R : Type 0} (file : R → NamedFile) (pages : FilePages) (part : PartLane) → IsTrueLane file pages (Part part)
part_true file pages part page e = absurd cc

-- a source without pages
pub no_points : (told : Option (List (List Point))) (test : Point → Bool) (points : List Point) → ((list : List (List Point)) → told ≡ Some list → list ≡ []) → option_map (λ list. filter test (joined list)) told ≡ Some points → Some [] ≡ Some points
no_points None test points none e = absurd (none_some points e)
  where
    none_some : (points : List Point) → None ≡ Some points → ⊥
    none_some points e = cc
no_points (Some list) test points none e = ap (λ l. Some (filter test (joined l))) (sym (none list refl)) ∙ e
