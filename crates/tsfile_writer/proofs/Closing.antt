-- A series that is whole, the series behind it, and the file of all.
use Rattle.std.proofs.Common.{◌≡◌, ℕ, ◌+◌, ◌<◌, ◌≤◌, true, false, List, [], ◌∷◌, ◌++◌, length, map, ◌⊎◌, inl, inr, refl, sym, ap, ◌∙◌, subst, append_assoc, arith}
use Rattle.std.specs.Prelude.{All, AllPairs, Bool, Option, None, Some}
use Rattle.std.specs.Cmp.Lexicographic.{slice_cmp}
use Rattle.std.specs.declared.cmp.Ordering.TheVariants.{Equal, Less}
use Rattle.std.specs.Ordering.{nat_cmp}
use Rattle.std.proofs.lemmas.Cmp.{nat_list_cmp_total, tied_itself}
use Rattle.std.proofs.lemmas.List.{append-nil, length-append}
use Rattle.std.proofs.lemmas.List.Elements.{All-nil, All-push}
use Rattle.tsdb_base.specs.declared.point.Point.{Point}
use Rattle.tsdb_base.specs.declared.value.DataType.{DataType}
use Rattle.tsdb_base.specs.declared.value.Encoding.{Encoding}
use Rattle.tsdb_base.specs.Fields.{number64}
use Rattle.tsdb_base.specs.Limits.{max_entries, max_pages, max_values}
use Rattle.tsdb_base.specs.Values.{is_suitable, type_of}
use Rattle.tsdb_path.specs.Nodes.{IsPath, device_of, measurement_of, node_count}
use Rattle.tsdb_path.proofs.Parts.{IsName-measurement_of, IsPath-device_of}
use Rattle.tsdb_index.specs.declared.index.IndexEntry.{IndexEntry}
use Rattle.tsdb_path.specs.Order.{AreNamesBefore}
use Rattle.tsdb_index.specs.declared.marks.TheConstants.{VERSION}
use Rattle.tsdb_index.specs.Spelling.{IsIndexSpelling}
use Rattle.tsdb_pages.specs.declared.tree.Page.{Page}
use Rattle.tsdb_pages.specs.declared.tree.Chunk.{Chunk}
use Rattle.tsdb_pages.specs.declared.tree.Group.{Group}
use Rattle.tsdb_pages.specs.declared.tree.Tree.{Tree}
use Rattle.tsdb_pages.specs.File.{IsFileIn, group_start, head, magic}
use Rattle.tsdb_base.specs.Points.{IsRising}
use Rattle.tsdb_pages.specs.Pages.{ArePoints, IsInRange}
use Rattle.tsdb_pages.specs.Trees.{IsBefore, IsChunk, IsGroup, IsMade, chunks_of, page_points}
use Rattle.tsfile_writer.specs.declared.layout.OpenChunk.{OpenChunk}
use Rattle.tsfile_writer.specs.BuilderInput.{AreChunksOf, IsChunkOf, IsMadeSeries, IsTreeOf, MayBeFollowedBy, GivenSeries, placed, given_series}
use Rattle.tsfile_writer.specs.Steps.{AreChunks, AreGroupsWritten, start_if}
use Rattle.tsfile_writer.specs.Building.{AreClosed, AreGrouped, BeginsGroup, BuildState, IsOpenOf, PutsIn}
use Rattle.tsdb_pages.proofs.Entries.{flat_push}
use Rattle.tsfile_writer.proofs.Appending.{IsEntryOf, chunk_ended, count_entries, file_made, group_begun, group_ended, no_groups}
use Rattle.tsdb_pages.proofs.Order.{pairs_push}
use Rattle.tsfile_writer.proofs.Grouping.{before_through, chunks_of_push, filled_push, one_group, placed_push, same_ends}
use Rattle.tsfile_writer.proofs.Made.{tree_made}
use Rattle.tsfile_writer.proofs.Waiting.{are_points, put_few, put_stands}

-- ---- a chunk is whole

-- the chunk of these pages
abbrev chunk_of : List ℕ → DataType → Encoding → List Page → Chunk
chunk_of path data_type encoding pages = record { measurement = measurement_of path; data_type = data_type; encoding = encoding; pages = pages }

-- the points of all pages, with those that waited
all_points : (series : GivenSeries) (pages : List Page) (page : Page) (path : List ℕ) (data_type : DataType) (encoding : Encoding) (points : List Point) → IsOpenOf series pages path data_type encoding points → page.points ≡ points → page_points (pages ++ page ∷ []) ≡ series.points
all_points series pages page path data_type encoding points is same =
    flat_push (λ (p : Page). p.points) pages page ∙ ap (λ (ps : List Point). page_points pages ++ ps) same ∙ sym is.points_are

is_chunk : (series : GivenSeries) (pages : List Page) (page : Page) (path : List ℕ) (data_type : DataType) (encoding : Encoding) (points : List Point)
    → IsOpenOf series pages path data_type encoding points → 0 < length points → page.points ≡ points → length (pages ++ page ∷ []) ≤ max_pages → IsChunk (chunk_of path data_type encoding (pages ++ page ∷ []))
is_chunk series pages page path data_type encoding points is some same few =
    let n = length-append pages (page ∷ []) in
    record {
      suits = is.suits;
      some = omega (arith, n);
      few = few;
      pages = All-push (λ (p : Page). ArePoints data_type p.points) pages page is.good (subst (ArePoints data_type) (sym same) (are_points series pages path data_type encoding points is some));
      rising = subst IsRising (sym (all_points series pages page path data_type encoding points is same)) is.rising;
    }

is_chunk_of : (series : GivenSeries) (pages : List Page) (page : Page) (path : List ℕ) (data_type : DataType) (encoding : Encoding) (points : List Point)
    → IsOpenOf series pages path data_type encoding points → 0 < length points → page.points ≡ points → IsChunkOf series (chunk_of path data_type encoding (pages ++ page ∷ []))
is_chunk_of series pages page path data_type encoding points is some same = record {
  measurement_is = sym is.measurement_is;
  type_is = sym is.type_is;
  encoding_is = sym is.encoding_is;
  filled = filled_push pages page is.full (subst (λ (ps : List Point). 0 < length ps) (sym same) some) (subst (λ (ps : List Point). length ps ≤ max_values) (sym same) is.few);
  points_are = all_points series pages page path data_type encoding points is same;
}

pub series_closed : (given : List GivenSeries) (page : Page) (old new : List ℕ) (before after : List IndexEntry) (path : List ℕ) (data_type : DataType) (encoding : Encoding) (chunk : Option OpenChunk) (whole : OpenChunk) (points : List Point) (entry : IndexEntry)
    → BuildState given old before path data_type encoding chunk points → 0 < length points → page.points ≡ points → PutsIn path data_type encoding points before old new chunk (Some whole)
    → IsEntryOf (device_of path) (measurement_of path) data_type encoding whole entry → after ≡ before ++ entry ∷ [] → length before < max_entries → AreClosed given (device_of path) (measurement_of path) new after
series_closed given page old new before after path data_type encoding chunk whole points entry state some same puts is added room =
    let few_pages = put_few state.groups state.chunks state.pages page path data_type encoding points old new before chunk (Some whole) same state.stand puts in
    let stand = put_stands state.groups state.chunks state.pages page path data_type encoding points old new before chunk (Some whole) same state.stand puts in
    let last = chunk_of path data_type encoding (state.pages ++ page ∷ []) in
    let here = is_chunk state.last state.pages page path data_type encoding points state.is some same few_pages in
    let device = device_of path in
    let n : length after ≡ length before + 1 = ap length added ∙ length-append before (entry ∷ []) in
    let size = length-append state.chunks (last ∷ []) in
    record {
      groups = state.groups;
      chunks = state.chunks ++ last ∷ [];
      grouped = record {
        of = subst (λ (s : List GivenSeries). AreChunksOf s (placed state.groups ++ map (λ (c : Chunk). (device, c)) (state.chunks ++ last ∷ []))) (sym state.all)
            (subst (AreChunksOf (state.front ++ state.last ∷ []))
            (append_assoc (placed state.groups) (map (λ (c : Chunk). (device, c)) state.chunks) ((device, last) ∷ []) ∙ ap (λ (l : List (List ℕ × Chunk)). placed state.groups ++ l) (sym (one_group device state.chunks last)))
            (chunks_of_push state.front (placed state.groups ++ map (λ (c : Chunk). (device, c)) state.chunks) state.last device last state.grouped.of (sym state.is.device_is)
            (is_chunk_of state.last state.pages page path data_type encoding points state.is some same)));
        groups_good = state.grouped.groups_good;
        groups_rising = state.grouped.groups_rising;
        groups_before = state.grouped.groups_before;
        chunks_good = All-push IsChunk state.chunks last state.grouped.chunks_good here;
        chunks_rising = pairs_push (λ (a b : Chunk). IsBefore a.measurement b.measurement) state.chunks last state.grouped.chunks_rising state.chunks_before;
      };
      some = omega (arith, size);
      before = λ next less. All-push (λ (c : Chunk). IsBefore c.measurement next) state.chunks last (λ k d lt. before_through _ (measurement_of path) next (state.chunks_before k d lt) less) less;
      layout = chunk_ended state.groups device state.chunks last new before after whole entry stand.1 is added;
      few = omega (arith, n, room);
      front = before;
      entry = entry;
      last = added;
      device_is = is.device_is;
      made = state.made;
    }

-- ---- the group of the last device

abbrev group_of : List ℕ → List Chunk → Group
group_of device chunks = record { device = device; chunks = chunks }

-- all groups, the last of this device
record AreAll (given : List GivenSeries) (device : List ℕ) (bytes : List ℕ) (entries : List IndexEntry) (groups : List Group) : Type 0 where
  of : AreChunksOf given (placed groups)
  some : 0 < length groups
  good : All IsGroup groups
  rising : AllPairs (λ a b. IsBefore a.device b.device) groups
  before : (next : List ℕ) → IsBefore device next → All (λ group. IsBefore group.device next) groups
  layout : AreGroupsWritten groups bytes entries

all_groups : (given : List GivenSeries) (device measurement : List ℕ) (bytes : List ℕ) (entries : List IndexEntry) (closed : AreClosed given device measurement bytes entries)
    → AreAll given device bytes entries (closed.groups ++ group_of device closed.chunks ∷ [])
all_groups given device measurement bytes entries closed =
    let group = group_of device closed.chunks in
    let good : IsGroup (group_of device closed.chunks) = record { some = closed.some; chunks = closed.grouped.chunks_good; rising = closed.grouped.chunks_rising } in
    let n = length-append closed.groups (group ∷ []) in
    record {
      of = subst (AreChunksOf given) (sym (placed_push closed.groups group)) closed.grouped.of;
      some = omega (arith, n);
      good = All-push IsGroup closed.groups group closed.grouped.groups_good good;
      rising = pairs_push (λ (a b : Group). IsBefore a.device b.device) closed.groups group closed.grouped.groups_rising closed.grouped.groups_before;
      before = λ next less. All-push (λ (g : Group). IsBefore g.device next) closed.groups group (λ k d lt. before_through _ device next (closed.grouped.groups_before k d lt) less) less;
      layout = group_ended closed.groups group bytes entries closed.layout;
    }

-- ---- a series begins

begun : (path : List ℕ) (data_type : DataType) (encoding : Encoding) → 2 ≤ node_count path → is_suitable data_type encoding ≡ true → IsOpenOf (given_series path data_type encoding) [] path data_type encoding []
begun path data_type encoding nodes suits = record {
  nodes = nodes;
  device_is = refl;
  measurement_is = refl;
  type_is = refl;
  encoding_is = refl;
  suits = suits;
  points_are = refl;
  full = All-nil (λ (p : Page). length p.points ≡ max_values);
  good = All-nil (λ (p : Page). ArePoints data_type p.points);
  few_pages = omega arith;
  few = omega arith;
  typed = All-nil (λ (p : Point). type_of p.value ≡ data_type);
  rising = λ i j d lt within. absurd (omega arith);
  ahead = λ none. refl;
}

-- a series that is begun is as its types say, where its path is one
made_begun : (path : List ℕ) (data_type : DataType) (encoding : Encoding) → 2 ≤ node_count path → IsPath path → IsMadeSeries (given_series path data_type encoding)
made_begun path data_type encoding nodes path_is = record {
  device = IsPath-device_of path path_is nodes;
  measurement = IsName-measurement_of path path_is nodes;
  points = All-nil IsInRange;
}

no_pairs : {A : Type 0} (R : A → A → Type 0) → AllPairs R []
no_pairs R i j d lt within = absurd (omega arith)

not_itself : (a : List ℕ) → IsBefore a a → ⊥
not_itself a less =
    let tied : slice_cmp nat_cmp a a ≡ Equal = tied_itself nat_list_cmp_total a in
    let none : Less ≡ Equal = sym less ∙ tied in
    absurd cc

pub first_begun : (bytes : List ℕ) (entries : List IndexEntry) (path : List ℕ) (data_type : DataType) (encoding : Encoding) → bytes ≡ head VERSION → entries ≡ [] → 2 ≤ node_count path → is_suitable data_type encoding ≡ true → IsPath path
    → BuildState (given_series path data_type encoding ∷ []) bytes entries path data_type encoding None []
first_begun bytes entries path data_type encoding is none nodes suits path_is = record {
  front = [];
  last = given_series path data_type encoding;
  all = refl;
  pages = [];
  is = begun path data_type encoding nodes suits;
  groups = [];
  chunks = [];
  grouped = record {
    of = tt;
    groups_good = All-nil IsGroup;
    groups_rising = no_pairs (λ (a b : Group). IsBefore a.device b.device);
    groups_before = All-nil (λ (g : Group). IsBefore g.device (device_of path));
    chunks_good = All-nil IsChunk;
    chunks_rising = no_pairs (λ (a b : Chunk). IsBefore a.measurement b.measurement);
  };
  chunks_before = All-nil (λ (c : Chunk). IsBefore c.measurement (measurement_of path));
  few = let n : length entries ≡ 0 = ap length none in omega (arith, n);
  stand = (refl, stand);
  made = All-push IsMadeSeries [] (given_series path data_type encoding) (All-nil IsMadeSeries) (made_begun path data_type encoding nodes path_is);
}
  where
    stand : (begins : Bool) → BeginsGroup entries (device_of path) begins → AreChunks [] (device_of path) [] (bytes ++ start_if begins (device_of path)) entries
    stand true test = group_begun [] (device_of path) bytes (bytes ++ group_start (device_of path)) entries (no_groups bytes entries is none) refl
    stand false test =
        let n : length entries ≡ 0 = ap length none in
        let m : length entries ≡ length test.0 + 1 = ap length test.2 ∙ length-append test.0 (test.1 ∷ []) in
        absurd (omega (arith, n, m))

pub next_begun : (given : List GivenSeries) (device measurement : List ℕ) (bytes : List ℕ) (entries : List IndexEntry) (path : List ℕ) (data_type : DataType) (encoding : Encoding) → AreClosed given device measurement bytes entries
    → 2 ≤ node_count path → is_suitable data_type encoding ≡ true → IsPath path → AreNamesBefore (device, measurement) (device_of path, measurement_of path) → BuildState (given ++ given_series path data_type encoding ∷ []) bytes entries path data_type encoding None []
next_begun given device measurement bytes entries path data_type encoding closed nodes suits path_is (inl less) =
    let all = all_groups given device measurement bytes entries closed in
    let groups = closed.groups ++ group_of device closed.chunks ∷ [] in
    record {
      front = given;
      last = given_series path data_type encoding;
      all = refl;
      pages = [];
      is = begun path data_type encoding nodes suits;
      groups = groups;
      chunks = [];
      grouped = record {
        of = subst (AreChunksOf given) (sym (append-nil (placed groups))) all.of;
        groups_good = all.good;
        groups_rising = all.rising;
        groups_before = all.before (device_of path) less;
        chunks_good = All-nil IsChunk;
        chunks_rising = no_pairs (λ (a b : Chunk). IsBefore a.measurement b.measurement);
      };
      chunks_before = All-nil (λ (c : Chunk). IsBefore c.measurement (measurement_of path));
      few = closed.few;
      stand = (refl, stand closed less groups all.layout);
      made = All-push IsMadeSeries given (given_series path data_type encoding) closed.made (made_begun path data_type encoding nodes path_is);
    }
  where
    stand : (closed : AreClosed given device measurement bytes entries) → IsBefore device (device_of path) → (groups : List Group) → AreGroupsWritten groups bytes entries
        → (begins : Bool) → BeginsGroup entries (device_of path) begins → AreChunks groups (device_of path) [] (bytes ++ start_if begins (device_of path)) entries
    stand closed less groups layout true test = group_begun groups (device_of path) bytes (bytes ++ group_start (device_of path)) entries layout refl
    stand closed less groups layout false test =
        let same : test.1 ≡ closed.entry = (same_ends test.0 closed.front test.1 closed.entry (sym test.2 ∙ closed.last)).1 in
        let devices : device ≡ device_of path = sym closed.device_is ∙ ap (λ (e : IndexEntry). e.device) (sym same) ∙ test.3 in
        absurd (not_itself device (subst (IsBefore device) (sym devices) less))
next_begun given device measurement bytes entries path data_type encoding closed nodes suits path_is (inr also) = record {
  front = given;
  last = given_series path data_type encoding;
  all = refl;
  pages = [];
  is = begun path data_type encoding nodes suits;
  groups = closed.groups;
  chunks = closed.chunks;
  grouped = subst (λ (d : List ℕ). AreGrouped given closed.groups d closed.chunks) also.0 closed.grouped;
  chunks_before = closed.before (measurement_of path) also.1;
  few = closed.few;
  stand = (refl, stand closed also.0);
  made = All-push IsMadeSeries given (given_series path data_type encoding) closed.made (made_begun path data_type encoding nodes path_is);
}
  where
    stand : (closed : AreClosed given device measurement bytes entries) → device ≡ device_of path → (begins : Bool) → BeginsGroup entries (device_of path) begins
        → AreChunks closed.groups (device_of path) closed.chunks (bytes ++ start_if begins (device_of path)) entries
    stand closed same true test = absurd (test closed.front closed.entry closed.last (closed.device_is ∙ same))
    stand closed same false test =
        subst (λ (l : List ℕ). AreChunks closed.groups (device_of path) closed.chunks l entries) (sym (append-nil bytes)) (subst (λ (d : List ℕ). AreChunks closed.groups d closed.chunks bytes entries) same closed.layout)

-- the names of the last series come before those that may follow it
pub names_before : (bytes : List ℕ) (entries : List IndexEntry) (path : List ℕ) (data_type : DataType) (encoding : Encoding) (chunk : Option OpenChunk) (points : List Point) (device measurement : List ℕ)
    → BuildState [] bytes entries path data_type encoding chunk points ⊎ ((front : List GivenSeries) × (last : GivenSeries) × BuildState (front ++ last ∷ []) bytes entries path data_type encoding chunk points × MayBeFollowedBy device measurement last)
    → AreNamesBefore (device_of path, measurement_of path) (device, measurement)
names_before bytes entries path data_type encoding chunk points device measurement (inl state) =
    let n : 0 ≡ length state.front + 1 = ap length state.all ∙ length-append state.front (state.last ∷ []) in
    absurd (omega (arith, n))
names_before bytes entries path data_type encoding chunk points device measurement (inr given) =
    let state = given.2 in
    let same : given.1 ≡ state.last = (same_ends given.0 state.front given.1 state.last state.all).1 in
    subst (λ (d : List ℕ). AreNamesBefore (d, measurement_of path) (device, measurement)) (ap (λ (s : GivenSeries). s.device) same ∙ state.is.device_is)
    (subst (λ (m : List ℕ). AreNamesBefore (given.1.device, m) (device, measurement)) (ap (λ (s : GivenSeries). s.measurement) same ∙ state.is.measurement_is) given.3.before)

-- ---- the file

pub file_whole : (given : List GivenSeries) (device measurement : List ℕ) (bytes file index_bytes : List ℕ) (root : ℕ) (entries : List IndexEntry) → AreClosed given device measurement bytes entries
    → IsIndexSpelling (length bytes) root entries index_bytes → file ≡ bytes ++ index_bytes ++ number64 root ++ magic → (tree : Tree) × IsTreeOf given tree × IsFileIn VERSION tree file × IsMade tree
file_whole given device measurement bytes file index_bytes root entries closed index_is is =
    let all = all_groups given device measurement bytes entries closed in
    let groups = closed.groups ++ group_of device closed.chunks ∷ [] in
    let n : length entries ≡ length (chunks_of (closed.groups ++ group_of device closed.chunks ∷ [])) = count_entries groups bytes entries all.layout in
    let few = subst (λ k. k ≤ max_entries) n closed.few in
    let tree : Tree = record { groups = groups } in
    let of : IsTreeOf given tree = record { is_tree = record { some = all.some; few = few; groups = all.good; rising = all.rising }; chunks = all.of } in
    (tree, of, file_made tree bytes file index_bytes root entries all.layout index_is is, tree_made given tree closed.made of)
