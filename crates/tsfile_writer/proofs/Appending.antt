-- Pages, chunks and groups appended one behind another.
use Rattle.std.proofs.Common.{◌≡◌, inr, ℕ, ◌+◌, ◌-◌, ◌<◌, ◌≤◌, List, [], ◌∷◌, ◌++◌, length, take, drop, get_or, Ok, Err, refl, sym, ap, ◌∙◌, subst, append_assoc, arith}
use Rattle.std.specs.Prelude.{All, IfOk, OnErr, Result, is_some}
use Rattle.std.specs.List.{flat_map}
use Rattle.std.proofs.lemmas.List.{append-nil, length-append, length-drop, take-append-drop, take_all, take_more}
use Rattle.std.proofs.lemmas.List.Elements.{All-head, All-nil, All-push}
use Rattle.tsdb_base.specs.declared.point.Point.{Point}
use Rattle.tsdb_base.specs.declared.point.Stats.{Stats}
use Rattle.tsdb_base.specs.declared.value.DataType.{DataType}
use Rattle.tsdb_base.specs.declared.value.Encoding.{Encoding}
use Rattle.tsdb_base.specs.Fields.{number64}
use Rattle.tsdb_index.specs.declared.index.IndexEntry.{IndexEntry}
use Rattle.tsdb_index.specs.declared.index.PageEntry.{PageEntry}
use Rattle.tsdb_index.specs.declared.marks.TheConstants.{VERSION}
use Rattle.tsdb_index.specs.Spelling as index
use Rattle.tsdb_index.specs.Statistics.{is_numeric}
use Rattle.tsdb_pages.specs.declared.tree.Page.{Page}
use Rattle.tsdb_pages.specs.declared.tree.Chunk.{Chunk}
use Rattle.tsdb_pages.specs.declared.tree.Group.{Group}
use Rattle.tsdb_pages.specs.declared.tree.Tree.{Tree}
use Rattle.tsdb_pages.specs.File.{AreEntries, ArePageEntries, HasSum, HasSums, IsChunkEntry, IsFile, IsFileIn, IsPageEntry, chunk_field, chunk_start, group_field, group_head, group_start, head, head_length, magic, page_bytes, page_field}
use Rattle.tsdb_pages.specs.Trees.{IsGroup, chunks_of, page_points}
use Rattle.tsdb_pages.proofs.Entries.{chunks_push, count_all, flat_push, groups_push, pages_push}
use Rattle.tsdb_pages.proofs.OneFile.{version_is}
use Rattle.tsdb_stats.specs.Statistics.{AreStatsOf}
use Rattle.tsfile_writer.specs.declared.layout.OpenChunk.{OpenChunk}
use Rattle.tsfile_writer.specs.Steps.{AreChunks, AreGroupsWritten, ArePages, HasOpenSums, IsChunkBegun, IsLonger, SameChunk}

-- the items that a loop has taken, and the next
pub more_taken : {A : Type 0} (front items others : List A) (i : ℕ) (item : A) → others ≡ items → i < length others → item ≡ get_or others i item → (front ++ take i items) ++ item ∷ [] ≡ front ++ take (i + 1) items
more_taken {A} front items others i item same lt is =
    subst (λ (l : List A). (front ++ take i l) ++ item ∷ [] ≡ front ++ take (i + 1) l) same
    (append_assoc front (take i others) (item ∷ []) ∙ ap (λ (l : List A). front ++ l) (sym (take_more others i item lt ∙ ap (λ (a : A). take i others ++ a ∷ []) (sym is))))

-- the first item by itself
pub first_taken : {A : Type 0} (items : List A) (item : A) → 0 < length items → item ≡ get_or items 0 item → item ∷ [] ≡ take 1 items ++ []
first_taken [] item some is = absurd (omega arith)
first_taken {A} (x ∷ xs) item some is = ap (λ (a : A). a ∷ []) is

-- the first item, and all others
pub all_taken : {A : Type 0} (items others : List A) (i : ℕ) → others ≡ items → length (take (length others - 1) (drop 1 others)) ≤ i → take 1 items ++ take i (take (length others - 1) (drop 1 others)) ≡ items
all_taken {A} items others i same end =
    let rest : take (length others - 1) (drop 1 others) ≡ drop 1 others = take_all (length others - 1) (drop 1 others) (omega (arith, length-drop 1 others)) in
    let whole : take i (take (length others - 1) (drop 1 others)) ≡ take (length others - 1) (drop 1 others) = take_all i (take (length others - 1) (drop 1 others)) end in
    ap (λ (l : List A). take 1 items ++ l) (whole ∙ rest ∙ ap (drop 1) same) ∙ take-append-drop 1 items

-- what follows of what a call returned
pub if_ok_then : {A E : Type 0} (P Q : A → Type 0) (result : Result A E) → ((a : A) → P a → Q a) → IfOk result P → IfOk result Q
if_ok_then P Q (Ok a) step is = step a is
if_ok_then P Q (Err e) step is = is

-- what holds in any case holds after an error
pub always_on_err : {T E P : Type 0} (result : Result T E) → P → OnErr result P
always_on_err (Ok a) is = tt
always_on_err (Err e) is = is

-- ---- how many

pub count_entries : (groups : List Group) (bytes : List ℕ) (entries : List IndexEntry) → AreGroupsWritten groups bytes entries → length entries ≡ length (chunks_of groups)
count_entries groups bytes entries layout = sym (ap length layout.all) ∙ count_all head_length groups layout.by_group layout.say

-- a tree has a chunk
pub some_chunk : (groups : List Group) → 0 < length groups → All IsGroup groups → 0 < length (chunks_of groups)
some_chunk [] some good = absurd (omega arith)
some_chunk (g ∷ gs) some good =
    let here : 0 < length g.chunks = (All-head IsGroup g gs good).some in
    let m : length (g.chunks ++ chunks_of gs) ≡ length g.chunks + length (chunks_of gs) = length-append g.chunks (chunks_of gs) in
    omega (arith, here, m)

pub some_entry : (groups : List Group) (bytes : List ℕ) (entries : List IndexEntry) → AreGroupsWritten groups bytes entries → 0 < length groups → All IsGroup groups → 0 < length entries
some_entry groups bytes entries layout some good = subst (λ n. 0 < n) (sym (count_entries groups bytes entries layout)) (some_chunk groups some good)

-- ---- the steps

pub no_groups : (bytes : List ℕ) (entries : List IndexEntry) → bytes ≡ head VERSION → entries ≡ [] → AreGroupsWritten [] bytes entries
no_groups bytes entries is none = record {
  bytes_are = is ∙ sym (append-nil (head VERSION));
  by_group = [];
  all = sym none;
  say = tt;
  sums = subst (λ (es : List IndexEntry). All (HasSums VERSION) es) (sym none) (All-nil (HasSums VERSION));
}

pub group_begun : (groups : List Group) (device : List ℕ) (old new : List ℕ) (entries : List IndexEntry) → AreGroupsWritten groups old entries → new ≡ old ++ group_start device → AreChunks groups device [] new entries
group_begun groups device old new entries layout added = record {
  bytes_before = old;
  entries_before = entries;
  before = layout;
  bytes_are = added ∙ ap (λ (l : List ℕ). old ++ l) (sym (append-nil (group_start device)));
  own = [];
  all = sym (append-nil entries);
  say = tt;
  sums = layout.sums;
}

pub chunk_begun : (groups : List Group) (device : List ℕ) (chunks : List Chunk) (measurement : List ℕ) (data_type : DataType) (encoding : Encoding) (page : Page) (points : List Point) (old new : List ℕ) (entries : List IndexEntry) (chunk : OpenChunk)
    → AreChunks groups device chunks old entries → page.points ≡ points → new ≡ old ++ (chunk_start measurement data_type encoding ++ page_bytes encoding points) → IsChunkBegun (length old) (length (chunk_start measurement data_type encoding)) points chunk → HasOpenSums data_type chunk
    → ArePages groups device chunks measurement data_type encoding (page ∷ []) new entries chunk
chunk_begun groups device chunks measurement data_type encoding page points old new entries chunk layout same added begun sums = record {
  bytes_before = old;
  before = layout;
  bytes_are = added ∙ ap (λ (p : List Point). old ++ (chunk_start measurement data_type encoding ++ page_bytes encoding p)) (sym same)
      ∙ ap (λ (l : List ℕ). old ++ (chunk_start measurement data_type encoding ++ l)) (sym (append-nil (page_field encoding page)));
  is = record {
    place_is = begun.place_is;
    stats = subst (λ (p : List Point). AreStatsOf p chunk.stats) (sym same ∙ sym (append-nil page.points)) begun.stats;
    say = subst (λ (l : List PageEntry). ArePageEntries encoding (length old + length (chunk_start measurement data_type encoding)) (page ∷ []) l) (sym begun.pages_are)
        (record { place_is = begun.is.place_is; stats = subst (λ (p : List Point). AreStatsOf p begun.entry.stats) (sym same) begun.is.stats }, tt);
  };
  sums = sums;
}

-- bytes behind two parts and a third
place_behind : (bytes a b c : List ℕ) → bytes ≡ a ++ (b ++ c) → length bytes ≡ length a + length b + length c
place_behind bytes a b c is =
    let n : length (a ++ (b ++ c)) ≡ length a + length (b ++ c) = length-append a (b ++ c) in
    let m : length (b ++ c) ≡ length b + length c = length-append b c in
    let l : length bytes ≡ length (a ++ (b ++ c)) = ap length is in
    omega (arith, n, m, l)

-- bytes behind three parts
more_behind : (bytes new a b c d : List ℕ) → bytes ≡ a ++ (b ++ c) → new ≡ bytes ++ d → new ≡ a ++ (b ++ (c ++ d))
more_behind bytes new a b c d is added =
    added ∙ ap (λ (l : List ℕ). l ++ d) is ∙ append_assoc a (b ++ c) d ∙ ap (λ (l : List ℕ). a ++ l) (append_assoc b c d)

pub page_added : (groups : List Group) (device : List ℕ) (chunks : List Chunk) (measurement : List ℕ) (data_type : DataType) (encoding : Encoding) (pages : List Page) (page : Page) (points : List Point) (before after : List ℕ) (entries : List IndexEntry) (old new : OpenChunk)
    → ArePages groups device chunks measurement data_type encoding pages before entries old → page.points ≡ points → after ≡ before ++ page_bytes encoding points → IsLonger (length before) points old new → (HasOpenSums data_type old → HasOpenSums data_type new)
    → ArePages groups device chunks measurement data_type encoding (pages ++ page ∷ []) after entries new
page_added groups device chunks measurement data_type encoding pages page points before after entries old new layout same added longer sums =
    let start = chunk_start measurement data_type encoding in
    let first = length layout.bytes_before + length start in
    let page_fields = flat_map (page_field encoding) pages in
    let place : length before ≡ length layout.bytes_before + length (chunk_start measurement data_type encoding) + length (flat_map (page_field encoding) pages) = place_behind before layout.bytes_before start page_fields layout.bytes_are in
    let here : IsPageEntry (length layout.bytes_before + length (chunk_start measurement data_type encoding) + length (flat_map (page_field encoding) pages)) page longer.entry =
    record { place_is = longer.is.place_is ∙ place; stats = subst (λ (p : List Point). AreStatsOf p longer.entry.stats) (sym same) longer.is.stats } in
    record {
      bytes_before = layout.bytes_before;
      before = layout.before;
      bytes_are = more_behind before after layout.bytes_before start page_fields (page_field encoding page) layout.bytes_are (added ∙ ap (λ (p : List Point). before ++ page_bytes encoding p) (sym same))
          ∙ ap (λ (l : List ℕ). layout.bytes_before ++ (start ++ l)) (sym (flat_push (page_field encoding) pages page));
      is = record {
        place_is = longer.place_is ∙ layout.is.place_is;
        stats = subst (λ (p : List Point). AreStatsOf p new.stats) (ap (λ (p : List Point). page_points pages ++ p) (sym same) ∙ sym (flat_push (λ (p : Page). p.points) pages page)) (longer.stats (page_points pages) layout.is.stats);
        say = subst (λ (l : List PageEntry). ArePageEntries encoding (length layout.bytes_before + length (chunk_start measurement data_type encoding)) (pages ++ page ∷ []) l) (sym longer.pages_are)
            (pages_push encoding first pages old.pages.items page longer.entry layout.is.say here);
      };
      sums = sums layout.sums;
    }

-- the pages of a chunk of which the same is said
pub same_pages : (groups : List Group) (device : List ℕ) (chunks : List Chunk) (measurement : List ℕ) (data_type : DataType) (encoding : Encoding) (pages : List Page) (before after : List ℕ) (entries : List IndexEntry) (old new : OpenChunk)
    → ArePages groups device chunks measurement data_type encoding pages before entries old → after ≡ before → SameChunk old new → ArePages groups device chunks measurement data_type encoding pages after entries new
same_pages groups device chunks measurement data_type encoding pages before after entries old new layout same same_chunk = record {
  bytes_before = layout.bytes_before;
  before = layout.before;
  bytes_are = same ∙ layout.bytes_are;
  is = record {
    place_is = same_chunk.place_is ∙ layout.is.place_is;
    stats = subst (AreStatsOf (page_points pages)) (sym same_chunk.stats) layout.is.stats;
    say = subst (λ (l : List PageEntry). ArePageEntries encoding (length layout.bytes_before + length (chunk_start measurement data_type encoding)) pages l) (sym same_chunk.pages_are) layout.is.say;
  };
  sums = record {
    stats = ap (λ (s : Stats). is_some s.sum) same_chunk.stats ∙ layout.sums.stats;
    pages = subst (λ (l : List PageEntry). All (λ page. HasSum VERSION data_type page.stats) l) (sym same_chunk.pages_are) layout.sums.pages;
  };
}

-- the sums of a chunk with its first page, and with one page more
pub sums_begun : (data_type : DataType) (chunk : OpenChunk) (entry : PageEntry) → HasSum VERSION data_type chunk.stats → HasSum VERSION data_type entry.stats → chunk.pages.items ≡ entry ∷ [] → HasOpenSums data_type chunk
sums_begun data_type chunk entry own first are = record {
  stats = own;
  pages = subst (λ (l : List PageEntry). All (λ page. HasSum VERSION data_type page.stats) l) (sym are)
      (All-push (λ (page : PageEntry). HasSum VERSION data_type page.stats) [] entry (All-nil (λ (page : PageEntry). HasSum VERSION data_type page.stats)) first);
}

pub sums_longer : (data_type : DataType) (old new : OpenChunk) (entry : PageEntry) → is_some new.stats.sum ≡ is_some old.stats.sum → HasSum VERSION data_type entry.stats → new.pages.items ≡ old.pages.items ++ entry ∷ []
    → HasOpenSums data_type old → HasOpenSums data_type new
sums_longer data_type old new entry same more are sums = record {
  stats = same ∙ sums.stats;
  pages = subst (λ (l : List PageEntry). All (λ page. HasSum VERSION data_type page.stats) l) (sym are)
      (All-push (λ (page : PageEntry). HasSum VERSION data_type page.stats) old.pages.items entry sums.pages more);
}

-- the entry of a chunk says what is said of it so far
pub record IsEntryOf (device measurement : List ℕ) (data_type : DataType) (encoding : Encoding) (chunk : OpenChunk) (entry : IndexEntry) : Type 0 where
  pub device_is : entry.device ≡ device
  pub measurement_is : entry.measurement ≡ measurement
  pub type_is : entry.data_type ≡ data_type
  pub encoding_is : entry.encoding ≡ encoding
  pub place_is : entry.place ≡ chunk.place
  pub stats : entry.stats ≡ chunk.stats
  pub pages_are : entry.pages ≡ chunk.pages.items

pub chunk_ended : (groups : List Group) (device : List ℕ) (chunks : List Chunk) (chunk : Chunk) (bytes : List ℕ) (before after : List IndexEntry) (open_chunk : OpenChunk) (entry : IndexEntry)
    → ArePages groups device chunks chunk.measurement chunk.data_type chunk.encoding chunk.pages bytes before open_chunk → IsEntryOf device chunk.measurement chunk.data_type chunk.encoding open_chunk entry → after ≡ before ++ entry ∷ []
    → AreChunks groups device (chunks ++ chunk ∷ []) bytes after
chunk_ended groups device chunks chunk bytes before after open_chunk entry layout is added =
    let start = chunk_start chunk.measurement chunk.data_type chunk.encoding in
    let chunk_fields = flat_map chunk_field chunks in
    let place : length layout.bytes_before ≡ length layout.before.bytes_before + length (group_start device) + length (flat_map chunk_field chunks) = place_behind layout.bytes_before layout.before.bytes_before (group_start device) chunk_fields layout.before.bytes_are in
    let here : IsChunkEntry device (length layout.bytes_before) chunk entry = record {
      device_is = is.device_is;
      measurement_is = is.measurement_is;
      type_is = is.type_is;
      encoding_is = is.encoding_is;
      place_is = is.place_is ∙ layout.is.place_is;
      stats = subst (AreStatsOf (page_points chunk.pages)) (sym is.stats) layout.is.stats;
      pages = subst (λ (l : List PageEntry). ArePageEntries chunk.encoding (length layout.bytes_before + length (chunk_start chunk.measurement chunk.data_type chunk.encoding)) chunk.pages l) (sym is.pages_are) layout.is.say;
    }
    in
    let sums : HasSums VERSION entry = record {
      stats = ap (λ (s : Stats). is_some s.sum) is.stats ∙ layout.sums.stats ∙ sym (ap is_numeric is.type_is);
      pages = subst (λ (t : DataType). All (λ page. HasSum VERSION t page.stats) entry.pages) (sym is.type_is)
          (subst (λ (l : List PageEntry). All (λ page. HasSum VERSION chunk.data_type page.stats) l) (sym is.pages_are) layout.sums.pages);
    }
    in
    record {
      bytes_before = layout.before.bytes_before;
      entries_before = layout.before.entries_before;
      before = layout.before.before;
      bytes_are = more_behind layout.bytes_before bytes layout.before.bytes_before (group_start device) chunk_fields (chunk_field chunk) layout.before.bytes_are layout.bytes_are
          ∙ ap (λ (l : List ℕ). layout.before.bytes_before ++ (group_start device ++ l)) (sym (flat_push chunk_field chunks chunk));
      own = layout.before.own ++ entry ∷ [];
      all = added ∙ ap (λ (l : List IndexEntry). l ++ entry ∷ []) layout.before.all ∙ append_assoc layout.before.entries_before layout.before.own (entry ∷ []);
      say = chunks_push device (length layout.before.bytes_before + length (group_start device)) chunks layout.before.own chunk entry layout.before.say (subst (λ n. IsChunkEntry device n chunk entry) place here);
      sums = subst (λ (es : List IndexEntry). All (HasSums VERSION) es) (sym added) (All-push (HasSums VERSION) before entry layout.before.sums sums);
    }

pub group_ended : (groups : List Group) (group : Group) (bytes : List ℕ) (entries : List IndexEntry) → AreChunks groups group.device group.chunks bytes entries → AreGroupsWritten (groups ++ group ∷ []) bytes entries
group_ended groups group bytes entries layout =
    let place : length layout.bytes_before ≡ head_length + length (flat_map group_field groups) = ap length layout.before.bytes_are ∙ length-append (head VERSION) (flat_map group_field groups) in
    record {
      bytes_are = layout.bytes_are ∙ ap (λ (l : List ℕ). l ++ group_field group) layout.before.bytes_are ∙ append_assoc (head VERSION) (flat_map group_field groups) (group_field group)
          ∙ ap (λ (l : List ℕ). head VERSION ++ l) (sym (flat_push group_field groups group));
      by_group = layout.before.by_group ++ layout.own ∷ [];
      all = flat_push (λ (l : List IndexEntry). l) layout.before.by_group layout.own ∙ ap (λ (l : List IndexEntry). l ++ layout.own) layout.before.all ∙ sym layout.all;
      say = groups_push head_length groups layout.before.by_group group layout.own layout.before.say (subst (λ n. AreEntries group.device (n + length (group_head group)) group.chunks layout.own) place layout.say);
      sums = layout.sums;
    }

-- index and tail behind the groups of a tree make its file
file_of : (tree : Tree) (bytes file index_bytes : List ℕ) (root : ℕ) (entries : List IndexEntry) → AreGroupsWritten tree.groups bytes entries → index.IsIndexSpelling (length bytes) root entries index_bytes
    → file ≡ bytes ++ index_bytes ++ number64 root ++ magic → IsFile tree file
file_of tree bytes file index_bytes root entries layout index_is is = record {
  version = VERSION;
  known = inr refl;
  entries = entries;
  root = root;
  index_bytes = index_bytes;
  say = record { by_group = layout.by_group; all = layout.all; say = layout.say };
  sums = layout.sums;
  index_is = subst (λ (l : List ℕ). index.IsIndexSpelling (length l) root entries index_bytes) layout.bytes_are index_is;
  bytes_are = is ∙ ap (λ (l : List ℕ). l ++ index_bytes ++ number64 root ++ magic) layout.bytes_are;
}

pub file_made : (tree : Tree) (bytes file index_bytes : List ℕ) (root : ℕ) (entries : List IndexEntry) → AreGroupsWritten tree.groups bytes entries → index.IsIndexSpelling (length bytes) root entries index_bytes
    → file ≡ bytes ++ index_bytes ++ number64 root ++ magic → IsFileIn VERSION tree file
unfolding file_of
file_made tree bytes file index_bytes root entries layout index_is is =
    let made = file_of tree bytes file index_bytes root entries layout index_is is in
    (made, version_is tree file made)
