-- What the index of a tree says is determined by the tree, and so is the tree's file.
use Rattle.std.proofs.Common.{◌≡◌, ℕ, ◌+◌, List, [], ◌∷◌, ◌++◌, length, refl, sym, ap, ◌∙◌, subst}
use Rattle.std.specs.Prelude.{ℤ, ◌&&◌, All, IfSome, Option, None, Some, is_some}
use Rattle.std.specs.List.{flat_map, AllByRecursion}
use Rattle.std.proofs.lemmas.List.Elements.{recursion_from_All}
use Rattle.tsdb_base.specs.declared.point.Point.{Point}
use Rattle.tsdb_base.specs.declared.point.Stats.{Stats}
use Rattle.tsdb_base.specs.declared.value.DataType.{DataType}
use Rattle.tsdb_base.specs.declared.value.Encoding.{Encoding}
use Rattle.tsdb_base.specs.declared.value.Value.{Value}
use Rattle.tsdb_base.specs.Fields.{number64}
use Rattle.tsdb_index.specs.declared.index.IndexEntry.{IndexEntry}
use Rattle.tsdb_index.specs.declared.index.PageEntry.{PageEntry}
use Rattle.tsdb_index.specs.Spelling as index
use Rattle.tsdb_index.specs.Statistics.{is_numeric}
use Rattle.tsdb_index.specs.Versions.{has_sums}
use Rattle.tsdb_index.proofs.OneSpelling.{one_spelling}
use Rattle.tsdb_index.proofs.Whole.{every_left, every_right}
use Rattle.tsdb_stats.specs.Folds.{sum_of}
use Rattle.tsdb_stats.specs.Statistics.{AreStatsOf}
use Rattle.tsdb_pages.specs.declared.tree.Page.{Page}
use Rattle.tsdb_pages.specs.declared.tree.Chunk.{Chunk}
use Rattle.tsdb_pages.specs.declared.tree.Group.{Group}
use Rattle.tsdb_pages.specs.declared.tree.Tree.{Tree}
use Rattle.tsdb_pages.specs.File.{AreEntries, AreEntriesIn, AreEntriesOf, ArePageEntries, HasSum, HasSums, IsChunkEntry, IsFile, IsFileIn, IsPageEntry, chunk_field, chunk_head, data_field, group_field, group_head, magic, page_field, version_in}
use Rattle.tsdb_pages.specs.Trees.{page_points}

-- ---- one tree, one index

sums_same : (total a b : Option ℤ) → IfSome a (λ s. total ≡ Some s) → IfSome b (λ s. total ≡ Some s) → is_some a ≡ is_some b → a ≡ b
sums_same total None None is_a is_b e = refl
sums_same total None (Some b) is_a is_b e = absurd cc
sums_same total (Some a) None is_a is_b e = absurd cc
sums_same total (Some a) (Some b) is_a is_b e = sym is_a ∙ is_b

pub stats_same : (points : List Point) (a b : Stats) → AreStatsOf points a → AreStatsOf points b → is_some a.sum ≡ is_some b.sum → a ≡ b
stats_same points a b is_a is_b e_sum =
    let made : ℕ → ℤ → ℤ → Value → Value → Option Value → Option Value → Option ℤ → Stats = λ n s e f l x y z. record { count = n; start = s; end = e; first = f; last = l; least = x; greatest = y; sum = z } in
    let n : a.count ≡ b.count = is_a.count ∙ sym is_b.count in
    let starts = sym is_a.start ∙ is_b.start in
    let s : a.start ≡ b.start = cc in
    let ends = sym is_a.end ∙ is_b.end in
    let e : a.end ≡ b.end = cc in
    let firsts = sym is_a.first ∙ is_b.first in
    let f : a.first ≡ b.first = cc in
    let lasts = sym is_a.last ∙ is_b.last in
    let l : a.last ≡ b.last = cc in
    let x : a.least ≡ b.least = sym is_a.least ∙ is_b.least in
    let y : a.greatest ≡ b.greatest = sym is_a.greatest ∙ is_b.greatest in
    let z : a.sum ≡ b.sum = sums_same (sum_of points) a.sum b.sum is_a.sum is_b.sum e_sum in
    let same : made a.count a.start a.end a.first a.last a.least a.greatest a.sum ≡ made b.count b.start b.end b.first b.last b.least b.greatest b.sum = cc in
    same

-- the pages of a chunk of this type have the sums of the version
abbrev pub HavePageSums : ℕ → DataType → List PageEntry → Type 0
HavePageSums version t pages = AllByRecursion (λ (page : PageEntry). HasSum version t page.stats) pages

pub page_sums : (version : ℕ) (t : DataType) (entry : IndexEntry) → entry.data_type ≡ t → HasSums version entry → HavePageSums version t entry.pages
page_sums version t entry is has =
    subst (λ (x : DataType). HavePageSums version x entry.pages) is (recursion_from_All (λ (page : PageEntry). HasSum version entry.data_type page.stats) entry.pages has.pages)

page_same : (version : ℕ) (t : DataType) (place : ℕ) (page : Page) (a b : PageEntry) → IsPageEntry place page a → IsPageEntry place page b → HasSum version t a.stats → HasSum version t b.stats → a ≡ b
page_same version t place page a b is_a is_b has_a has_b =
    let made : ℕ → Stats → PageEntry = λ p s. record { place = p; stats = s } in
    let p : a.place ≡ b.place = is_a.place_is ∙ sym is_b.place_is in
    let s : a.stats ≡ b.stats = stats_same page.points a.stats b.stats is_a.stats is_b.stats (has_a ∙ sym has_b) in
    let same : made a.place a.stats ≡ made b.place b.stats = cc in
    same

pages_same : (version : ℕ) (t : DataType) (encoding : Encoding) (place : ℕ) (pages : List Page) (xs ys : List PageEntry) → ArePageEntries encoding place pages xs → ArePageEntries encoding place pages ys → HavePageSums version t xs → HavePageSums version t ys → xs ≡ ys
pages_same version t encoding place [] [] [] is_x is_y has_x has_y = refl
pages_same version t encoding place [] [] (y ∷ ys) is_x is_y has_x has_y = absurd is_y
pages_same version t encoding place [] (x ∷ xs) ys is_x is_y has_x has_y = absurd is_x
pages_same version t encoding place (page ∷ pages) [] ys is_x is_y has_x has_y = absurd is_x
pages_same version t encoding place (page ∷ pages) (x ∷ xs) [] is_x is_y has_x has_y = absurd is_y
pages_same version t encoding place (page ∷ pages) (x ∷ xs) (y ∷ ys) is_x is_y has_x has_y =
    let first : x ≡ y = page_same version t place page x y is_x.0 is_y.0 has_x.0 has_y.0 in
    let others : xs ≡ ys = pages_same version t encoding (place + length (page_field encoding page)) pages xs ys is_x.1 is_y.1 has_x.1 has_y.1 in
    cc

entry_same : (version : ℕ) (device : List ℕ) (place : ℕ) (chunk : Chunk) (a b : IndexEntry) → IsChunkEntry device place chunk a → IsChunkEntry device place chunk b → HasSums version a → HasSums version b → a ≡ b
entry_same version device place chunk a b is_a is_b has_a has_b =
    let d : a.device ≡ b.device = is_a.device_is ∙ sym is_b.device_is in
    let m : a.measurement ≡ b.measurement = is_a.measurement_is ∙ sym is_b.measurement_is in
    let t : a.data_type ≡ b.data_type = is_a.type_is ∙ sym is_b.type_is in
    let c : a.encoding ≡ b.encoding = is_a.encoding_is ∙ sym is_b.encoding_is in
    let p : a.place ≡ b.place = is_a.place_is ∙ sym is_b.place_is in
    let sums : is_some a.stats.sum ≡ is_some b.stats.sum = has_a.stats ∙ ap (λ (x : DataType). has_sums version && is_numeric x) t ∙ sym has_b.stats in
    let s : a.stats ≡ b.stats = stats_same (page_points chunk.pages) a.stats b.stats is_a.stats is_b.stats sums in
    let g : a.pages ≡ b.pages = pages_same version chunk.data_type chunk.encoding (place + length (chunk_head chunk)) chunk.pages a.pages b.pages is_a.pages is_b.pages
    (page_sums version chunk.data_type a is_a.type_is has_a) (page_sums version chunk.data_type b is_b.type_is has_b) in
    let made : List ℕ → List ℕ → DataType → Encoding → ℕ → Stats → List PageEntry → IndexEntry =
    λ device measurement data_type encoding place stats pages. record { device = device; measurement = measurement; data_type = data_type; encoding = encoding; place = place; stats = stats; pages = pages } in
    let same : made a.device a.measurement a.data_type a.encoding a.place a.stats a.pages ≡ made b.device b.measurement b.data_type b.encoding b.place b.stats b.pages = cc in
    same

chunks_same : (version : ℕ) (device : List ℕ) (place : ℕ) (chunks : List Chunk) (xs ys : List IndexEntry) → AreEntries device place chunks xs → AreEntries device place chunks ys → AllByRecursion (HasSums version) xs → AllByRecursion (HasSums version) ys → xs ≡ ys
chunks_same version device place [] [] [] is_x is_y has_x has_y = refl
chunks_same version device place [] [] (y ∷ ys) is_x is_y has_x has_y = absurd is_y
chunks_same version device place [] (x ∷ xs) ys is_x is_y has_x has_y = absurd is_x
chunks_same version device place (chunk ∷ chunks) [] ys is_x is_y has_x has_y = absurd is_x
chunks_same version device place (chunk ∷ chunks) (x ∷ xs) [] is_x is_y has_x has_y = absurd is_y
chunks_same version device place (chunk ∷ chunks) (x ∷ xs) (y ∷ ys) is_x is_y has_x has_y =
    let first : x ≡ y = entry_same version device place chunk x y is_x.0 is_y.0 has_x.0 has_y.0 in
    let others : xs ≡ ys = chunks_same version device (place + length (chunk_field chunk)) chunks xs ys is_x.1 is_y.1 has_x.1 has_y.1 in
    cc

abbrev pub all_of : List (List IndexEntry) → List IndexEntry
all_of lists = flat_map (λ list. list) lists

groups_same : (version place : ℕ) (groups : List Group) (xs ys : List (List IndexEntry)) → AreEntriesOf place groups xs → AreEntriesOf place groups ys → AllByRecursion (HasSums version) (all_of xs) → AllByRecursion (HasSums version) (all_of ys) → xs ≡ ys
groups_same version place [] [] [] is_x is_y has_x has_y = refl
groups_same version place [] [] (y ∷ ys) is_x is_y has_x has_y = absurd is_y
groups_same version place [] (x ∷ xs) ys is_x is_y has_x has_y = absurd is_x
groups_same version place (group ∷ groups) [] ys is_x is_y has_x has_y = absurd is_x
groups_same version place (group ∷ groups) (x ∷ xs) [] is_x is_y has_x has_y = absurd is_y
groups_same version place (group ∷ groups) (x ∷ xs) (y ∷ ys) is_x is_y has_x has_y =
    let first : x ≡ y = chunks_same version group.device (place + length (group_head group)) group.chunks x y is_x.0 is_y.0
    (every_left (HasSums version) x (all_of xs) has_x) (every_left (HasSums version) y (all_of ys) has_y) in
    let others : xs ≡ ys = groups_same version (place + length (group_field group)) groups xs ys is_x.1 is_y.1
    (every_right (HasSums version) x (all_of xs) has_x) (every_right (HasSums version) y (all_of ys) has_y) in
    cc

pub same_entries : (version : ℕ) (tree : Tree) (xs ys : List IndexEntry) → AreEntriesIn tree xs → AreEntriesIn tree ys → All (HasSums version) xs → All (HasSums version) ys → xs ≡ ys
same_entries version tree xs ys is_x is_y has_x has_y =
    let each : (es : List IndexEntry) (is : AreEntriesIn tree es) → All (HasSums version) es → AllByRecursion (HasSums version) (all_of is.by_group) =
    λ es is has. recursion_from_All (HasSums version) (all_of is.by_group) (subst (λ (l : List IndexEntry). All (HasSums version) l) (sym is.all) has) in
    sym is_x.all ∙ ap all_of (groups_same version _ tree.groups is_x.by_group is_y.by_group is_x.say is_y.say (each xs is_x has_x) (each ys is_y has_y)) ∙ is_y.all

-- ---- one tree, one file in each version

pub version_is : (tree : Tree) (bytes : List ℕ) (file : IsFile tree bytes) → version_in bytes ≡ file.version
version_is tree bytes file = ap version_in file.bytes_are

pub one_file : (version : ℕ) (tree : Tree) (x y : List ℕ) → IsFileIn version tree x → IsFileIn version tree y → x ≡ y
one_file version tree x y file_x file_y =
    let in_x = file_x.0 in
    let in_y = file_y.0 in
    let v : in_x.version ≡ in_y.version = sym (version_is tree x in_x) ∙ file_x.1 ∙ sym file_y.1 ∙ version_is tree y in_y in
    let entries = same_entries in_y.version tree in_x.entries in_y.entries in_x.say in_y.say (subst (λ (n : ℕ). All (HasSums n) in_x.entries) v in_x.sums) in_y.sums in
    let place : length (data_field in_x.version tree) ≡ length (data_field in_y.version tree) = ap (λ (n : ℕ). length (data_field n tree)) v in
    let moved = subst (λ (n : ℕ). index.IsIndexSpelling n in_x.root in_x.entries in_x.index_bytes) place in_x.index_is in
    let same = one_spelling (length (data_field in_y.version tree)) in_x.root in_y.root in_y.entries in_x.index_bytes in_y.index_bytes
    (subst (λ (es : List IndexEntry). index.IsIndexSpelling (length (data_field in_y.version tree)) in_x.root es in_x.index_bytes) entries moved) in_y.index_is in
    in_x.bytes_are
    ∙ ap (λ (n : ℕ). data_field n tree ++ in_x.index_bytes ++ number64 in_x.root ++ magic) v
    ∙ ap (λ (l : List ℕ). data_field in_y.version tree ++ l ++ number64 in_x.root ++ magic) same.0
    ∙ ap (λ (n : ℕ). data_field in_y.version tree ++ in_y.index_bytes ++ number64 n ++ magic) same.1
    ∙ sym in_y.bytes_are
