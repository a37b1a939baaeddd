-- Two trees with one file are equal.
use Rattle.std.proofs.Common.{◌≡◌, ℕ, ◌+◌, ◌<◌, ◌^◌, ◌/◌, ◌%◌, true, List, [], ◌∷◌, ◌++◌, length, ◌⊎◌, inl, inr, refl, sym, ap, ◌∙◌, subst, append_assoc, arith}
use Rattle.std.specs.Prelude.{All}
use Rattle.std.specs.List.{flat_map, AllByRecursion}
use Rattle.std.proofs.lemmas.List.{get_or_append_left, get_or-append-add, length-append}
use Rattle.std.proofs.lemmas.List.Elements.{recursion_from_All}
use Rattle.tsdb_base.specs.declared.point.Point.{Point}
use Rattle.tsdb_base.specs.declared.value.DataType.{DataType}
use Rattle.tsdb_base.specs.declared.value.Encoding.{Encoding}
use Rattle.tsdb_base.specs.Fields.{number32, number64, type_field, encoding_field}
use Rattle.tsdb_base.specs.FieldLaws.{type_field-prefix_free, encoding_field-prefix_free}
use Rattle.tsdb_base.specs.Plain.{plain_text, IsText}
use Rattle.tsdb_base.specs.PlainLaws.{plain_text-prefix_free, same_front}
use Rattle.tsdb_base.specs.Values.{is_suitable}
use Rattle.tsdb_stats.specs.Nodes.{IsName, IsPath}
use Rattle.enc_ts2diff.proofs.Parts as times_laws
use Rattle.tsdb_pages.specs.ListSpelling.{spelling}
use Rattle.tsdb_pages.proofs.SuitablePairs.{laws_of}
use Rattle.tsdb_index.specs.Spelling as index
use Rattle.tsdb_index.specs.declared.index.IndexEntry.{IndexEntry}
use Rattle.tsdb_pages.specs.declared.tree.Page.{Page}
use Rattle.tsdb_pages.specs.declared.tree.Chunk.{Chunk}
use Rattle.tsdb_pages.specs.declared.tree.Group.{Group}
use Rattle.tsdb_pages.specs.declared.tree.Tree.{Tree}
use Rattle.tsdb_pages.specs.Pages.{ArePoints, IsInRange, body, times_field, times_of, values_of}
use Rattle.tsdb_pages.specs.Trees.{HasParts, IsChunk, IsGroup, IsMade, IsTree, chunks_of, page_points}
use Rattle.tsdb_pages.specs.File.{IsFile, chunk_field, data_field, group_field, head, magic, page_field}
use Rattle.tsdb_pages.proofs.Bodies.{are_times, are_values, length_body, parts_same, points_same, short_times, short_values}
use Rattle.tsdb_pages.proofs.Marks.{AreMarked, Begins, begins_append, marked_same, other_mark}

-- ---- what ends a list of groups, of chunks and of pages

abbrev pub EndsGroups : List ℕ → Type 0
EndsGroups s = Begins 73 s

abbrev pub EndsChunks : List ℕ → Type 0
EndsChunks s = Begins 71 s ⊎ EndsGroups s

abbrev pub EndsPages : List ℕ → Type 0
EndsPages s = Begins 67 s ⊎ EndsChunks s

-- ---- pages

-- numbers that are equal in four bytes, and less than 2^32 apart
low : (a b : ℕ) → a % 256 ≡ b % 256 → a / 256 % 256 ≡ b / 256 % 256 → a % 65536 ≡ b % 65536
low a b e f = omega arith

quarter : (a b : ℕ) → a % 65536 ≡ b % 65536 → a / 65536 % 65536 ≡ b / 65536 % 65536 → a % 4294967296 ≡ b % 4294967296
quarter a b e f = omega arith

pub lengths_same : (k a b : ℕ) → a < 2 ^ 32 → b < 2 ^ 32 → number32 (k + a) ≡ number32 (k + b) → a ≡ b
lengths_same k a b small_a small_b e =
    let d0 : (k + a) % 256 ≡ (k + b) % 256 = cc in
    let d1 : (k + a) / 256 % 256 ≡ (k + b) / 256 % 256 = cc in
    let d2 : (k + a) / 65536 % 256 ≡ (k + b) / 65536 % 256 = cc in
    let d3 : (k + a) / 16777216 % 256 ≡ (k + b) / 16777216 % 256 = cc in
    let q : (k + a) / 16777216 ≡ (k + a) / 65536 / 256 = omega arith in
    let r : (k + b) / 16777216 ≡ (k + b) / 65536 / 256 = omega arith in
    let d4 : (k + a) / 65536 / 256 % 256 ≡ (k + b) / 65536 / 256 % 256 = ap (λ (n : ℕ). n % 256) (sym q) ∙ d3 ∙ ap (λ (n : ℕ). n % 256) r in
    let low_half = low (k + a) (k + b) d0 d1 in
    let high_half = low ((k + a) / 65536) ((k + b) / 65536) d2 d4 in
    let all = quarter (k + a) (k + b) low_half high_half in
    omega (arith, all)

abbrev pub IsPageOf : DataType → Page → Type 0
IsPageOf data_type page = ArePoints data_type page.points × All IsInRange page.points

pub page_free : (data_type : DataType) (encoding : Encoding) (suits : is_suitable data_type encoding ≡ true) (a b : Page) (x y : List ℕ) → IsPageOf data_type a → IsPageOf data_type b
    → page_field encoding a ++ x ≡ page_field encoding b ++ y → (a ≡ b) × (x ≡ y)
page_free data_type encoding suits a b x y is_a is_b e =
    let p = a.points in
    let q = b.points in
    let laws = laws_of data_type encoding suits in
    let parted : (80 ∷ number32 (length (body encoding a.points))) ++ (body encoding a.points ++ x) ≡ (80 ∷ number32 (length (body encoding b.points))) ++ (body encoding b.points ++ y) =
    sym (append_assoc (80 ∷ number32 (length (body encoding p))) (body encoding p) x) ∙ e ∙ append_assoc (80 ∷ number32 (length (body encoding q))) (body encoding q) y in
    let fronts = same_front (80 ∷ number32 (length (body encoding p))) (80 ∷ number32 (length (body encoding q))) (body encoding p ++ x) (body encoding q ++ y) refl parted in
    let inner : number32 (length (times_field a.points)) ++ times_field a.points ++ (spelling encoding (values_of a.points) ++ x) ≡ number32 (length (times_field b.points)) ++ times_field b.points ++ (spelling encoding (values_of b.points) ++ y) =
    sym (append_assoc (number32 (length (times_field p)) ++ times_field p) (spelling encoding (values_of p)) x) ∙ fronts.1 ∙ append_assoc (number32 (length (times_field q)) ++ times_field q) (spelling encoding (values_of q)) y in
    let times = parts_same (times_field p) (times_field q) (spelling encoding (values_of p) ++ x) (spelling encoding (values_of q) ++ y) (short_times data_type p is_a.0 is_a.1) (short_times data_type q is_b.0 is_b.1) inner in
    let number : number32 (length (body encoding a.points)) ≡ number32 (length (body encoding b.points)) = cons_same 80 (number32 (length (body encoding p))) (number32 (length (body encoding q))) fronts.0 in
    let sized : number32 (4 + length (times_field a.points) + length (spelling encoding (values_of a.points))) ≡ number32 (4 + length (times_field a.points) + length (spelling encoding (values_of b.points))) =
    ap number32 (sym (length_body encoding p)) ∙ number ∙ ap number32 (length_body encoding q) ∙ ap (λ (l : List ℕ). number32 (4 + length l + length (spelling encoding (values_of q)))) (sym times.0) in
    let len = lengths_same (4 + length (times_field p)) (length (spelling encoding (values_of p))) (length (spelling encoding (values_of q)))
    (short_values data_type encoding suits p is_a.0 is_a.1) (short_values data_type encoding suits q is_b.0 is_b.1) sized in
    let values = same_front (spelling encoding (values_of p)) (spelling encoding (values_of q)) x y len times.1 in
    let made : List Point → Page = λ points. record { points = points } in (
      ap made (points_same p q (times_laws.same_from_spelling (times_of p) (times_of q) (are_times data_type p is_a.0 is_a.1) (are_times data_type q is_b.0 is_b.1) times.0)
          (laws.one (values_of p) (values_of q) (are_values data_type p is_a.0 is_a.1) (are_values data_type q is_b.0 is_b.1) values.0)),
      values.1,
    )
  where
    cons_same : (n : ℕ) (xs ys : List ℕ) → n ∷ xs ≡ n ∷ ys → xs ≡ ys
    cons_same n xs ys same = cc

pub not_page : (s : List ℕ) → EndsPages s → Begins 80 s → ⊥
not_page s (inl chunk) page = other_mark 67 80 s (λ e. absurd (omega arith)) chunk page
not_page s (inr (inl group)) page = other_mark 71 80 s (λ e. absurd (omega arith)) group page
not_page s (inr (inr leaf)) page = other_mark 73 80 s (λ e. absurd (omega arith)) leaf page

pub pages_marked : (data_type : DataType) (encoding : Encoding) (suits : is_suitable data_type encoding ≡ true) → AreMarked (page_field encoding) (IsPageOf data_type) 80 EndsPages
pages_marked data_type encoding suits = record {
  begins = λ page. (number32 (length (body encoding page.points)) ++ body encoding page.points, refl);
  ends = not_page;
  free = λ a b x y is_a is_b _ _ e. page_free data_type encoding suits a b x y is_a is_b e;
}

-- ---- chunks

abbrev pub IsWholeChunk : Chunk → Type 0
IsWholeChunk chunk = IsChunk chunk × HasParts chunk

-- what holds of all points of pages holds of those of each page
pub of_each_page : (pages : List Page) → All IsInRange (page_points pages) → AllByRecursion (λ page. All IsInRange page.points) pages
of_each_page [] ranges = tt
of_each_page (p ∷ ps) ranges = (
  λ k d lt. subst IsInRange (get_or_append_left p.points (page_points ps) d k lt) (ranges k d (omega (arith, lt, length-append p.points (page_points ps)))),
  of_each_page ps (λ k d lt. subst IsInRange (get_or-append-add p.points (page_points ps) k d) (ranges (length p.points + k) d (omega (arith, lt, length-append p.points (page_points ps))))),
)

both : {A : Type 0} (P Q : A → Type 0) (xs : List A) → AllByRecursion P xs → AllByRecursion Q xs → AllByRecursion (λ x. P x × Q x) xs
both P Q [] p q = tt
both P Q (x ∷ xs) p q = ((p.0, q.0), both P Q xs p.1 q.1)

pub pages_of_chunk : (chunk : Chunk) → IsWholeChunk chunk → AllByRecursion (IsPageOf chunk.data_type) chunk.pages
pages_of_chunk chunk is =
    both (λ page. ArePoints chunk.data_type page.points) (λ page. All IsInRange page.points) chunk.pages
    (recursion_from_All (λ page. ArePoints chunk.data_type page.points) chunk.pages is.0.pages) (of_each_page chunk.pages is.1.points)

-- a chunk's bytes, and what follows them
pub chunk_apart : (chunk : Chunk) (x : List ℕ) → chunk_field chunk ++ x ≡ 67 ∷ (plain_text chunk.measurement ++ (type_field chunk.data_type ++ (encoding_field chunk.encoding ++ (flat_map (page_field chunk.encoding) chunk.pages ++ x))))
chunk_apart chunk x =
    let m = 67 ∷ plain_text chunk.measurement in
    let t = type_field chunk.data_type in
    let c = encoding_field chunk.encoding in
    let pages = flat_map (page_field chunk.encoding) chunk.pages in
    append_assoc (m ++ t ++ c) pages x ∙ append_assoc (m ++ t) c (pages ++ x) ∙ append_assoc m t (c ++ (pages ++ x))

short_name : (name : List ℕ) → IsName name → IsText name
short_name name is = omega (arith, is.short)

short_path : (path : List ℕ) → IsPath path → IsText path
short_path path is = omega (arith, is.1.short)

tail_same : (n : ℕ) (xs ys : List ℕ) → n ∷ xs ≡ n ∷ ys → xs ≡ ys
tail_same n xs ys same = cc

pub chunk_free : (a b : Chunk) (x y : List ℕ) → IsWholeChunk a → IsWholeChunk b → EndsPages x → EndsPages y → chunk_field a ++ x ≡ chunk_field b ++ y → (a ≡ b) × (x ≡ y)
chunk_free a b x y is_a is_b end_x end_y e =
    let pages_a = flat_map (page_field a.encoding) a.pages in
    let pages_b = flat_map (page_field b.encoding) b.pages in
    let parted = tail_same 67 (plain_text a.measurement ++ (type_field a.data_type ++ (encoding_field a.encoding ++ (flat_map (page_field a.encoding) a.pages ++ x)))) (plain_text b.measurement ++ (type_field b.data_type ++ (encoding_field b.encoding ++ (flat_map (page_field b.encoding) b.pages ++ y)))) (sym (chunk_apart a x) ∙ e ∙ chunk_apart b y) in
    let names = plain_text-prefix_free a.measurement b.measurement (type_field a.data_type ++ (encoding_field a.encoding ++ (pages_a ++ x))) (type_field b.data_type ++ (encoding_field b.encoding ++ (pages_b ++ y))) (short_name a.measurement is_a.1.measurement) (short_name b.measurement is_b.1.measurement) parted in
    let types = type_field-prefix_free a.data_type b.data_type (encoding_field a.encoding ++ (pages_a ++ x)) (encoding_field b.encoding ++ (pages_b ++ y)) tt tt names.1 in
    let encodings = encoding_field-prefix_free a.encoding b.encoding (pages_a ++ x) (pages_b ++ y) tt tt types.1 in
    let one : flat_map (page_field a.encoding) a.pages ++ x ≡ flat_map (page_field a.encoding) b.pages ++ y = encodings.1 ∙ ap (λ (c : Encoding). flat_map (page_field c) b.pages ++ y) (sym encodings.0) in
    let parts_b : AllByRecursion (IsPageOf a.data_type) b.pages = subst (λ (t : DataType). AllByRecursion (IsPageOf t) b.pages) (sym types.0) (pages_of_chunk b is_b) in
    let pages = marked_same (page_field a.encoding) (IsPageOf a.data_type) 80 EndsPages (pages_marked a.data_type a.encoding is_a.0.suits) a.pages b.pages x y (pages_of_chunk a is_a) parts_b end_x end_y one in
    let n : a.measurement ≡ b.measurement = names.0 in
    let t : a.data_type ≡ b.data_type = types.0 in
    let c : a.encoding ≡ b.encoding = encodings.0 in
    let p : a.pages ≡ b.pages = pages.0 in
    let made : List ℕ → DataType → Encoding → List Page → Chunk = λ measurement data_type encoding pages. record { measurement = measurement; data_type = data_type; encoding = encoding; pages = pages } in
    let same : made a.measurement a.data_type a.encoding a.pages ≡ made b.measurement b.data_type b.encoding b.pages = cc in
    (same, pages.1)

pub not_chunk : (s : List ℕ) → EndsChunks s → Begins 67 s → ⊥
not_chunk s (inl group) chunk = other_mark 71 67 s (λ e. absurd (omega arith)) group chunk
not_chunk s (inr leaf) chunk = other_mark 73 67 s (λ e. absurd (omega arith)) leaf chunk

pub chunks_marked : AreMarked chunk_field IsWholeChunk 67 EndsChunks
chunks_marked = record {
  begins = λ chunk. (plain_text chunk.measurement ++ type_field chunk.data_type ++ encoding_field chunk.encoding ++ flat_map (page_field chunk.encoding) chunk.pages, refl);
  ends = not_chunk;
  free = chunk_free;
}

-- ---- groups

abbrev pub IsWholeGroup : Group → Type 0
IsWholeGroup group = IsPath group.device × AllByRecursion IsWholeChunk group.chunks

pub group_apart : (group : Group) (x : List ℕ) → group_field group ++ x ≡ 71 ∷ (plain_text group.device ++ (flat_map chunk_field group.chunks ++ x))
group_apart group x = append_assoc (71 ∷ plain_text group.device) (flat_map chunk_field group.chunks) x

pub group_free : (a b : Group) (x y : List ℕ) → IsWholeGroup a → IsWholeGroup b → EndsChunks x → EndsChunks y → group_field a ++ x ≡ group_field b ++ y → (a ≡ b) × (x ≡ y)
group_free a b x y is_a is_b end_x end_y e =
    let chunks_a = flat_map chunk_field a.chunks in
    let chunks_b = flat_map chunk_field b.chunks in
    let parted = tail_same 71 (plain_text a.device ++ (flat_map chunk_field a.chunks ++ x)) (plain_text b.device ++ (flat_map chunk_field b.chunks ++ y)) (sym (group_apart a x) ∙ e ∙ group_apart b y) in
    let names = plain_text-prefix_free a.device b.device (chunks_a ++ x) (chunks_b ++ y) (short_path a.device is_a.0) (short_path b.device is_b.0) parted in
    let chunks = marked_same chunk_field IsWholeChunk 67 EndsChunks chunks_marked a.chunks b.chunks x y is_a.1 is_b.1 end_x end_y names.1 in
    let n : a.device ≡ b.device = names.0 in
    let c : a.chunks ≡ b.chunks = chunks.0 in
    let made : List ℕ → List Chunk → Group = λ device chunks. record { device = device; chunks = chunks } in
    let same : made a.device a.chunks ≡ made b.device b.chunks = cc in
    (same, chunks.1)

pub groups_marked : AreMarked group_field IsWholeGroup 71 EndsGroups
groups_marked = record {
  begins = λ group. (plain_text group.device ++ flat_map chunk_field group.chunks, refl);
  ends = λ s leaf group. other_mark 73 71 s (λ e. absurd (omega arith)) leaf group;
  free = group_free;
}

-- the chunks of each group are whole where all chunks have their parts
whole_groups : (groups : List Group) → AllByRecursion IsGroup groups → AllByRecursion (λ group. IsPath group.device) groups → All HasParts (chunks_of groups) → AllByRecursion IsWholeGroup groups
whole_groups [] good devices parts = tt
whole_groups (g ∷ gs) good devices parts =
    let n = length-append g.chunks (chunks_of gs) in
    let here : All HasParts g.chunks = λ k d lt. subst HasParts (get_or_append_left g.chunks (chunks_of gs) d k lt) (parts k d (omega (arith, lt, n))) in
    let others : All HasParts (chunks_of gs) = λ k d lt. subst HasParts (get_or-append-add g.chunks (chunks_of gs) k d) (parts (length g.chunks + k) d (omega (arith, lt, n))) in (
      (devices.0, both IsChunk HasParts g.chunks (recursion_from_All IsChunk g.chunks good.0.chunks) (recursion_from_All HasParts g.chunks here)),
      whole_groups gs good.1 devices.1 others,
    )

pub groups_of_tree : (tree : Tree) → IsTree tree → IsMade tree → AllByRecursion IsWholeGroup tree.groups
groups_of_tree tree is made =
    whole_groups tree.groups (recursion_from_All IsGroup tree.groups is.groups) (recursion_from_All (λ group. IsPath group.device) tree.groups made.devices) made.chunks

-- ---- files

-- an index begins with a leaf
leaf_first : (leaves : List (List IndexEntry)) (rest : List ℕ) → index.AreLeaves leaves → Begins 73 (flat_map index.leaf_field leaves ++ rest)
leaf_first [] rest are = absurd are
leaf_first (leaf ∷ leaves) rest are = begins_append 73 (index.leaf_field leaf ++ flat_map index.leaf_field leaves) rest (begins_append 73 (index.leaf_field leaf) (flat_map index.leaf_field leaves) (_, refl))

pub index_first : (place root : ℕ) (entries : List IndexEntry) (bytes rest : List ℕ) → index.IsIndexSpelling place root entries bytes → Begins 73 (bytes ++ rest)
index_first place root entries bytes rest is =
    subst (λ l. Begins 73 (l ++ rest)) (sym is.bytes_are) (begins_append 73 (flat_map index.leaf_field is.leaves ++ index.root_field place is.leaves) rest (leaf_first is.leaves (index.root_field place is.leaves) is.stand.sizes))

-- a file's bytes: the groups behind the head, and what follows them
pub file_apart : (tree : Tree) (bytes : List ℕ) (is : IsFile tree bytes) → bytes ≡ head is.version ++ (flat_map group_field tree.groups ++ (is.index_bytes ++ (number64 is.root ++ magic)))
file_apart tree bytes is =
    let groups = flat_map group_field tree.groups in
    is.bytes_are ∙ append_assoc (head is.version ++ groups ++ is.index_bytes) (number64 is.root) magic ∙ append_assoc (head is.version ++ groups) is.index_bytes (number64 is.root ++ magic)
    ∙ append_assoc (head is.version) groups (is.index_bytes ++ (number64 is.root ++ magic))

pub one_tree : (a b : Tree) (bytes : List ℕ) → IsTree a → IsMade a → IsTree b → IsMade b → IsFile a bytes → IsFile b bytes → a ≡ b
one_tree a b bytes tree_a made_a tree_b made_b file_a file_b =
    let rest_a = file_a.index_bytes ++ (number64 file_a.root ++ magic) in
    let rest_b = file_b.index_bytes ++ (number64 file_b.root ++ magic) in
    let fronts = same_front (head file_a.version) (head file_b.version) (flat_map group_field a.groups ++ rest_a) (flat_map group_field b.groups ++ rest_b) refl (sym (file_apart a bytes file_a) ∙ file_apart b bytes file_b) in
    let made : List Group → Tree = λ groups. record { groups = groups } in
    ap made (marked_same group_field IsWholeGroup 71 EndsGroups groups_marked a.groups b.groups rest_a rest_b (groups_of_tree a tree_a made_a) (groups_of_tree b tree_b made_b)
    (index_first (length (data_field file_a.version a)) file_a.root file_a.entries file_a.index_bytes (number64 file_a.root ++ magic) file_a.index_is)
    (index_first (length (data_field file_b.version b)) file_b.root file_b.entries file_b.index_bytes (number64 file_b.root ++ magic) file_b.index_is) fronts.1).0
