-- The entries of a tree are those of an index.
use Rattle.std.proofs.Common.{◌≡◌, ℕ, zero, suc, ◌+◌, ◌*◌, ◌<◌, ◌≤◌, ◌^◌, List, [], ◌∷◌, ◌++◌, length, map, get_or, inl, inr, ⊎_elim, refl, sym, ap, ◌∙◌, subst, length-append, arith}
use Rattle.std.specs.Prelude.{All, AllPairs, Contains}
use Rattle.std.specs.List.{flat_map, AllAdjacentBelow, AllByRecursion}
use Rattle.std.specs.Cmp.Lexicographic.{slice_cmp}
use Rattle.std.specs.declared.cmp.Ordering.TheVariants.{Less}
use Rattle.std.specs.Ordering.{nat_cmp}
use Rattle.std.proofs.lemmas.List.{get_or-map, length-map, map-append}
use Rattle.std.proofs.lemmas.List.Elements.{All-append, All-from_recursion, Contains-append_cases, Contains-append_right, recursion_from_All}
use Rattle.tsdb_base.specs.declared.point.Point.{Point}
use Rattle.tsdb_base.specs.declared.value.DataType.{DataType}
use Rattle.tsdb_base.specs.declared.value.Encoding.{Encoding}
use Rattle.tsdb_base.specs.Values.{is_suitable, type_of}
use Rattle.tsdb_stats.specs.Nodes.{IsName, IsPath}
use Rattle.tsdb_index.specs.Statistics.{IsStatsOf}
use Rattle.tsdb_index.specs.declared.index.IndexEntry.{IndexEntry}
use Rattle.tsdb_index.specs.declared.index.PageEntry.{PageEntry}
use Rattle.tsdb_index.specs.Entries.{AreInOrder, IsIndex, IsPageOf, names_of}
use Rattle.tsdb_index.specs.Order.{AreNamesBefore}
use Rattle.tsdb_index.specs.Entries as entries
use Rattle.tsdb_index.specs.Faults.{IsIndexRead}
use Rattle.tsdb_index.specs.Versions.{has_sums}
use Rattle.tsdb_index.proofs.OneSpelling.{one_index}
use Rattle.tsdb_index.proofs.Whole.{every_left, every_right}
use Rattle.tsdb_index.proofs.Orders.{in_order}
use Rattle.tsdb_pages.specs.declared.tree.Page.{Page}
use Rattle.tsdb_pages.specs.declared.tree.Chunk.{Chunk}
use Rattle.tsdb_pages.specs.declared.tree.Group.{Group}
use Rattle.tsdb_pages.specs.declared.tree.Tree.{Tree}
use Rattle.tsdb_pages.specs.Pages.{ArePoints, IsInRange}
use Rattle.tsdb_pages.specs.Trees.{IsGroup, IsMade, IsTree, chunks_of, page_points}
use Rattle.tsdb_pages.specs.File.{AreEntries, AreEntriesIn, AreEntriesOf, ArePageEntries, HasSum, HasSums, IsChunkEntry, IsFile, chunk_field, chunk_head, data_field, group_field, group_head, head, head_length, page_field}
use Rattle.tsdb_pages.proofs.Files.{groups_of_tree, IsWholeChunk, IsWholeGroup, of_each_page}
use Rattle.tsdb_pages.proofs.OneFile.{all_of, HavePageSums, page_sums}
use Rattle.tsdb_pages.proofs.Order.{pairs_append}
use Rattle.tsdb_pages.proofs.Entries.{count_pages}
use Rattle.tsdb_pages.proofs.Statistics.{stats_of_type}

-- ---- pages

pages_good : (version : ℕ) (t : DataType) (encoding : Encoding) (place : ℕ) (pages : List Page) (said : List PageEntry) → AllByRecursion (λ page. ArePoints t page.points) pages → AllByRecursion (λ page. All IsInRange page.points) pages
    → place + length (flat_map (page_field encoding) pages) < 2 ^ 64 → ArePageEntries encoding place pages said → HavePageSums version t said → AllByRecursion (IsPageOf version t) said
pages_good version t encoding place [] [] points ranges small say sums = tt
pages_good version t encoding place [] (s ∷ ss) points ranges small say sums = absurd say
pages_good version t encoding place (p ∷ ps) [] points ranges small say sums = absurd say
pages_good version t encoding place (p ∷ ps) (s ∷ ss) points ranges small say sums =
    let n = length-append (page_field encoding p) (flat_map (page_field encoding) ps) in
    let at = say.0.place_is in
    let few = points.0.few in (
      record {
        place = omega (arith, at, n, small);
        stats = stats_of_type version t p.points s.stats points.0.some (omega (arith, few)) points.0.typed ranges.0 say.0.stats sums.0;
      },
      pages_good version t encoding (place + length (page_field encoding p)) ps ss points.1 ranges.1 (omega (arith, n, small)) say.1 sums.1,
    )

-- ---- the points of a chunk

pub points_few : (t : DataType) (pages : List Page) → AllByRecursion (λ page. ArePoints t page.points) pages → length (page_points pages) ≤ 1000 * length pages
points_few t [] are = omega arith
points_few t (p ∷ ps) are =
    let n = length-append p.points (page_points ps) in
    let few = are.0.few in
    let rest = points_few t ps are.1 in
    omega (arith, n, few, rest)

points_some : (t : DataType) (pages : List Page) → 0 < length pages → AllByRecursion (λ page. ArePoints t page.points) pages → 0 < length (page_points pages)
points_some t [] some are = absurd (omega (arith, some))
points_some t (p ∷ ps) some are = let n = length-append p.points (page_points ps) in let here = are.0.some in omega (arith, n, here)

points_typed : (t : DataType) (pages : List Page) → AllByRecursion (λ page. ArePoints t page.points) pages → All (λ (point : Point). type_of point.value ≡ t) (page_points pages)
points_typed t [] are = λ k d lt. absurd (omega (arith, lt))
points_typed t (p ∷ ps) are = All-append (λ (point : Point). type_of point.value ≡ t) p.points (page_points ps) are.0.typed (points_typed t ps are.1)

-- ---- chunks

entry_good : (version : ℕ) (device : List ℕ) (place : ℕ) (chunk : Chunk) (entry : IndexEntry) → IsPath device → IsWholeChunk chunk → place + length (chunk_field chunk) < 2 ^ 64 → IsChunkEntry device place chunk entry → HasSums version entry → entries.IsEntry version entry
entry_good version device place chunk entry is_path is small say sums =
    let t : chunk.data_type ≡ entry.data_type = sym say.type_is in
    let each = recursion_from_All (λ (page : Page). ArePoints chunk.data_type page.points) chunk.pages is.0.pages in
    let count = count_pages chunk.encoding (place + length (chunk_head chunk)) chunk.pages entry.pages say.pages in
    let few = is.0.few in
    let many = points_few chunk.data_type chunk.pages each in
    let n = length-append (chunk_head chunk) (flat_map (page_field chunk.encoding) chunk.pages) in
    let at = say.place_is in
    record {
      device = subst IsPath (sym say.device_is) is_path;
      measurement = subst IsName (sym say.measurement_is) is.1.measurement;
      suits = ap (λ (x : DataType). is_suitable x entry.encoding) say.type_is ∙ ap (is_suitable chunk.data_type) say.encoding_is ∙ is.0.suits;
      place = omega (arith, at, small);
      stats = subst (λ (x : DataType). IsStatsOf (has_sums version) x entry.stats) t
          (stats_of_type version chunk.data_type (page_points chunk.pages) entry.stats (points_some chunk.data_type chunk.pages is.0.some each) (omega (arith, many, few)) (points_typed chunk.data_type chunk.pages each) is.1.points say.stats
          (subst (λ (x : DataType). HasSum version x entry.stats) say.type_is sums.stats));
      few = omega (arith, count, few);
      pages = subst (λ (x : DataType). All (IsPageOf version x) entry.pages) t
          (All-from_recursion (IsPageOf version chunk.data_type) entry.pages
          (pages_good version chunk.data_type chunk.encoding (place + length (chunk_head chunk)) chunk.pages entry.pages each (of_each_page chunk.pages is.1.points) (omega (arith, n, small)) say.pages
          (page_sums version chunk.data_type entry say.type_is sums)));
    }

entries_good : (version : ℕ) (device : List ℕ) (place : ℕ) (chunks : List Chunk) (es : List IndexEntry) → IsPath device → AllByRecursion IsWholeChunk chunks → place + length (flat_map chunk_field chunks) < 2 ^ 64 → AreEntries device place chunks es → AllByRecursion (HasSums version) es → AllByRecursion (entries.IsEntry version) es
entries_good version device place [] [] is_path are small say sums = tt
entries_good version device place [] (e ∷ es) is_path are small say sums = absurd say
entries_good version device place (c ∷ cs) [] is_path are small say sums = absurd say
entries_good version device place (c ∷ cs) (e ∷ es) is_path are small say sums =
    let n = length-append (chunk_field c) (flat_map chunk_field cs) in (
      entry_good version device place c e is_path are.0 (omega (arith, n, small)) say.0 sums.0,
      entries_good version device (place + length (chunk_field c)) cs es is_path are.1 (omega (arith, n, small)) say.1 sums.1,
    )

-- ---- groups

every_append : {A : Type 0} (P : A → Type 0) (xs ys : List A) → AllByRecursion P xs → AllByRecursion P ys → AllByRecursion P (xs ++ ys)
every_append P [] ys are_x are_y = are_y
every_append P (x ∷ xs) ys are_x are_y = (are_x.0, every_append P xs ys are_x.1 are_y)

lists_good : (version place : ℕ) (groups : List Group) (lists : List (List IndexEntry)) → AllByRecursion IsWholeGroup groups → place + length (flat_map group_field groups) < 2 ^ 64 → AreEntriesOf place groups lists → AllByRecursion (HasSums version) (all_of lists) → AllByRecursion (entries.IsEntry version) (all_of lists)
lists_good version place [] [] are small say sums = tt
lists_good version place [] (l ∷ ls) are small say sums = absurd say
lists_good version place (g ∷ gs) [] are small say sums = absurd say
lists_good version place (g ∷ gs) (l ∷ ls) are small say sums =
    let n = length-append (group_field g) (flat_map group_field gs) in
    let m = length-append (group_head g) (flat_map chunk_field g.chunks) in
    every_append (entries.IsEntry version) l (all_of ls)
    (entries_good version g.device (place + length (group_head g)) g.chunks l are.0.0 are.0.1 (omega (arith, n, m, small)) say.0 (every_left (HasSums version) l (all_of ls) sums))
    (lists_good version (place + length (group_field g)) gs ls are.1 (omega (arith, n, small)) say.1 (every_right (HasSums version) l (all_of ls) sums))

-- ---- the names of all chunks

names_in : List Group → List (List ℕ × List ℕ)
names_in [] = []
names_in (g ∷ gs) = map (λ (c : Chunk). (g.device, c.measurement)) g.chunks ++ names_in gs

chunk_names : (device : List ℕ) (place : ℕ) (chunks : List Chunk) (es : List IndexEntry) → AreEntries device place chunks es → map names_of es ≡ map (λ (c : Chunk). (device, c.measurement)) chunks
chunk_names device place [] [] say = refl
chunk_names device place [] (e ∷ es) say = absurd say
chunk_names device place (c ∷ cs) [] say = absurd say
chunk_names device place (c ∷ cs) (e ∷ es) say =
    let d : e.device ≡ device = say.0.device_is in
    let m : e.measurement ≡ c.measurement = say.0.measurement_is in
    let others : map names_of es ≡ map (λ (c : Chunk). (device, c.measurement)) cs = chunk_names device (place + length (chunk_field c)) cs es say.1 in
    cc

all_names : (place : ℕ) (groups : List Group) (lists : List (List IndexEntry)) → AreEntriesOf place groups lists → map names_of (all_of lists) ≡ names_in groups
unfolding names_in
all_names place [] [] say = refl
all_names place [] (l ∷ ls) say = absurd say
all_names place (g ∷ gs) [] say = absurd say
all_names place (g ∷ gs) (l ∷ ls) say =
    map-append names_of l (all_of ls)
    ∙ ap (λ (ns : List (List ℕ × List ℕ)). ns ++ map names_of (all_of ls)) (chunk_names g.device (place + length (group_head g)) g.chunks l say.0)
    ∙ ap (λ (ns : List (List ℕ × List ℕ)). map (λ (c : Chunk). (g.device, c.measurement)) g.chunks ++ ns) (all_names (place + length (group_field g)) gs ls say.1)

one_name_a_chunk : (groups : List Group) → length (names_in groups) ≡ length (chunks_of groups)
unfolding names_in
one_name_a_chunk [] = refl
one_name_a_chunk (g ∷ gs) =
    let named = length-append (map (λ (c : Chunk). (g.device, c.measurement)) g.chunks) (names_in gs) in
    let chunks = length-append g.chunks (chunks_of gs) in
    let each = length-map {B = List ℕ × List ℕ} g.chunks (λ (c : Chunk). (g.device, c.measurement)) in
    let rest = one_name_a_chunk gs in
    omega (arith, named, chunks, each, rest)

pairs_of_map : {A B : Type 0} (R : B → B → Type 0) (f : A → B) (xs : List A) → AllPairs (λ a b. R (f a) (f b)) xs → AllPairs R (map f xs)
pairs_of_map R f [] pairs = λ i j d l m. absurd (omega (arith, m))
pairs_of_map R f (x ∷ xs) pairs = λ i j d l m.
    let n = length-map (x ∷ xs) f in
    let before : i < length (x ∷ xs) = omega (arith, l, m, n) in
    let behind : j < length (x ∷ xs) = omega (arith, m, n) in
    subst (λ b. R (get_or (map f (x ∷ xs)) i d) b) (sym (get_or-map f (x ∷ xs) j x d behind))
    (subst (λ a. R a (f (get_or (x ∷ xs) j x))) (sym (get_or-map f (x ∷ xs) i x d before)) (pairs i j x l behind))

-- each name is that of a chunk of one of the groups
record IsOfGroup (groups : List Group) (names : List ℕ × List ℕ) : Type 0 where
  group : Group
  in-groups : Contains groups group
  device : names.0 ≡ group.device

first_device : (device : List ℕ) (chunks : List Chunk) (names : List ℕ × List ℕ) → Contains (map (λ (c : Chunk). (device, c.measurement)) chunks) names → names.0 ≡ device
first_device device [] names (k, lt, at) = absurd (omega (arith, lt))
first_device device (c ∷ cs) names (zero, lt, at) = ap (λ (n : List ℕ × List ℕ). n.0) (sym at)
first_device device (c ∷ cs) names (suc k, lt, at) = first_device device cs names (k, omega (arith, lt), at)

later_group : (g : Group) (gs : List Group) (names : List ℕ × List ℕ) → IsOfGroup gs names → IsOfGroup (g ∷ gs) names
later_group g gs names o = record { group = o.group; in-groups = Contains-append_right (g ∷ []) gs o.group o.in-groups; device = o.device }

name_of_group : (groups : List Group) (names : List ℕ × List ℕ) → Contains (names_in groups) names → IsOfGroup groups names
unfolding names_in
name_of_group [] names (k, lt, at) = absurd (omega (arith, lt))
name_of_group (g ∷ gs) names has =
    ⊎_elim
    (λ here. record { group = g; in-groups = (0, omega arith, refl); device = first_device g.device g.chunks names here })
    (λ there. later_group g gs names (name_of_group gs names there))
    (Contains-append_cases (map (λ (c : Chunk). (g.device, c.measurement)) g.chunks) (names_in gs) names has)

-- the first of a list stands so to each of the others
first_to : {A : Type 0} (R : A → A → Type 0) (x : A) (xs : List A) (y : A) → AllPairs R (x ∷ xs) → Contains xs y → R x y
first_to R x xs y pairs (k, lt, at) = subst (λ b. R x b) at (pairs 0 (suc k) y (omega arith) (omega (arith, lt)))

pairs_tail : {A : Type 0} (R : A → A → Type 0) (x : A) (xs : List A) → AllPairs R (x ∷ xs) → AllPairs R xs
pairs_tail R x xs pairs = λ i j d l m. pairs (suc i) (suc j) d (omega (arith, l)) (omega (arith, m))

names_pair : (groups : List Group) → AllByRecursion IsGroup groups → AllPairs (λ (a b : Group). slice_cmp nat_cmp a.device b.device ≡ Less) groups → AllPairs AreNamesBefore (names_in groups)
unfolding names_in
names_pair [] are rising = λ i j d l m. absurd (omega (arith, m))
names_pair (g ∷ gs) are rising =
    pairs_append AreNamesBefore (map (λ (c : Chunk). (g.device, c.measurement)) g.chunks) (names_in gs)
    (pairs_of_map AreNamesBefore (λ (c : Chunk). (g.device, c.measurement)) g.chunks (λ i j d l m. inr (refl, are.0.rising i j d l m)))
    (names_pair gs are.1 (pairs_tail (λ (a b : Group). slice_cmp nat_cmp a.device b.device ≡ Less) g gs rising))
    (λ x y in_x in_y.
    let o = name_of_group gs y in_y in
    let less = first_to (λ (a b : Group). slice_cmp nat_cmp a.device b.device ≡ Less) g gs o.group rising o.in-groups in
    inl (subst (λ (n : List ℕ). slice_cmp nat_cmp n y.0 ≡ Less) (sym (first_device g.device g.chunks x in_x)) (subst (λ (n : List ℕ). slice_cmp nat_cmp g.device n ≡ Less) (sym o.device) less)))

neighbours : {A : Type 0} (R : A → A → Type 0) (xs : List A) → AllPairs R xs → AllAdjacentBelow R xs (length xs)
neighbours R xs pairs = λ k d l. pairs k (k + 1) d (omega arith) l

-- ---- the index of a tree

-- a tree has a chunk
some_chunks : (groups : List Group) → 0 < length groups → AllByRecursion IsGroup groups → 0 < length (chunks_of groups)
some_chunks [] some are = absurd (omega (arith, some))
some_chunks (g ∷ gs) some are = let n = length-append g.chunks (chunks_of gs) in let here = are.0.some in omega (arith, n, here)

pub entries_are_index : (version : ℕ) (tree : Tree) (es : List IndexEntry) → IsTree tree → IsMade tree → AreEntriesIn tree es → All (HasSums version) es → length (data_field version tree) < 2 ^ 64 → IsIndex version es
entries_are_index version tree es is made say sums small =
    let groups = tree.groups in
    let each = recursion_from_All IsGroup groups is.groups in
    let names = all_names head_length groups say.by_group say.say in
    let named : map names_of es ≡ names_in tree.groups = ap (map names_of) (sym say.all) ∙ names in
    let number : length es ≡ length (chunks_of tree.groups) = sym (length-map es names_of) ∙ ap length named ∙ one_name_a_chunk groups in
    let size = length-append (head version) (flat_map group_field groups) in
    let some = some_chunks groups is.some each in
    let few = is.few in
    record {
      some = omega (arith, number, some);
      few = omega (arith, number, few);
      good = subst (λ (l : List IndexEntry). All (entries.IsEntry version) l) say.all
          (All-from_recursion (entries.IsEntry version) (all_of say.by_group) (lists_good version head_length groups say.by_group (groups_of_tree tree is made) (omega (arith, size, small)) say.say
          (recursion_from_All (HasSums version) (all_of say.by_group) (subst (λ (l : List IndexEntry). All (HasSums version) l) (sym say.all) sums))));
      rising = subst (λ (ns : List (List ℕ × List ℕ)). AreInOrder AreNamesBefore ns) (sym named)
          (in_order AreNamesBefore (names_in groups) (neighbours AreNamesBefore (names_in groups) (names_pair groups each is.rising)));
    }

-- what is read of the index of a tree's file are the entries of the tree
pub read_is : (tree : Tree) (bytes : List ℕ) (es : List IndexEntry) → IsTree tree → IsMade tree → (file : IsFile tree bytes) → length (data_field file.version tree) < 2 ^ 64
    → IsIndexRead file.version (length (data_field file.version tree)) file.root file.index_bytes es → file.entries ≡ es
read_is tree bytes es is made file small read =
    let mine = entries_are_index file.version tree file.entries is made file.say file.sums small in
    one_index file.version (length (data_field file.version tree)) file.root file.index_bytes file.entries es mine.good read.index.good file.index_is read.spelling

pub read_entries : (tree : Tree) (bytes : List ℕ) (es : List IndexEntry) → IsTree tree → IsMade tree → (file : IsFile tree bytes) → length (data_field file.version tree) < 2 ^ 64
    → IsIndexRead file.version (length (data_field file.version tree)) file.root file.index_bytes es → AreEntriesIn tree es
read_entries tree bytes es is made file small read = subst (AreEntriesIn tree) (read_is tree bytes es is made file small read) file.say
