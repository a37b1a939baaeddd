-- Files whose indexes were read: what is found of a series among the entries of an index is what a tree has.
use Rattle.std.proofs.Common.{◌≡◌, ℕ, ◌+◌, ◌<◌, inl, inr, List, [], ◌∷◌, ◌++◌, length, map, take, get_or, Err, refl, sym, ap, subst, ◌∙◌}
use Rattle.std.specs.Prelude.{All, IfSome, Option, None, Some, flat_map}
use Rattle.std.proofs.lemmas.List.Elements.{All-contains}
use Rattle.std.specs.List.{AllZip}
use Rattle.std.proofs.lemmas.List.{map-append, take_more}
use Rattle.tsdb_streams.proofs.OpenFacts.{pages_of_store, part_of_store}
use Rattle.tsdb_streams.proofs.Trees.{among_of, contains_of}
use Rattle.tsdb_streams.specs.Lanes.{IsLaneOfStore, IsSourceOfStore, OpensAs}
use Rattle.tsdb_streams.specs.declared.lane.Lane.{Lane}
use Rattle.tsdb_streams.specs.declared.lane.Lane.TheVariants.{Pages, Part}
use Rattle.tsdb_streams.specs.declared.source.StreamSource.{StreamSource}
use Rattle.tsdb_streams.specs.declared.source.StreamSource.TheVariants as source
use Rattle.tsdb_index.specs.Entries.{AreInOrder, names_of}
use Rattle.tsdb_path.specs.Order.{AreNamesBefore}
use Rattle.tsdb_index.specs.Finding.{IsEntryFor}
use Rattle.tsdb_index.specs.declared.index.FileMeta.{FileMeta}
use Rattle.tsdb_index.specs.declared.index.IndexEntry.{IndexEntry}
use Rattle.tsdb_base.proofs.Lists.{among_left, among_right}
use Rattle.tsdb_base.specs.Lists.{Among}
use Rattle.tsdb_outside.specs.Files.{NamedFile, Store}
use Rattle.tsdb_pages.specs.File.{AreEntries, AreEntriesIn, AreEntriesOf, HasSums, IsFile, chunk_field, group_field, group_head, head_length, version_in}
use Rattle.tsdb_pages.specs.Trees.{IsMade, IsTree}
use Rattle.tsdb_pages.specs.declared.tree.Chunk.{Chunk}
use Rattle.tsdb_pages.specs.declared.tree.Group.{Group}
use Rattle.tsdb_pages.specs.declared.tree.Tree.{Tree}
use Rattle.tsfile_reader.specs.Answers.{IsNotDamaged}
use Rattle.tsfile_reader.specs.LookUp.{IsEntryInTree}
use Rattle.tsfile_reader.specs.Meta.{IsMetaIn, IsMetaOf}
use Rattle.tsfile_reader.specs.declared.fault.ReadFault.{ReadFault}

abbrev Names : Type 0
Names = List ℕ × List ℕ

-- ---- the index of a file

-- what was read of a file is its index
pub index_of : (o : Option (List ℕ)) (meta : FileMeta) → IfSome o (λ b. IsMetaIn b meta)
    → IfSome o (λ b. (tree : Tree) → IsTree tree → IsMade tree → IsFile tree b → Unit {0} × IsMetaOf tree b meta)
    → IfSome o (λ b. AreInOrder AreNamesBefore (map names_of meta.index.entries) × ((tree : Tree) → IsTree tree → IsMade tree → IsFile tree b → AreEntriesIn tree meta.index.entries × All (HasSums (version_in b)) meta.index.entries))
index_of None meta has tree = tt
index_of (Some b) meta has tree = (has.outline.index.index.rising, λ t is made file. let says = (tree t is made file).1 in (says.entries, says.sums))

-- the index of a whole file is not damaged
pub undamaged_whole : (T : Type 0) (o : Option (List ℕ)) (fault : ReadFault) (P : List ℕ → Tree → Type 0)
    → IfSome o (λ b. (tree : Tree) → IsTree tree → IsMade tree → IsFile tree b → IsNotDamaged {T = T} (Err fault) × P b tree)
    → IfSome o (λ b. (tree : Tree) × IsTree tree × IsMade tree × IsFile tree b)
    → (bytes : List ℕ) → o ≡ Some bytes → IsNotDamaged {T = T} (Err fault)
undamaged_whole T None fault P has whole bytes is = absurd cc
undamaged_whole T (Some b) fault P has whole bytes is = (has whole.0 whole.1 whole.2 whole.3).0

-- ---- the entry of a chunk

-- an entry has the names
record HasNamed (names : Names) (entries : List IndexEntry) : Type 0 where
  pub entry : IndexEntry
  pub there : Among entry entries
  pub named : names_of entry ≡ names

pair : List ℕ → List ℕ → Names
pair device measurement = (device, measurement)

named_of : (entry : IndexEntry) (names : Names) → entry.device ≡ names.0 → entry.measurement ≡ names.1 → names_of entry ≡ names
unfolding pair
named_of entry names device measurement = ap (λ d. pair d entry.measurement) device ∙ ap (pair names.0) measurement

named_chunk : (names : Names) (device : List ℕ) (place : ℕ) (chunks : List Chunk) (entries : List IndexEntry) (chunk : Chunk)
    → AreEntries device place chunks entries → Among chunk chunks → device ≡ names.0 → chunk.measurement ≡ names.1
    → HasNamed names entries
named_chunk names device place [] entries chunk say among of measured = absurd among
named_chunk names device place (c ∷ cs) [] chunk say among of measured = absurd say
named_chunk names device place (c ∷ cs) (e ∷ es) chunk say (inl same) of measured = record {
  entry = e;
  there = inl refl;
  named = named_of e names (say.0.device_is ∙ of) (say.0.measurement_is ∙ ap (λ (x : Chunk). x.measurement) same ∙ measured);
}
named_chunk names device place (c ∷ cs) (e ∷ es) chunk say (inr among) of measured =
    let rest = named_chunk names device (place + length (chunk_field c)) cs es chunk say.1 among of measured in
    record { entry = rest.entry; there = inr rest.there; named = rest.named }

named_group : (names : Names) (place : ℕ) (groups : List Group) (by_group : List (List IndexEntry)) (group : Group) (chunk : Chunk)
    → AreEntriesOf place groups by_group → Among group groups → Among chunk group.chunks → group.device ≡ names.0
    → chunk.measurement ≡ names.1 → HasNamed names (flat_map (λ list. list) by_group)
named_group names place [] by_group group chunk say among inside of measured = absurd among
named_group names place (g ∷ gs) [] group chunk say among inside of measured = absurd say
named_group names place (g ∷ gs) (es ∷ others) group chunk say (inl same) inside of measured =
    let here = named_chunk names g.device (place + length (group_head g)) g.chunks es chunk say.0
    (subst (λ (x : Group). Among chunk x.chunks) (sym same) inside) (ap (λ (x : Group). x.device) same ∙ of) measured in
    record { entry = here.entry; there = among_left es (flat_map (λ list. list) others) here.entry here.there; named = here.named }
named_group names place (g ∷ gs) (es ∷ others) group chunk say (inr among) inside of measured =
    let rest = named_group names (place + length (group_field g)) gs others group chunk say.1 among inside of measured in
    record { entry = rest.entry; there = among_right es (flat_map (λ list. list) others) rest.entry rest.there; named = rest.named }

-- what is found among the entries of a tree's index is what the tree has
found_in_tree : (version : ℕ) (tree : Tree) (names : Names) (entries : List IndexEntry) (found : Option IndexEntry) → AreEntriesIn tree entries
    → All (HasSums version) entries → IsEntryFor names entries found → IsEntryInTree version tree names found
found_in_tree version tree names entries None say sums has = λ group chunk there inside device measurement.
    let named = named_group names head_length tree.groups say.by_group group chunk say.say (among_of group tree.groups there)
    (among_of chunk group.chunks inside) device measurement in
    has named.entry (contains_of named.entry entries (subst (Among named.entry) say.all named.there)) named.named
found_in_tree version tree names entries (Some entry) say sums has =
    (record { entries = entries; say = say; there = has.0 }, has.1, All-contains (HasSums version) entries entry sums has.0)

-- what a search among the entries in their order finds
pub found_in : (o : Option (List ℕ)) (names : Names) (entries : List IndexEntry) (found : Option IndexEntry)
    → IfSome o (λ b. AreInOrder AreNamesBefore (map names_of entries) × ((tree : Tree) → IsTree tree → IsMade tree → IsFile tree b → AreEntriesIn tree entries × All (HasSums (version_in b)) entries))
    → (AreInOrder AreNamesBefore (map names_of entries) → IsEntryFor names entries found)
    → IfSome o (λ b. (tree : Tree) → IsTree tree → IsMade tree → IsFile tree b → IsEntryInTree (version_in b) tree names found)
found_in None names entries found index search_is = tt
found_in (Some b) names entries found index search_is = λ tree is made file.
    let says = index.1 tree is made file in
    found_in_tree (version_in b) tree names entries found says.0 says.1 (search_is index.0)

-- ---- what a look-up of one series finds

pub finds : (o : Option (List ℕ)) (names : Names) (found : Option IndexEntry)
    → IfSome o (λ b. (tree : Tree) → IsTree tree → IsMade tree → IsFile tree b → IsEntryInTree (version_in b) tree names found)
    → IfSome o (λ b. (tree : Tree) → IsTree tree → IsMade tree → IsFile tree b → Unit {0} × IsEntryInTree (version_in b) tree names found)
finds None names found has = tt
finds (Some b) names found has = λ tree is made file. (tt, has tree is made file)

pub found_by : (o : Option (List ℕ)) (names : Names) (found : Option IndexEntry)
    → IfSome o (λ b. (tree : Tree) → IsTree tree → IsMade tree → IsFile tree b → Unit {0} × IsEntryInTree (version_in b) tree names found)
    → IfSome o (λ b. (tree : Tree) → IsTree tree → IsMade tree → IsFile tree b → IsEntryInTree (version_in b) tree names found)
found_by None names found has = tt
found_by (Some b) names found has = λ tree is made file. (has tree is made file).1

-- ---- lists that a loop has gone through so far

zip_push : {A B : Type 0} (R : A → B → Type 0) (xs : List A) (ys : List B) (x : A) (y : B) → AllZip R xs ys → R x y
    → AllZip R (xs ++ x ∷ []) (ys ++ y ∷ [])
zip_push R [] [] x y zip one = (one, tt)
zip_push R [] (z ∷ ys) x y zip one = absurd zip
zip_push R (w ∷ xs) [] x y zip one = absurd zip
zip_push R (w ∷ xs) (z ∷ ys) x y zip one = (zip.0, zip_push R xs ys x y zip.1 one)

pub zip_more : {X A B : Type 0} (f : X → A) (R : A → B → Type 0) (xs : List X) (i : ℕ) (x : X) (ys more : List B) (y : B)
    → i < length xs → x ≡ get_or xs i x → AllZip R (map f (take i xs)) ys → R (f x) y → more ≡ ys ++ y ∷ []
    → AllZip R (map f (take (i + 1) xs)) more
zip_more f R xs i x ys more y below at zip one push =
    let taken : map f (take (i + 1) xs) ≡ map f (take i xs) ++ f x ∷ [] =
    ap (map f) (take_more xs i x below ∙ ap (λ z. take i xs ++ z ∷ []) (sym at)) ∙ map-append f (take i xs) (x ∷ []) in
    subst (λ l. AllZip R l more) (sym taken) (subst (AllZip R (map f (take i xs) ++ f x ∷ [])) (sym push) (zip_push R (map f (take i xs)) ys (f x) y zip one))

-- ---- what is opened is of the store of its file

pub opened_of : {R : Type 0} (file : R → NamedFile) (names : Names) (store : Store) (from : StreamSource R) (lane : Lane R)
    → OpensAs file names from lane → IsSourceOfStore file store from → IsLaneOfStore file store lane
opened_of file names store (source.File right born) (Pages lane) opens of =
    pages_of_store file store lane (ap (λ r. (file r.now).store) opens.new.0 ∙ of)
opened_of file names store (source.File right born) (Part lane) opens of = part_of_store file store lane
opened_of file names store (source.Part points born) (Pages lane) opens of = absurd opens.new
opened_of file names store (source.Part points born) (Part lane) opens of = part_of_store file store lane
