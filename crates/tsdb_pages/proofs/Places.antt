-- Where parts stand in bytes, and the parts of a tree in its file.
use Rattle.std.proofs.Common.{◌≡◌, ℕ, zero, suc, ◌+◌, ◌-◌, ◌<◌, List, [], ◌∷◌, ◌++◌, length, take, drop, get_or, refl, sym, ap, ◌∙◌, subst, append_assoc, length-append, arith}
use Rattle.std.specs.Prelude.{All, Contains}
use Rattle.std.specs.List.{flat_map}
use Rattle.std.proofs.lemmas.List.{drop_at, length-take-le, take_at, take-append-drop}
use Rattle.std.proofs.lemmas.List.Elements.{All-append, All-cons, All-nil}
use Rattle.tsdb_base.specs.declared.value.Encoding.{Encoding}
use Rattle.tsdb_base.specs.Fields.{number64}
use Rattle.tsdb_index.specs.declared.index.IndexEntry.{IndexEntry}
use Rattle.tsdb_index.specs.declared.index.PageEntry.{PageEntry}
use Rattle.tsdb_index.proofs.OneSpelling.{root_begins}
use Rattle.tsdb_pages.specs.declared.tree.Page.{Page}
use Rattle.tsdb_pages.specs.declared.tree.Chunk.{Chunk}
use Rattle.tsdb_pages.specs.declared.tree.Group.{Group}
use Rattle.tsdb_pages.specs.declared.tree.Tree.{Tree}
use Rattle.tsdb_pages.specs.File.{AreEntries, AreEntriesIn, AreEntriesOf, ArePageEntries, IsChunkEntry, IsFile, chunk_field, chunk_head, data_field, group_field, group_head, head, head_length, magic, page_field}
use Rattle.tsdb_pages.specs.Places.{HasEnds, HasPlaces, IsPageAt, StandsAt}
use Rattle.tsdb_pages.proofs.Entries.{count_pages}
use Rattle.tsdb_pages.proofs.OneFile.{all_of}

-- ---- a part at a place

-- bytes by what stands before a part and what stands behind it
pub stands : (front part behind : List ℕ) → StandsAt (length front) part (front ++ (part ++ behind))
stands front part behind = record {
  inside = let n = length-append front (part ++ behind) in let m = length-append part behind in omega (arith, n, m);
  bytes_are = ap (take (length part)) (drop_at front (part ++ behind) (length front) refl) ∙ take_at part behind (length part) refl;
}

pub stands_in : (place : ℕ) (bytes front part behind : List ℕ) → bytes ≡ front ++ (part ++ behind) → length front ≡ place → StandsAt place part bytes
stands_in place bytes front part behind is at =
    subst (λ (b : List ℕ). StandsAt place part b) (sym is) (subst (λ (n : ℕ). StandsAt n part (front ++ (part ++ behind))) at (stands front part behind))

-- what stands before a part that stands somewhere, and what stands behind it
pub record IsCut (place : ℕ) (part bytes : List ℕ) : Type 0 where
  pub front : List ℕ
  pub behind : List ℕ
  pub is : bytes ≡ front ++ (part ++ behind)
  pub at : length front ≡ place

pub cut : (place : ℕ) (part bytes : List ℕ) → StandsAt place part bytes → IsCut place part bytes
cut place part bytes s = record {
  front = take place bytes;
  behind = drop (length part) (drop place bytes);
  is = sym (take-append-drop place bytes) ∙ ap (λ (l : List ℕ). take place bytes ++ l) (sym (take-append-drop (length part) (drop place bytes)) ∙ ap (λ (l : List ℕ). l ++ drop (length part) (drop place bytes)) s.bytes_are);
  at = length-take-le place bytes (let inside = s.inside in omega (arith, inside));
}

-- two parts, one behind the other
pub stands_first : (place : ℕ) (a b bytes : List ℕ) → StandsAt place (a ++ b) bytes → StandsAt place a bytes
stands_first place a b bytes s =
    let c = cut place (a ++ b) bytes s in
    stands_in place bytes c.front a (b ++ c.behind) (c.is ∙ ap (λ (l : List ℕ). c.front ++ l) (append_assoc a b c.behind)) c.at

pub stands_second : (place : ℕ) (a b bytes : List ℕ) → StandsAt place (a ++ b) bytes → StandsAt (place + length a) b bytes
stands_second place a b bytes s =
    let c = cut place (a ++ b) bytes s in
    stands_in (place + length a) bytes (c.front ++ a) b c.behind
    (c.is ∙ ap (λ (l : List ℕ). c.front ++ l) (append_assoc a b c.behind) ∙ sym (append_assoc c.front a (b ++ c.behind)))
    (length-append c.front a ∙ ap (λ (n : ℕ). n + length a) c.at)

-- ---- pages

pages_stand : (encoding : Encoding) (place : ℕ) (pages : List Page) (entries : List PageEntry) (bytes : List ℕ) → ArePageEntries encoding place pages entries → StandsAt place (flat_map (page_field encoding) pages) bytes
    → (k : ℕ) (page : Page) (said : PageEntry) → k < length entries → IsPageAt encoding bytes (get_or pages k page) (get_or entries k said)
pages_stand encoding place [] [] bytes say s k page said lt = absurd (omega (arith, lt))
pages_stand encoding place [] (e ∷ es) bytes say s k page said lt = absurd say
pages_stand encoding place (p ∷ ps) [] bytes say s k page said lt = absurd say
pages_stand encoding place (p ∷ ps) (e ∷ es) bytes say s zero page said lt = record {
  stands = subst (λ (n : ℕ). StandsAt n (page_field encoding p) bytes) (sym say.0.place_is) (stands_first place (page_field encoding p) (flat_map (page_field encoding) ps) bytes s);
  stats = say.0.stats;
}
pages_stand encoding place (p ∷ ps) (e ∷ es) bytes say s (suc k) page said lt =
    pages_stand encoding (place + length (page_field encoding p)) ps es bytes say.1 (stands_second place (page_field encoding p) (flat_map (page_field encoding) ps) bytes s) k page said (omega (arith, lt))

-- ---- chunks and groups

chunk_stands : (tree : Tree) (group : Group) (chunk : Chunk) (place : ℕ) (entry : IndexEntry) (bytes : List ℕ) → Contains tree.groups group → Contains group.chunks chunk
    → IsChunkEntry group.device place chunk entry → StandsAt place (chunk_field chunk) bytes → HasPlaces tree bytes entry
chunk_stands tree group chunk place entry bytes in_tree in_group say s =
    let at : place ≡ entry.place = sym say.place_is in
    let head_stands = stands_first place (chunk_head chunk) (flat_map (page_field chunk.encoding) chunk.pages) bytes s in
    record {
      group = group;
      chunk = chunk;
      in_tree = in_tree;
      in_group = in_group;
      says = subst (λ (n : ℕ). IsChunkEntry group.device n chunk entry) at say;
      stands = subst (λ (n : ℕ). StandsAt n (chunk_field chunk) bytes) at s;
      head = subst (λ (n : ℕ). StandsAt n (chunk_head chunk) bytes) at head_stands;
      count = count_pages chunk.encoding (place + length (chunk_head chunk)) chunk.pages entry.pages say.pages;
      pages = pages_stand chunk.encoding (place + length (chunk_head chunk)) chunk.pages entry.pages bytes say.pages
          (stands_second place (chunk_head chunk) (flat_map (page_field chunk.encoding) chunk.pages) bytes s);
    }

-- what each item of a list is contained in
later : {A : Type 0} (whole : List A) (x : A) (xs : List A) → ((y : A) → Contains (x ∷ xs) y → Contains whole y) → (y : A) → Contains xs y → Contains whole y
later whole x xs has y (k, lt, at) = has y (suc k, omega (arith, lt), at)

first_of : {A : Type 0} (whole : List A) (x : A) (xs : List A) → ((y : A) → Contains (x ∷ xs) y → Contains whole y) → Contains whole x
first_of whole x xs has = has x (0, omega arith, refl)

chunks_stand : (tree : Tree) (group : Group) (place : ℕ) (chunks : List Chunk) (entries : List IndexEntry) (bytes : List ℕ) → Contains tree.groups group → ((c : Chunk) → Contains chunks c → Contains group.chunks c)
    → AreEntries group.device place chunks entries → StandsAt place (flat_map chunk_field chunks) bytes → All (HasPlaces tree bytes) entries
chunks_stand tree group place [] [] bytes in_tree has say s = All-nil (HasPlaces tree bytes)
chunks_stand tree group place [] (e ∷ es) bytes in_tree has say s = absurd say
chunks_stand tree group place (c ∷ cs) [] bytes in_tree has say s = absurd say
chunks_stand tree group place (c ∷ cs) (e ∷ es) bytes in_tree has say s =
    All-cons (HasPlaces tree bytes) e es
    (chunk_stands tree group c place e bytes in_tree (first_of group.chunks c cs has) say.0 (stands_first place (chunk_field c) (flat_map chunk_field cs) bytes s))
    (chunks_stand tree group (place + length (chunk_field c)) cs es bytes in_tree (later group.chunks c cs has) say.1 (stands_second place (chunk_field c) (flat_map chunk_field cs) bytes s))

groups_stand : (tree : Tree) (place : ℕ) (groups : List Group) (lists : List (List IndexEntry)) (bytes : List ℕ) → ((g : Group) → Contains groups g → Contains tree.groups g)
    → AreEntriesOf place groups lists → StandsAt place (flat_map group_field groups) bytes → All (HasPlaces tree bytes) (all_of lists)
groups_stand tree place [] [] bytes has say s = All-nil (HasPlaces tree bytes)
groups_stand tree place [] (l ∷ ls) bytes has say s = absurd say
groups_stand tree place (g ∷ gs) [] bytes has say s = absurd say
groups_stand tree place (g ∷ gs) (l ∷ ls) bytes has say s =
    let here = stands_first place (group_field g) (flat_map group_field gs) bytes s in
    All-append (HasPlaces tree bytes) l (all_of ls)
    (chunks_stand tree g (place + length (group_head g)) g.chunks l bytes (first_of tree.groups g gs has) (λ c in_group. in_group) say.0 (stands_second place (group_head g) (flat_map chunk_field g.chunks) bytes here))
    (groups_stand tree (place + length (group_field g)) gs ls bytes (later tree.groups g gs has) say.1 (stands_second place (group_field g) (flat_map group_field gs) bytes s))

-- ---- files

-- a file's bytes: head and groups, index, and the tail
file_parted : (tree : Tree) (bytes : List ℕ) (file : IsFile tree bytes) → bytes ≡ data_field file.version tree ++ (file.index_bytes ++ (number64 file.root ++ magic))
file_parted tree bytes file =
    file.bytes_are ∙ append_assoc (data_field file.version tree ++ file.index_bytes) (number64 file.root) magic ∙ append_assoc (data_field file.version tree) file.index_bytes (number64 file.root ++ magic)

data_stands : (tree : Tree) (bytes : List ℕ) (file : IsFile tree bytes) → StandsAt 0 (data_field file.version tree) bytes
data_stands tree bytes file = stands_in 0 bytes [] (data_field file.version tree) (file.index_bytes ++ (number64 file.root ++ magic)) (file_parted tree bytes file) refl

pub entries_stand : (tree : Tree) (bytes : List ℕ) (entries : List IndexEntry) → IsFile tree bytes → AreEntriesIn tree entries → All (HasPlaces tree bytes) entries
entries_stand tree bytes entries file say =
    subst (λ (es : List IndexEntry). All (HasPlaces tree bytes) es) say.all
    (groups_stand tree head_length tree.groups say.by_group bytes (λ g in_tree. in_tree) say.say
    (stands_second 0 (head file.version) (flat_map group_field tree.groups) bytes (data_stands tree bytes file)))

pub file_ends : (tree : Tree) (bytes : List ℕ) (file : IsFile tree bytes) → HasEnds file.version tree bytes file.entries file.root file.index_bytes
file_ends tree bytes file =
    let front_bytes = data_field file.version tree in
    let tail = number64 file.root ++ magic in
    let is = file_parted tree bytes file in
    let whole = ap length is ∙ length-append front_bytes (file.index_bytes ++ tail) in
    let rest = length-append file.index_bytes (number64 file.root ++ magic) in
    let front : length (data_field file.version tree ++ file.index_bytes) ≡ length bytes - 14 = let n = length-append front_bytes file.index_bytes in omega (arith, whole, rest, n) in
    record {
      size = omega (arith, whole, rest);
      head = stands_first 0 (head file.version) (flat_map group_field tree.groups) bytes (data_stands tree bytes file);
      data_stands = data_stands tree bytes file;
      index_stands = stands_in (length front_bytes) bytes front_bytes file.index_bytes tail is refl;
      index_is = file.index_is;
      begins = root_begins (length front_bytes) file.root file.entries file.index_bytes file.index_is;
      tail = ap (drop (length bytes - 14)) (is ∙ sym (append_assoc front_bytes file.index_bytes tail)) ∙ drop_at (front_bytes ++ file.index_bytes) tail (length bytes - 14) front;
    }
