-- The bytes of an index: leaves of 256 entries, and behind them the root, which points at each leaf.
use Rattle.std.specs.Prelude.{◌≡◌, ℕ, ◌+◌, ◌-◌, ◌<◌, ◌≤◌, List, [], ◌∷◌, ◌++◌, length, drop}
use Rattle.std.specs.List.{flat_map}
use Rattle.tsdb_base.specs.Fields.{number16, number32, number64, type_field, encoding_field}
use Rattle.tsdb_base.specs.Plain.{plain_text}
use Rattle.tsdb_fields.specs.Statistics.{stats_field}
use Rattle.tsdb_index.specs.declared.marks.TheConstants.{LEAF, ROOT}
use Rattle.tsdb_index.specs.declared.index.IndexEntry.{IndexEntry}
use Rattle.tsdb_index.specs.declared.index.PageEntry.{PageEntry}
use Rattle.tsdb_base.specs.Limits.{max_leaf_entries}

-- a page: its place and its statistics
abbrev pub page_entry_field : PageEntry → List ℕ
page_entry_field page = number64 page.place ++ stats_field page.stats

-- a chunk: its names, type, encoding, place and statistics, and its pages behind their number
abbrev pub entry_field : IndexEntry → List ℕ
entry_field entry = plain_text entry.device ++ plain_text entry.measurement
    ++ type_field entry.data_type ++ encoding_field entry.encoding ++ number64 entry.place ++ stats_field entry.stats
    ++ number32 (length entry.pages) ++ flat_map page_entry_field entry.pages

-- a leaf: 49, the number of its entries, and the entries
abbrev pub leaf_field : List IndexEntry → List ℕ
leaf_field leaf = LEAF ∷ number16 (length leaf) ++ flat_map entry_field leaf

-- a pointer at a leaf: the names of the leaf's first entry, and the leaf's place
abbrev pub pointer_field : IndexEntry → ℕ → List ℕ
pointer_field first place = plain_text first.device ++ plain_text first.measurement ++ number64 place

-- the pointers at leaves that stand one behind another from a place on
abbrev pub pointers : ℕ → List (List IndexEntry) → List ℕ
pointers place [] = []
pointers place ([] ∷ leaves) = pointers (place + length (leaf_field [])) leaves
pointers place ((first ∷ others) ∷ leaves) =
    pointer_field first place ++ pointers (place + length (leaf_field (first ∷ others))) leaves

-- the root: 52, the number of leaves, and a pointer for each
abbrev pub root_field : ℕ → List (List IndexEntry) → List ℕ
root_field place leaves = ROOT ∷ number32 (length leaves) ++ pointers place leaves

-- each leaf has 256 entries, and the last one 1 to 256
abbrev pub AreLeaves : List (List IndexEntry) → Type 0
AreLeaves [] = ⊥
AreLeaves (last ∷ []) = (0 < length last) × (length last ≤ max_leaf_entries)
AreLeaves (leaf ∷ next ∷ leaves) = (length leaf ≡ max_leaf_entries) × AreLeaves (next ∷ leaves)

-- the entries stand in these leaves
pub record StandIn (entries : List IndexEntry) (leaves : List (List IndexEntry)) : Type 0 where
  pub sizes : AreLeaves leaves
  pub all : flat_map (λ leaf. leaf) leaves ≡ entries

-- these are the bytes of the entries' index, with the first leaf and the root at these places
pub record IsIndexSpelling (place root : ℕ) (entries : List IndexEntry) (bytes : List ℕ) : Type 0 where
  pub leaves : List (List IndexEntry)
  pub stand : StandIn entries leaves
  pub root_place : root ≡ place + length (flat_map leaf_field leaves)
  pub bytes_are : bytes ≡ flat_map leaf_field leaves ++ root_field place leaves

-- the root stands behind the leaves, and its first pointer has the names of the first entry and the first leaf's place
pub record RootBegins (place root : ℕ) (entries : List IndexEntry) (bytes : List ℕ) : Type 0 where
  pub first : IndexEntry
  pub others : List IndexEntry
  pub some : entries ≡ first ∷ others
  pub above : place < root
  pub inside : root < place + length bytes
  pub number : ℕ
  pub behind : List ℕ
  pub bytes_are : drop (root - place) bytes ≡ ROOT ∷ (number32 number ++ (pointer_field first place ++ behind))
