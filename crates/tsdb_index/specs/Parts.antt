-- The parts of an index by themselves: the root with its pointers, and the leaf at each pointer.
use Rattle.std.specs.Prelude.{◌≡◌, ◌⊎◌, ℕ, ◌-◌, ◌<◌, ◌≤◌, ◌^◌, List, [], ◌∷◌, ◌++◌, length, map, take, drop, All}
use Rattle.std.specs.List.{flat_map}
use Rattle.tsdb_base.specs.Fields.{number32, number64}
use Rattle.tsdb_base.specs.Plain.{plain_text}
use Rattle.tsdb_fields.specs.Nodes.{IsName, IsPath}
use Rattle.tsdb_index.specs.declared.marks.TheConstants.{ROOT}
use Rattle.tsdb_index.specs.declared.index.IndexEntry.{IndexEntry}
use Rattle.tsdb_index.specs.declared.pointer.Pointer.{Pointer}
use Rattle.tsdb_index.specs.Entries.{AreInOrder, IsEntry, names_of}
use Rattle.tsdb_fields.specs.Order.{AreNamesBefore}
use Rattle.tsdb_base.specs.Limits.{max_leaf_entries}
use Rattle.tsdb_index.specs.Spelling.{leaf_field}

-- the bytes of a pointer
abbrev pub pointer_bytes : Pointer → List ℕ
pointer_bytes pointer = plain_text pointer.device ++ plain_text pointer.measurement ++ number64 pointer.place

pub record IsPointer (pointer : Pointer) : Type 0 where
  pub device : IsPath pointer.device
  pub measurement : IsName pointer.measurement
  pub place : pointer.place < 2 ^ 64

-- the names of the first entry of the leaf
abbrev pub pointer_names : Pointer → List ℕ × List ℕ
pointer_names pointer = (pointer.device, pointer.measurement)

-- both the names and the places rise
abbrev pub IsPointerBefore : Pointer → Pointer → Type 0
IsPointerBefore a b = AreNamesBefore (pointer_names a) (pointer_names b) × (a.place < b.place)

-- the first pointer points at this place
abbrev pub BeginAt : ℕ → List Pointer → Type 0
BeginAt place [] = ⊥
BeginAt place (first ∷ others) = first.place ≡ place

-- these bytes are a root with these pointers, where the first leaf stands at this place and the leaves end at the other
pub record IsRoot (place root : ℕ) (bytes : List ℕ) (pointers : List Pointer) : Type 0 where
  pub begin : BeginAt place pointers
  pub few : length pointers < 2 ^ 32
  pub good : All IsPointer pointers
  pub rising : AreInOrder IsPointerBefore pointers
  pub inside : All (λ pointer. pointer.place < root) pointers
  pub bytes_are : bytes ≡ ROOT ∷ number32 (length pointers) ++ flat_map pointer_bytes pointers

-- the names of the next leaf's first entry, where there is a next leaf
abbrev pub next_names : List Pointer → List (List ℕ × List ℕ)
next_names [] = []
next_names (next ∷ others) = pointer_names next ∷ []

-- how many entries a leaf has before these other leaves
abbrev pub IsLeafSize : List Pointer → ℕ → Type 0
IsLeafSize [] count = (0 < count) × (count ≤ max_leaf_entries)
IsLeafSize (next ∷ others) count = count ≡ max_leaf_entries

-- the first entry has the pointer's names
abbrev pub BeginWith : Pointer → List IndexEntry → Type 0
BeginWith pointer [] = ⊥
BeginWith pointer (first ∷ others) = names_of first ≡ pointer_names pointer

-- these bytes are a leaf of these entries, as the pointer at it and the pointers behind it say
pub record IsLeaf (version : ℕ) (pointer : Pointer) (behind : List Pointer) (bytes : List ℕ) (entries : List IndexEntry)
    : Type 0 where
  pub size : IsLeafSize behind (length entries)
  pub good : All (IsEntry version) entries
  pub begin : BeginWith pointer entries
  pub rising : AreInOrder AreNamesBefore (map names_of entries ++ next_names behind)
  pub bytes_are : bytes ≡ leaf_field entries

-- where a leaf ends: at the next leaf, or at the root
abbrev pub leaf_end : ℕ → List Pointer → ℕ
leaf_end root [] = root
leaf_end root (next ∷ others) = next.place

-- these bytes, of which the first pointer points at the first and which end at the root, are these leaves
abbrev pub AreLeavesAt : ℕ → ℕ → List Pointer → List ℕ → List (List IndexEntry) → Type 0
AreLeavesAt version root [] bytes [] = bytes ≡ []
AreLeavesAt version root [] bytes (leaf ∷ leaves) = ⊥
AreLeavesAt version root (pointer ∷ behind) bytes [] = ⊥
AreLeavesAt version root (pointer ∷ behind) bytes (leaf ∷ leaves) =
    IsLeaf version pointer behind (take (leaf_end root behind - pointer.place) bytes) leaf
    × AreLeavesAt version root behind (drop (leaf_end root behind - pointer.place) bytes) leaves

-- the first pointer at which no leaf stands points at this place
abbrev pub IsFirstBadLeaf : ℕ → ℕ → List Pointer → List ℕ → ℕ → Type 0
IsFirstBadLeaf version root [] bytes at = ⊥
IsFirstBadLeaf version root (pointer ∷ behind) bytes at =
    ((at ≡ pointer.place)
    × ((entries : List IndexEntry)
    → IsLeaf version pointer behind (take (leaf_end root behind - pointer.place) bytes) entries → ⊥))
    ⊎ (((entries : List IndexEntry)
    × IsLeaf version pointer behind (take (leaf_end root behind - pointer.place) bytes) entries)
    × IsFirstBadLeaf version root behind (drop (leaf_end root behind - pointer.place) bytes) at)

-- no root stands at the root's place, which is this one; or one does, and this is the place of the first bad leaf
abbrev pub IsFirstBadIndexPart : ℕ → ℕ → ℕ → List ℕ → ℕ → Type 0
IsFirstBadIndexPart version place root bytes at =
    ((at ≡ root) × ((pointers : List Pointer) → IsRoot place root (drop (root - place) bytes) pointers → ⊥))
    ⊎ ((pointers : List Pointer) × IsRoot place root (drop (root - place) bytes) pointers
    × IsFirstBadLeaf version root pointers (take (root - place) bytes) at)
