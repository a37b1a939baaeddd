-- A look-up of one series: it takes the length, the tail, the head, the root, and of the leaves the one that may have it.
use Rattle.std.specs.Prelude.{◌≡◌, ℕ, List, Contains, Option, None, Some}
use Rattle.tsdb_index.specs.declared.index.IndexEntry.{IndexEntry}
use Rattle.tsdb_index.specs.declared.pointer.Pointer.{Pointer}
use Rattle.tsdb_index.specs.Entries.{IsEntry, names_of}
use Rattle.tsdb_index.specs.Finding.{AreBehind, IsEntryFor, IsLeafFor}
use Rattle.tsdb_index.specs.Parts.{IsLeaf, leaf_end}
use Rattle.tsdb_pages.specs.File.{HasSums, version_in}
use Rattle.tsdb_pages.specs.declared.tree.Chunk.{Chunk}
use Rattle.tsdb_pages.specs.declared.tree.Group.{Group}
use Rattle.tsdb_pages.specs.declared.tree.Tree.{Tree}
use Rattle.tsfile_reader.specs.Outline.{HasFront, IsBadFront, between}
use Rattle.tsfile_reader.specs.Page.{IsEntryOf}

-- the bytes from a pointer's place to the next leaf or the root
abbrev pub leaf_bytes : ℕ → Pointer → List Pointer → List ℕ → List ℕ
leaf_bytes root pointer behind bytes = between pointer.place (leaf_end root behind) bytes

-- The parts of the file that a look-up takes are as defined, and have this entry of the names.
pub data IsLookedUp (bytes : List ℕ) (names : List ℕ × List ℕ) : Option IndexEntry → Type 0 where
  -- all leaves begin behind the names
  in_none : (root place : ℕ) (pointers : List Pointer) → HasFront bytes root place pointers
      → AreBehind names pointers → IsLookedUp bytes names None
  -- the leaf that may have the names has this of them
  in_leaf : (root place : ℕ) (pointers : List Pointer) → HasFront bytes root place pointers
      → (pointer : Pointer) (behind : List Pointer) → IsLeafFor names pointers pointer behind
      → (entries : List IndexEntry)
      → IsLeaf (version_in bytes) pointer behind (leaf_bytes root pointer behind bytes) entries
      → (found : Option IndexEntry) → IsEntryFor names entries found → IsLookedUp bytes names found

-- The first of the parts that a look-up takes that is not as defined begins at this place.
pub data IsBadLookUp (bytes : List ℕ) (names : List ℕ × List ℕ) : ℕ → Type 0 where
  -- the length, the tail, the head or the root
  in_front : (at : ℕ) → IsBadFront bytes at → IsBadLookUp bytes names at
  -- the leaf that may have the names
  no_leaf : (root place : ℕ) (pointers : List Pointer) → HasFront bytes root place pointers
      → (pointer : Pointer) (behind : List Pointer) → IsLeafFor names pointers pointer behind
      → ((entries : List IndexEntry)
      → IsLeaf (version_in bytes) pointer behind (leaf_bytes root pointer behind bytes) entries → ⊥)
      → (at : ℕ) → at ≡ pointer.place → IsBadLookUp bytes names at

-- the entry of the tree's index in this version that has the names, or none where no chunk of the tree has them
abbrev pub IsEntryInTree : ℕ → Tree → List ℕ × List ℕ → Option IndexEntry → Type 0
IsEntryInTree version tree names None = (group : Group) (chunk : Chunk) → Contains tree.groups group
    → Contains group.chunks chunk → group.device ≡ names.0 → chunk.measurement ≡ names.1 → ⊥
IsEntryInTree version tree names (Some entry) =
    IsEntryOf tree entry × (names_of entry ≡ names) × HasSums version entry

-- an entry as an index of some version has it, also where the file does not tell its bytes
abbrev pub IsFormedEntry : IndexEntry → Type 0
IsFormedEntry entry = (version : ℕ) × IsEntry version entry
