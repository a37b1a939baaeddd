-- The parts of a file that say where all others stand: its length, tail, head, root and leaves.
use Rattle.std.specs.Prelude.{◌≡◌, ℕ, ◌-◌, ◌<◌, ◌≤◌, List, ◌++◌, length, take, drop}
use Rattle.tsdb_base.specs.Fields.{number64}
use Rattle.tsdb_index.specs.declared.index.IndexEntry.{IndexEntry}
use Rattle.tsdb_index.specs.declared.pointer.Pointer.{Pointer}
use Rattle.tsdb_index.specs.Faults.{IsIndexRead}
use Rattle.tsdb_index.specs.Parts.{IsFirstBadLeaf, IsRoot}
use Rattle.tsdb_index.specs.Versions.{IsVersion}
use Rattle.tsdb_pages.specs.File.{head, head_length, magic, version_in}

-- the fewest bytes that a head and a tail have together
abbrev pub least_length : ℕ
least_length = 21

-- where the tail begins
abbrev pub tail_place : List ℕ → ℕ
tail_place bytes = length bytes - 14

-- the bytes from one place up to another
abbrev pub between : ℕ → ℕ → List ℕ → List ℕ
between from to bytes = take (to - from) (drop from bytes)

-- these bytes are the tail of a file of so many bytes: the place of the root, behind the head and in the file, and
-- `TsFile`
pub record IsTail (size : ℕ) (bytes : List ℕ) (root : ℕ) : Type 0 where
  pub behind_head : head_length ≤ root
  pub inside : root < size
  pub bytes_are : bytes ≡ number64 root ++ magic

-- the file ends in a tail with this place of the root
abbrev pub HasTail : List ℕ → ℕ → Type 0
HasTail bytes root = IsTail (length bytes) (drop (tail_place bytes) bytes) root

-- the file begins with a head of one of the versions
abbrev pub HasHead : List ℕ → Type 0
HasHead bytes = IsVersion (version_in bytes) × (take head_length bytes ≡ head (version_in bytes))

-- from the root's place to the tail stands a root with these pointers, the first one at this place behind the head
pub record HasRoot (bytes : List ℕ) (root place : ℕ) (pointers : List Pointer) : Type 0 where
  pub behind_head : head_length ≤ place
  pub is : IsRoot place root (between root (tail_place bytes) bytes) pointers

-- from the place of the first leaf to the tail stands an index of the file's version with these entries
abbrev pub HasIndex : List ℕ → ℕ → ℕ → List IndexEntry → Type 0
HasIndex bytes root place entries =
    IsIndexRead (version_in bytes) place root (between place (tail_place bytes) bytes) entries

-- all of these parts are as defined
pub record HasOutline (bytes : List ℕ) (root place : ℕ) (pointers : List Pointer)
    (entries : List IndexEntry) : Type 0 where
  pub long : least_length ≤ length bytes
  pub tail : HasTail bytes root
  pub starts : HasHead bytes
  pub points : HasRoot bytes root place pointers
  pub index : HasIndex bytes root place entries

-- length, tail, head and root are as defined
pub record HasFront (bytes : List ℕ) (root place : ℕ) (pointers : List Pointer) : Type 0 where
  pub long : least_length ≤ length bytes
  pub tail : HasTail bytes root
  pub starts : HasHead bytes
  pub points : HasRoot bytes root place pointers

-- The first of length, tail, head and root that is not as defined begins at this place.
pub data IsBadFront (bytes : List ℕ) : ℕ → Type 0 where
  -- the file is too short for a head and a tail
  short : length bytes < least_length → IsBadFront bytes 0
  -- its last bytes are no tail
  no_tail : least_length ≤ length bytes → ((root : ℕ) → HasTail bytes root → ⊥) → IsBadFront bytes (tail_place bytes)
  -- its first bytes are no head
  no_head : least_length ≤ length bytes → (root : ℕ) → HasTail bytes root → (HasHead bytes → ⊥) → IsBadFront bytes 0
  -- at the place that the tail gives stands no root
  no_root : least_length ≤ length bytes → (root : ℕ) → HasTail bytes root → HasHead bytes
      → ((place : ℕ) (pointers : List Pointer) → HasRoot bytes root place pointers → ⊥) → IsBadFront bytes root

-- The first of these parts and the leaves that is not as defined begins at this place.
pub data IsBadOutline (bytes : List ℕ) : ℕ → Type 0 where
  -- the length, the tail, the head or the root
  in_front : (at : ℕ) → IsBadFront bytes at → IsBadOutline bytes at
  -- at this place, which the root gives, stands no leaf, and at those before it one does
  no_leaf : least_length ≤ length bytes → (root : ℕ) → HasTail bytes root → HasHead bytes
      → (place : ℕ) (pointers : List Pointer) → HasRoot bytes root place pointers
      → (at : ℕ) → IsFirstBadLeaf (version_in bytes) root pointers (between place root bytes) at
      → IsBadOutline bytes at
