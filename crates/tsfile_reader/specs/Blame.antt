-- Which part of a whole file is blamed: the first one that is not as defined. The parts are taken in this order: the
-- length, the tail, the head, the root, the leaves; groups, chunks and pages from the left; and the leaves once more.
use Rattle.std.specs.Prelude.{◌≡◌, ◌≢◌, ℕ, ◌+◌, ◌-◌, ◌/◌, ◌<◌, min, List, [], ◌∷◌, ◌++◌, length, All, AllPairs}
use Rattle.std.specs.List.{flat_map}
use Rattle.tsdb_index.specs.declared.index.FileMeta.{FileMeta}
use Rattle.tsdb_index.specs.declared.index.IndexEntry.{IndexEntry}
use Rattle.tsdb_index.specs.declared.pointer.Pointer.{Pointer}
use Rattle.tsdb_base.specs.Limits.{max_leaf_entries}
use Rattle.tsdb_pages.specs.declared.tree.Group.{Group}
use Rattle.tsdb_pages.specs.declared.tree.Tree.{Tree}
use Rattle.tsdb_pages.specs.File.{AreEntriesIn, HasSums, IsFile, group_field, head_length, version_in}
use Rattle.tsdb_pages.specs.Trees.{HasParts, IsBefore, IsGroup, IsMade, IsTree, chunks_of}
use Rattle.tsdb_path.specs.Nodes.{IsPath}
use Rattle.tsfile_reader.specs.Meta.{IsMetaOf}
use Rattle.tsfile_reader.specs.Outline.{HasOutline, IsBadOutline, between}
use Rattle.tsfile_reader.specs.Parts.{AreParts, MayEnd, MayFollow, FilePart, part_field, parts_field}

-- the bytes between the head and the first leaf, which stands at this place
abbrev pub data_in : ℕ → List ℕ → List ℕ
data_in place bytes = between head_length place bytes

-- From a place on these bytes begin with parts, each of which may stand behind those before it. Behind them, at this
-- place, stands no part that may, nor may the parts end there.
pub record IsFirstBadPart (from : ℕ) (bytes : List ℕ) (at : ℕ) : Type 0 where
  pub parts : List FilePart
  pub good : AreParts parts
  pub rest : List ℕ
  pub split : bytes ≡ parts_field parts ++ rest
  pub place : at ≡ from + length (parts_field parts)
  pub next : (part : FilePart) (behind : List ℕ) → MayFollow parts part → rest ≡ part_field part ++ behind → ⊥
  pub unfinished : rest ≡ [] → MayEnd parts → ⊥

-- groups as a tree has them, of any number of chunks in all
pub record AreGroups (groups : List Group) : Type 0 where
  pub some : 0 < length groups
  pub groups_are : All IsGroup groups
  pub rising : AllPairs (λ a b. IsBefore a.device b.device) groups
  pub devices : All (λ group. IsPath group.device) groups
  pub chunks : All HasParts (chunks_of groups)

-- the bytes behind the head are the groups of the tree, of which an index of the version says this
pub record HasGroups (version : ℕ) (bytes : List ℕ) (tree : Tree) (said : List IndexEntry) : Type 0 where
  pub good : AreGroups tree.groups
  pub bytes_are : bytes ≡ flat_map group_field tree.groups
  pub say : AreEntriesIn tree said
  pub sums : All (HasSums version) said

-- the first so many entries are the same in both lists, and behind them one list ends or the next entries differ
pub record AreAlike (entries said : List IndexEntry) (count : ℕ) : Type 0 where
  pub same : List IndexEntry
  pub others : List IndexEntry
  pub others_said : List IndexEntry
  pub entries_are : entries ≡ same ++ others
  pub said_are : said ≡ same ++ others_said
  pub number : length same ≡ count
  pub apart : (x y : IndexEntry) (xs ys : List IndexEntry) → others ≡ x ∷ xs → others_said ≡ y ∷ ys → x ≢ y

-- At this place stands the leaf of the first entry that is not what the groups say, or the last leaf where the groups
-- say more.
pub record IsFirstWrongLeaf (pointers : List Pointer) (entries said : List IndexEntry) (at : ℕ) : Type 0 where
  pub wrong : entries ≢ said
  pub count : ℕ
  pub alike : AreAlike entries said count
  pub before : List Pointer
  pub pointer : Pointer
  pub behind : List Pointer
  pub pointers_are : pointers ≡ before ++ pointer ∷ behind
  pub number : length before ≡ min count (length entries - 1) / max_leaf_entries
  pub place : at ≡ pointer.place

-- The first part of the file that is not as defined begins at this place.
pub data IsBlamed (bytes : List ℕ) : ℕ → Type 0 where
  -- the length, the tail, the head, the root or a leaf
  outline : (at : ℕ) → IsBadOutline bytes at → IsBlamed bytes at
  -- a group, a chunk or a page between the head and the first leaf
  part : (root place : ℕ) (pointers : List Pointer) (entries : List IndexEntry)
      → HasOutline bytes root place pointers entries
      → (at : ℕ) → IsFirstBadPart head_length (data_in place bytes) at → IsBlamed bytes at
  -- a leaf whose entries are not what the groups say
  leaf : (root place : ℕ) (pointers : List Pointer) (entries : List IndexEntry)
      → HasOutline bytes root place pointers entries
      → (tree : Tree) (said : List IndexEntry) → HasGroups (version_in bytes) (data_in place bytes) tree said
      → (at : ℕ) → IsFirstWrongLeaf pointers entries said at → IsBlamed bytes at

-- no tree has this file
abbrev pub IsNoFile : List ℕ → Type 0
IsNoFile bytes = (tree : Tree) → IsTree tree → IsMade tree → IsFile tree bytes → ⊥

-- the bytes are the file of a tree, of which this is read
pub record IsMetaOfTree (bytes : List ℕ) (meta : FileMeta) : Type 0 where
  pub tree : Tree
  pub is : IsTree tree
  pub made : IsMade tree
  pub file : IsFile tree bytes
  pub says : IsMetaOf tree bytes meta
