-- What is read of a file besides its points.
use Rattle.std.specs.Prelude.{◌≡◌, ℕ, List, length, All}
use Rattle.tsdb_index.specs.declared.index.FileMeta.{FileMeta}
use Rattle.tsdb_index.specs.declared.pointer.Pointer.{Pointer}
use Rattle.tsdb_pages.specs.declared.tree.Tree.{Tree}
use Rattle.tsdb_pages.specs.File.{AreEntriesIn, HasSums, version_in}
use Rattle.tsfile_reader.specs.Outline.{HasOutline}

-- this is read of the file of the tree: its length, its version and its index
pub record IsMetaOf (tree : Tree) (bytes : List ℕ) (meta : FileMeta) : Type 0 where
  pub bytes_are : meta.size ≡ length bytes
  pub version_is : meta.version ≡ version_in bytes
  pub entries : AreEntriesIn tree meta.index.entries
  pub sums : All (HasSums (version_in bytes)) meta.index.entries

-- the length, tail, head, root and leaves are as defined, and this is read of them
pub record IsMetaIn (bytes : List ℕ) (meta : FileMeta) : Type 0 where
  pub bytes_are : meta.size ≡ length bytes
  pub version_is : meta.version ≡ version_in bytes
  pub root : ℕ
  pub place : ℕ
  pub pointers : List Pointer
  pub outline : HasOutline bytes root place pointers meta.index.entries
