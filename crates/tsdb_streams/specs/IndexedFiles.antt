-- Files whose indexes were read, and what was found of a series in one.
use Rattle.std.specs.Prelude.{ℕ, List, All, IfSome, Option, map}
use Rattle.tsdb_streams.specs.declared.source.IndexedFile.{IndexedFile}
use Rattle.tsdb_streams.specs.declared.source.StreamSource.{StreamSource}
use Rattle.tsdb_streams.specs.declared.source.StreamSource.TheVariants as source
use Rattle.tsdb_index.specs.Entries.{AreInOrder, names_of}
use Rattle.tsdb_path.specs.Order.{AreNamesBefore}
use Rattle.tsdb_index.specs.declared.index.IndexEntry.{IndexEntry}
use Rattle.tsdb_outside.specs.Files.{NamedFile}
use Rattle.tsdb_pages.specs.File.{AreEntriesIn, HasSums, IsFile, version_in}
use Rattle.tsdb_pages.specs.Trees.{IsMade, IsTree}
use Rattle.tsdb_pages.specs.declared.tree.Tree.{Tree}
use Rattle.tsfile_reader.specs.LookUp.{IsEntryInTree}

-- where the file tells its bytes, they are those of a tree
abbrev pub IsWholeFile : NamedFile → Type 0
IsWholeFile name = IfSome name.bytes (λ bytes. (tree : Tree) × IsTree tree × IsMade tree × IsFile tree bytes)

-- where the file tells its bytes, these are in the order of names, and the entries of the index of a tree with the bytes,
-- with the sums of its version
abbrev pub IsFileIndex : NamedFile → List IndexEntry → Type 0
IsFileIndex name entries = IfSome name.bytes (λ bytes. AreInOrder AreNamesBefore (map names_of entries)
    × ((tree : Tree) → IsTree tree → IsMade tree → IsFile tree bytes
    → AreEntriesIn tree entries × All (HasSums (version_in bytes)) entries))

-- where the file tells its bytes, and they are those of a tree, this is the tree's entry of the names
abbrev pub IsFoundIn : NamedFile → List ℕ × List ℕ → Option IndexEntry → Type 0
IsFoundIn name names found = IfSome name.bytes (λ bytes. (tree : Tree) → IsTree tree → IsMade tree → IsFile tree bytes
    → IsEntryInTree (version_in bytes) tree names found)

-- the file as a source
abbrev pub source_of : {R : Type 0} → IndexedFile R → StreamSource R
source_of indexed = source.File indexed.right indexed.born

-- what was read is the file's index
abbrev pub IsIndexed : {R : Type 0} → (R → NamedFile) → IndexedFile R → Type 0
IsIndexed file indexed = IsFileIndex (file indexed.right.now) indexed.index.entries
