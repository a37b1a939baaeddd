-- What is told of a file that a series is read from.
use Rattle.std.specs.Prelude.{◌≡◌, ℕ, ◌≤◌, List, [], Contains, IfSome, Option, None, Some, Result, IsErrOf, length, map}
use Rattle.std.specs.Prelude.{Bool, ◌&&◌, is_some, slice_get, true}
use Rattle.std.specs.Option.{unwrap_or}
use Rattle.tsdb_base.specs.declared.point.Point.{Point}
use Rattle.tsdb_index.specs.declared.index.IndexEntry.{IndexEntry}
use Rattle.tsdb_index.specs.declared.index.PageEntry.{PageEntry}
use Rattle.tsdb_index.specs.Versions.{has_sums}
use Rattle.tsdb_model.specs.Folds.{sum_of}
use Rattle.tsdb_base.specs.Causes.{Rose}
use Rattle.tsdb_outside.specs.Files.{NamedFile}
use Rattle.tsdb_outside.specs.declared.faults.StoreFault.{StoreFault}
use Rattle.tsdb_outside.specs.declared.faults.StoreFault.TheVariants as store
use Rattle.tsdb_pages.specs.File.{IsFile, version_in}
use Rattle.tsdb_pages.specs.Trees.{IsMade, IsTree}
use Rattle.tsdb_pages.specs.declared.tree.Chunk.{Chunk}
use Rattle.tsdb_pages.specs.declared.tree.Group.{Group}
use Rattle.tsdb_pages.specs.declared.tree.Page.{Page}
use Rattle.tsdb_pages.specs.declared.tree.Tree.{Tree}
use Rattle.tsdb_streams.specs.Pieces.{joined}
use Rattle.tsdb_stats.specs.Statistics.{AreStatsOf}
use Rattle.tsfile_reader.specs.Page.{HasNoPage, HasPage, LieIn, SaysOfPage}
use Rattle.tsfile_reader.specs.declared.fault.ReadFault.{ReadFault}
use Rattle.tsfile_reader.specs.declared.fault.ReadFault.TheVariants.{Failed, Damaged, Memory}

-- the chunk is one of the tree, of the series with these names
pub record IsSeriesChunk (tree : Tree) (names : List ℕ × List ℕ) (chunk : Chunk) : Type 0 where
  pub group : Group
  pub in_tree : Contains tree.groups group
  pub in_group : Contains group.chunks chunk
  pub device : group.device ≡ names.0
  pub measurement : chunk.measurement ≡ names.1

-- these are the points of each page of the series in the tree, of which there is none where the tree has no chunk of it
pub record ArePagesIn (tree : Tree) (names : List ℕ × List ℕ) (pages : List (List Point)) : Type 0 where
  pub of_chunk : (chunk : Chunk) → IsSeriesChunk tree names chunk
      → pages ≡ map (λ (page : Page). page.points) chunk.pages
  pub none : ((chunk : Chunk) → IsSeriesChunk tree names chunk → ⊥) → pages ≡ []

-- the file tells its bytes, they are those of a tree, and these are the series' pages in it
pub record HasPages (names : List ℕ × List ℕ) (name : NamedFile) (pages : List (List Point)) : Type 0 where
  pub bytes : List ℕ
  pub told : name.bytes ≡ Some bytes
  pub tree : Tree
  pub is : IsTree tree
  pub made : IsMade tree
  pub file : IsFile tree bytes
  pub pages_are : ArePagesIn tree names pages

-- the points of each page of a series in the file of a number, where they are told
abbrev pub FilePages : Type 0
FilePages = ℕ → Option (List (List Point))

-- what is told of the file is so
abbrev pub IsTruth : List ℕ × List ℕ → FilePages → NamedFile → Type 0
IsTruth names pages name = IfSome (pages name.number) (HasPages names name)

-- the pages of the file are told, where it tells its bytes
abbrev pub IsTold : FilePages → NamedFile → Type 0
IsTold pages name = (bytes : List ℕ) → name.bytes ≡ Some bytes
    → (list : List (List Point)) × (pages name.number ≡ Some list)

-- whether statistics of numbers have a sum in the file, where it tells its bytes
abbrev pub sums_in : NamedFile → Bool
sums_in name = has_sums (version_in (unwrap_or name.bytes []))

-- the page of which the entry says this has these points: they lie within its times, whatever is read of it is these,
-- and some page stands there, and the entry says their statistics, with their sum where the file has sums
abbrev pub HasPagePoints : IndexEntry → NamedFile → PageEntry → List Point → Type 0
HasPagePoints entry name said points = LieIn said.stats points
    × ((bytes : List ℕ) → name.bytes ≡ Some bytes
    → ((read : List Point) → HasPage bytes entry said read → read ≡ points) × (HasNoPage bytes entry said → ⊥))
    × AreStatsOf points said.stats
    × (is_some said.stats.sum ≡ (sums_in name && is_some (sum_of points)))

-- the file tells its bytes, and has these points in the pages of the entry, which says the statistics of all of them
abbrev pub HasEntryPages : IndexEntry → NamedFile → List (List Point) → Type 0
HasEntryPages entry name pages = (is_some name.bytes ≡ true) × (length pages ≡ length entry.pages)
    × ((number : ℕ) (said : PageEntry) (points : List Point) → SaysOfPage entry number said
    → slice_get pages number ≡ Some points → HasPagePoints entry name said points)
    × AreStatsOf (joined pages) entry.stats

-- the count never falls, and the call returns `Failed` only where it has risen, or the file is not whole; `Memory` is
-- free
pub record HasReason {T : Type 0} (whole : Type 0) (before now : ℕ) (result : Result T StoreFault) : Type 0 where
  pub later : before ≤ now
  pub failed : IsErrOf result store.Failed → whole → Rose before now

-- damage is a fault of the port, which counts it where the file does not tell its bytes
abbrev pub IsCountedFault : Option (List ℕ) → ℕ → ℕ → ReadFault → StoreFault → Type 0
IsCountedFault told before now Failed fault = fault ≡ store.Failed
IsCountedFault told before now (Damaged at) fault = (fault ≡ store.Failed) × (told ≡ None → Rose before now)
IsCountedFault told before now Memory fault = fault ≡ store.Memory
