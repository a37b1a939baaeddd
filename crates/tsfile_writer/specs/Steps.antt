-- How a file is put together part by part. No public clause speaks of these.
use Rattle.std.specs.Prelude.{◌≡◌, ℕ, ◌+◌, ◌≤◌, List, [], ◌∷◌, ◌++◌, Bool, true, false, length, All}
use Rattle.std.specs.List.{flat_map}
use Rattle.tsdb_base.specs.declared.point.Point.{Point}
use Rattle.tsdb_base.specs.declared.value.DataType.{DataType}
use Rattle.tsdb_base.specs.declared.value.Encoding.{Encoding}
use Rattle.tsdb_index.specs.declared.index.IndexEntry.{IndexEntry}
use Rattle.tsdb_index.specs.declared.index.PageEntry.{PageEntry}
use Rattle.tsdb_index.specs.declared.marks.TheConstants.{VERSION}
use Rattle.tsdb_pages.specs.declared.tree.Page.{Page}
use Rattle.tsdb_pages.specs.declared.tree.Chunk.{Chunk}
use Rattle.tsdb_pages.specs.declared.tree.Group.{Group}
use Rattle.tsdb_pages.specs.File.{AreEntries, AreEntriesOf, ArePageEntries, HasSum, HasSums, chunk_field, chunk_start}
use Rattle.tsdb_pages.specs.File.{group_field, group_start, head, head_length, page_field}
use Rattle.tsdb_base.specs.Limits.{max_pages}
use Rattle.tsdb_pages.specs.Trees.{page_points}
use Rattle.tsdb_stats.specs.Statistics.{AreStatsOf}
use Rattle.tsfile_writer.specs.declared.layout.OpenChunk.{OpenChunk}

-- what stands before a group's chunks, where a group begins
abbrev pub start_if : Bool → List ℕ → List ℕ
start_if true device = group_start device
start_if false device = []

-- an entry for a page of these points at this place
pub record IsPageEntryFor (place : ℕ) (points : List Point) (entry : PageEntry) : Type 0 where
  pub place_is : entry.place ≡ place
  pub stats : AreStatsOf points entry.stats

-- a chunk at this place has one page, of these points, so many bytes behind its first byte
pub record IsChunkBegun (place skip : ℕ) (points : List Point) (chunk : OpenChunk) : Type 0 where
  pub place_is : chunk.place ≡ place
  pub stats : AreStatsOf points chunk.stats
  pub entry : PageEntry
  pub is : IsPageEntryFor (place + skip) points entry
  pub pages_are : chunk.pages.items ≡ entry ∷ []

-- the chunk has one page more, of these points and at this place
pub record IsLonger (place : ℕ) (points : List Point) (old new : OpenChunk) : Type 0 where
  pub place_is : new.place ≡ old.place
  pub stats : (before : List Point) → AreStatsOf before old.stats → AreStatsOf (before ++ points) new.stats
  pub entry : PageEntry
  pub is : IsPageEntryFor place points entry
  pub pages_are : new.pages.items ≡ old.pages.items ++ entry ∷ []
  pub few : length new.pages.items ≤ max_pages

-- all statistics of the chunk have a sum where its values are numbers
pub record HasOpenSums (data_type : DataType) (chunk : OpenChunk) : Type 0 where
  pub stats : HasSum VERSION data_type chunk.stats
  pub pages : All (λ page. HasSum VERSION data_type page.stats) chunk.pages.items

-- the same is said of the chunk
pub record SameChunk (old new : OpenChunk) : Type 0 where
  pub place_is : new.place ≡ old.place
  pub stats : new.stats ≡ old.stats
  pub pages_are : new.pages.items ≡ old.pages.items

-- head and groups stand, and these are their entries
pub record AreGroupsWritten (groups : List Group) (bytes : List ℕ) (entries : List IndexEntry) : Type 0 where
  pub bytes_are : bytes ≡ head VERSION ++ flat_map group_field groups
  pub by_group : List (List IndexEntry)
  pub all : flat_map (λ list. list) by_group ≡ entries
  pub say : AreEntriesOf head_length groups by_group
  pub sums : All (HasSums VERSION) entries

-- behind the groups stands one of this device with these chunks
pub record AreChunks (groups : List Group) (device : List ℕ) (chunks : List Chunk) (bytes : List ℕ)
    (entries : List IndexEntry) : Type 0 where
  pub bytes_before : List ℕ
  pub entries_before : List IndexEntry
  pub before : AreGroupsWritten groups bytes_before entries_before
  pub bytes_are : bytes ≡ bytes_before ++ (group_start device ++ flat_map chunk_field chunks)
  pub own : List IndexEntry
  pub all : entries ≡ entries_before ++ own
  pub say : AreEntries device (length bytes_before + length (group_start device)) chunks own
  pub sums : All (HasSums VERSION) entries

-- what is said of a chunk at this place, whose pages begin at the other
pub record IsChunkOpen (encoding : Encoding) (place first : ℕ) (pages : List Page) (chunk : OpenChunk) : Type 0 where
  pub place_is : chunk.place ≡ place
  pub stats : AreStatsOf (page_points pages) chunk.stats
  pub say : ArePageEntries encoding first pages chunk.pages.items

-- behind the chunks stands one with these pages, which may get more
pub record ArePages (groups : List Group) (device : List ℕ) (chunks : List Chunk) (measurement : List ℕ)
    (data_type : DataType) (encoding : Encoding) (pages : List Page)
    (bytes : List ℕ) (entries : List IndexEntry) (chunk : OpenChunk) : Type 0 where
  pub bytes_before : List ℕ
  pub before : AreChunks groups device chunks bytes_before entries
  pub bytes_are : bytes ≡ bytes_before ++ (chunk_start measurement data_type encoding
      ++ flat_map (page_field encoding) pages)
  pub is : IsChunkOpen encoding (length bytes_before)
      (length bytes_before + length (chunk_start measurement data_type encoding)) pages chunk
  pub sums : HasOpenSums data_type chunk
