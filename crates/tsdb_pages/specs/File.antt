-- The bytes of the file of a tree, in each version.
use Rattle.std.specs.Prelude.{◌≡◌, ℕ, ◌+◌, ◌&&◌, List, [], ◌∷◌, ◌++◌, length, codes, get_or, is_some, All}
use Rattle.std.specs.List.{flat_map}
use Rattle.tsdb_base.specs.declared.point.Point.{Point}
use Rattle.tsdb_base.specs.declared.point.Stats.{Stats}
use Rattle.tsdb_base.specs.declared.value.DataType.{DataType}
use Rattle.tsdb_base.specs.declared.value.Encoding.{Encoding}
use Rattle.tsdb_base.specs.Fields.{number32, number64, type_field, encoding_field}
use Rattle.tsdb_base.specs.Plain.{plain_text}
use Rattle.tsdb_index.specs.declared.index.IndexEntry.{IndexEntry}
use Rattle.tsdb_index.specs.declared.index.PageEntry.{PageEntry}
use Rattle.tsdb_index.specs.declared.marks.TheConstants.{GROUP, CHUNK, PAGE}
use Rattle.tsdb_index.specs.Spelling as index
use Rattle.tsdb_index.specs.Statistics.{is_numeric}
use Rattle.tsdb_index.specs.Versions.{IsVersion, has_sums}
use Rattle.tsdb_stats.specs.Statistics.{AreStatsOf}
use Rattle.tsdb_pages.specs.declared.tree.Page.{Page}
use Rattle.tsdb_pages.specs.declared.tree.Chunk.{Chunk}
use Rattle.tsdb_pages.specs.declared.tree.Group.{Group}
use Rattle.tsdb_pages.specs.declared.tree.Tree.{Tree}
use Rattle.tsdb_pages.specs.Pages.{body}
use Rattle.tsdb_pages.specs.Trees.{page_points}

-- `TsFile`, the first and the last bytes of a file
abbrev pub magic : List ℕ
magic = codes "TsFile"

-- the head of a file: `TsFile` and the version
abbrev pub head : ℕ → List ℕ
head version = magic ++ version ∷ []

-- how many bytes it has
abbrev pub head_length : ℕ
head_length = length magic + 1

-- the version that these bytes have, if they are a file
abbrev pub version_in : List ℕ → ℕ
version_in bytes = get_or bytes (length magic) 0

-- a page of these points: its mark 0x50, and its body behind the body's length
abbrev pub page_bytes : Encoding → List Point → List ℕ
page_bytes encoding points = PAGE ∷ number32 (length (body encoding points)) ++ body encoding points

-- a page
abbrev pub page_field : Encoding → Page → List ℕ
page_field encoding page = page_bytes encoding page.points

-- a chunk of this measurement, type and encoding up to its pages: its mark 0x43, and the three
abbrev pub chunk_start : List ℕ → DataType → Encoding → List ℕ
chunk_start measurement data_type encoding =
    CHUNK ∷ plain_text measurement ++ type_field data_type ++ encoding_field encoding

-- a chunk up to its pages
abbrev pub chunk_head : Chunk → List ℕ
chunk_head chunk = chunk_start chunk.measurement chunk.data_type chunk.encoding

-- a chunk
abbrev pub chunk_field : Chunk → List ℕ
chunk_field chunk = chunk_head chunk ++ flat_map (page_field chunk.encoding) chunk.pages

-- a group of this device up to its chunks: its mark 0x47, and the device
abbrev pub group_start : List ℕ → List ℕ
group_start device = GROUP ∷ plain_text device

-- a group up to its chunks
abbrev pub group_head : Group → List ℕ
group_head group = group_start group.device

-- a group
abbrev pub group_field : Group → List ℕ
group_field group = group_head group ++ flat_map chunk_field group.chunks

-- head and groups
abbrev pub data_field : ℕ → Tree → List ℕ
data_field version tree = head version ++ flat_map group_field tree.groups

-- what the index says of a page that stands at this place
pub record IsPageEntry (place : ℕ) (page : Page) (entry : PageEntry) : Type 0 where
  pub place_is : entry.place ≡ place
  pub stats : AreStatsOf page.points entry.stats

-- what the index says of pages that stand one behind another from this place on
abbrev pub ArePageEntries : Encoding → ℕ → List Page → List PageEntry → Type 0
ArePageEntries encoding place [] [] = Unit {0}
ArePageEntries encoding place [] (entry ∷ entries) = ⊥
ArePageEntries encoding place (page ∷ pages) [] = ⊥
ArePageEntries encoding place (page ∷ pages) (entry ∷ entries) =
    IsPageEntry place page entry × ArePageEntries encoding (place + length (page_field encoding page)) pages entries

-- what the index says of a chunk of this device that stands at this place
pub record IsChunkEntry (device : List ℕ) (place : ℕ) (chunk : Chunk) (entry : IndexEntry) : Type 0 where
  pub device_is : entry.device ≡ device
  pub measurement_is : entry.measurement ≡ chunk.measurement
  pub type_is : entry.data_type ≡ chunk.data_type
  pub encoding_is : entry.encoding ≡ chunk.encoding
  pub place_is : entry.place ≡ place
  pub stats : AreStatsOf (page_points chunk.pages) entry.stats
  pub pages : ArePageEntries chunk.encoding (place + length (chunk_head chunk)) chunk.pages entry.pages

-- what the index says of chunks of this device that stand one behind another from this place on
abbrev pub AreEntries : List ℕ → ℕ → List Chunk → List IndexEntry → Type 0
AreEntries device place [] [] = Unit {0}
AreEntries device place [] (entry ∷ entries) = ⊥
AreEntries device place (chunk ∷ chunks) [] = ⊥
AreEntries device place (chunk ∷ chunks) (entry ∷ entries) =
    IsChunkEntry device place chunk entry × AreEntries device (place + length (chunk_field chunk)) chunks entries

-- the entries of groups that stand one behind another from this place on, those of each group together
abbrev pub AreEntriesOf : ℕ → List Group → List (List IndexEntry) → Type 0
AreEntriesOf place [] [] = Unit {0}
AreEntriesOf place [] (entries ∷ others) = ⊥
AreEntriesOf place (group ∷ groups) [] = ⊥
AreEntriesOf place (group ∷ groups) (entries ∷ others) =
    AreEntries group.device (place + length (group_head group)) group.chunks entries
    × AreEntriesOf (place + length (group_field group)) groups others

-- the entries of a tree's index
pub record AreEntriesIn (tree : Tree) (entries : List IndexEntry) : Type 0 where
  pub by_group : List (List IndexEntry)
  pub all : flat_map (λ list. list) by_group ≡ entries
  pub say : AreEntriesOf head_length tree.groups by_group

-- statistics of values of this type have a sum exactly where they are numbers and the version has sums
abbrev pub HasSum : ℕ → DataType → Stats → Type 0
HasSum version data_type stats = is_some stats.sum ≡ (has_sums version && is_numeric data_type)

-- so do all that the entry of a chunk has
pub record HasSums (version : ℕ) (entry : IndexEntry) : Type 0 where
  pub stats : HasSum version entry.data_type entry.stats
  pub pages : All (λ page. HasSum version entry.data_type page.stats) entry.pages

-- these bytes are the file of the tree, in one of the versions: head, groups, index, and behind it the place of the root
-- and `TsFile`
pub record IsFile (tree : Tree) (bytes : List ℕ) : Type 0 where
  pub version : ℕ
  pub known : IsVersion version
  pub entries : List IndexEntry
  pub root : ℕ
  pub index_bytes : List ℕ
  pub say : AreEntriesIn tree entries
  pub sums : All (HasSums version) entries
  pub index_is : index.IsIndexSpelling (length (data_field version tree)) root entries index_bytes
  pub bytes_are : bytes ≡ data_field version tree ++ index_bytes ++ number64 root ++ magic

-- they are its file in this version
abbrev pub IsFileIn : ℕ → Tree → List ℕ → Type 0
IsFileIn version tree bytes = IsFile tree bytes × (version_in bytes ≡ version)
