-- How parts are read one by one. No public clause speaks of these.
use Rattle.std.specs.Prelude.{◌≡◌, ◌≢◌, ℕ, ◌+◌, ◌-◌, ◌/◌, ◌<◌, ◌≤◌, ◌^◌, ◌<ℤ◌, List, [], ◌∷◌, ◌++◌, length, take, drop}
use Rattle.std.specs.Prelude.{min, true, All, AllPairs, Option, None, Some, Result, Ok, Err}
use Rattle.std.specs.List.{flat_map}
use Rattle.tsdb_base.specs.Fields.{number32}
use Rattle.tsdb_base.specs.declared.point.Point.{Point}
use Rattle.tsdb_base.specs.declared.value.DataType.{DataType}
use Rattle.tsdb_base.specs.declared.value.Encoding.{Encoding}
use Rattle.tsdb_base.specs.Values.{is_suitable}
use Rattle.tsdb_fields.specs.declared.rest.Rest.{Rest}
use Rattle.tsdb_fields.specs.Reading.{TakesBytes}
use Rattle.tsdb_index.specs.declared.index.Index.{Index}
use Rattle.tsdb_index.specs.declared.index.IndexEntry.{IndexEntry}
use Rattle.tsdb_index.specs.declared.pointer.Pointer.{Pointer}
use Rattle.tsdb_base.specs.Limits.{max_leaf_entries, max_pages}
use Rattle.tsdb_index.specs.Parts.{IsRoot}
use Rattle.tsdb_index.specs.declared.marks.TheConstants.{PAGE}
use Rattle.tsdb_pages.specs.declared.tree.Chunk.{Chunk}
use Rattle.tsdb_pages.specs.declared.tree.Page.{Page}
use Rattle.tsdb_pages.specs.File.{ArePageEntries, AreEntries, HasSum, HasSums, IsChunkEntry, chunk_field, page_field}
use Rattle.tsdb_pages.specs.File.{version_in}
use Rattle.tsdb_base.specs.Points.{IsRising}
use Rattle.tsdb_pages.specs.Pages.{ArePoints, IsInRange}
use Rattle.tsdb_pages.specs.Trees.{HasParts, IsBefore, IsChunk, page_points}
use Rattle.tsdb_path.specs.Nodes.{IsName}
use Rattle.tsdb_stats.specs.Statistics.{AreStatsOf}
use Rattle.tsfile_reader.specs.declared.fault.ReadFault.{ReadFault}
use Rattle.tsfile_reader.specs.declared.fault.ReadFault.TheVariants.{Failed, Damaged, Memory}
use Rattle.tsfile_reader.specs.declared.page.ChunkHead.{ChunkHead}
use Rattle.tsfile_reader.specs.declared.parts.Pages.{Pages}
use Rattle.tsfile_reader.specs.declared.ends.Ends.{Ends}
use Rattle.tsfile_reader.specs.declared.ends.Front.{Front}
use Rattle.tsfile_reader.specs.Blame.{AreAlike}
use Rattle.tsfile_reader.specs.Outline.{HasFront, HasHead, HasOutline, HasTail, least_length}
use Rattle.tsfile_reader.specs.Page.{AreGood}
use Rattle.tsfile_reader.specs.Parts.{AreParts, MayEnd, MayFollow, FilePart, part_field, parts_field}

-- the bytes begin with this one
abbrev pub BeginsWithMark : ℕ → List ℕ → Type 0
BeginsWithMark mark bytes = (fields : List ℕ) × (bytes ≡ mark ∷ fields)

-- the part that the head of a chunk is
abbrev pub chunk_part : ChunkHead → FilePart
chunk_part head = FilePart.Chunk head.measurement head.data_type head.encoding

-- a name, and an encoding that suits the type
abbrev pub IsChunkHead : ChunkHead → Type 0
IsChunkHead head = IsName head.measurement × (is_suitable head.data_type head.encoding ≡ true)

-- bytes behind their number
abbrev pub body_bytes : List ℕ → List ℕ
body_bytes body = number32 (length body) ++ body

-- so few bytes that their number is below 2^32
abbrev pub IsBodySize : List ℕ → Type 0
IsBodySize body = length body < 2 ^ 32

-- What is read of memory alone: what is found is so, and a place of damage is one where reading stops.
abbrev pub ReadsOrStops : {T : Type 0} → (T → Type 0) → (ℕ → Type 0) → Result T ReadFault → Type 0
ReadsOrStops Is Stop (Ok found) = Is found
ReadsOrStops Is Stop (Err (Damaged at)) = Stop at
ReadsOrStops Is Stop (Err Failed) = ⊥
ReadsOrStops Is Stop (Err Memory) = Unit {0}

-- Behind these parts more stand in what is left, up to this place, and there stands none that may, nor may they end.
pub record StopsAt (before : List FilePart) (left : Rest) (at : ℕ) : Type 0 where
  pub parts : List FilePart
  pub good : AreParts parts
  pub text : List ℕ
  pub grown : parts_field parts ≡ parts_field before ++ text
  pub rest : List ℕ
  pub split : left.bytes.now ≡ text ++ rest
  pub place : at ≡ left.at + length text
  pub next : (part : FilePart) (behind : List ℕ) → MayFollow parts part → rest ≡ part_field part ++ behind → ⊥
  pub unfinished : rest ≡ [] → MayEnd parts → ⊥

-- behind a part after any others, reading stops at this place
abbrev pub StopsBehind : FilePart → Rest → ℕ → Type 0
StopsBehind part left at = (before : List FilePart) → AreParts (part ∷ before) → StopsAt (part ∷ before) left at

-- this is read of pages of one chunk in a file of the version, of which the first stands at this place
pub record ArePagesRead (version : ℕ) (data_type : DataType) (encoding : Encoding) (place : ℕ) (pages : List Page)
    (found : Pages) : Type 0 where
  pub some : 0 < length pages
  pub few : length pages ≤ max_pages
  pub good : All (λ page. ArePoints data_type page.points) pages
  pub ranges : All IsInRange (page_points pages)
  pub rising : IsRising (page_points pages)
  pub stats : AreStatsOf (page_points pages) found.stats
  pub say : ArePageEntries encoding place pages found.entries.items
  pub sum : HasSum version data_type found.stats
  pub sums : All (λ entry. HasSum version data_type entry.stats) found.entries.items

-- points of a page that may stand behind these pages
pub record AreLaterPoints (data_type : DataType) (before : Pages) (points : List Point) : Type 0 where
  pub good : AreGood data_type points
  pub few : length before.entries.items < max_pages
  pub later : (first : Point) (others : List Point) → points ≡ first ∷ others → before.stats.end <ℤ first.time

-- the head of a chunk that may stand behind one of this measurement
abbrev pub IsLaterHead : List ℕ → ChunkHead → Type 0
IsLaterHead last head = IsChunkHead head × IsBefore last head.measurement

-- all pages of a chunk are read
pub record ReadsPages (version : ℕ) (data_type : DataType) (encoding : Encoding) (left behind : Rest) (found : Pages)
    : Type 0 where
  pub pages : List Page
  pub read : ArePagesRead version data_type encoding left.at pages found
  pub takes : TakesBytes left (flat_map (page_field encoding) pages) behind
  pub ends : BeginsWithMark PAGE behind.bytes.now → ⊥

-- all pages of a chunk with this head are read, which stands at this place
pub record ReadsChunk (version : ℕ) (device : List ℕ) (head : ChunkHead) (place : ℕ) (left behind : Rest)
    (entry : IndexEntry) : Type 0 where
  pub chunk : Chunk
  pub measurement_is : chunk.measurement ≡ head.measurement
  pub type_is : chunk.data_type ≡ head.data_type
  pub encoding_is : chunk.encoding ≡ head.encoding
  pub good : IsChunk chunk
  pub parts : HasParts chunk
  pub say : IsChunkEntry device place chunk entry
  pub sums : HasSums version entry
  pub takes : TakesBytes left (flat_map (page_field chunk.encoding) chunk.pages) behind
  pub ends : BeginsWithMark PAGE behind.bytes.now → ⊥

-- this is read of chunks of one group, of which the first stands at this place
pub record AreChunksRead (version : ℕ) (device : List ℕ) (place : ℕ) (chunks : List Chunk) (entries : List IndexEntry)
    : Type 0 where
  pub some : 0 < length chunks
  pub good : All IsChunk chunks
  pub parts : All HasParts chunks
  pub rising : AllPairs (λ a b. IsBefore a.measurement b.measurement) chunks
  pub say : AreEntries device place chunks entries
  pub sums : All (HasSums version) entries

-- all chunks of a group are read
pub record ReadsChunks (version : ℕ) (device : List ℕ) (left behind : Rest) (entries : List IndexEntry) : Type 0 where
  pub chunks : List Chunk
  pub read : AreChunksRead version device left.at chunks entries
  pub takes : TakesBytes left (flat_map chunk_field chunks) behind
  pub no_page : BeginsWithMark PAGE behind.bytes.now → ⊥
  pub no_chunk : BeginsWithMark 67 behind.bytes.now → ⊥

-- the file has this length, tail and head
pub record HasFileEnds (bytes : List ℕ) (ends : Ends) : Type 0 where
  pub size : ends.size ≡ length bytes
  pub long : least_length ≤ length bytes
  pub tail : HasTail bytes ends.root
  pub starts : HasHead bytes
  pub version_is : ends.version ≡ version_in bytes

-- the file has this length, tail, head and root
abbrev pub IsFrontIn : List ℕ → Front → Type 0
IsFrontIn bytes front = (front.ends.size ≡ length bytes)
    × HasFront bytes front.ends.root front.root.place front.root.pointers.items
    × (front.ends.version ≡ version_in bytes)

-- the pointers are those of a root, also where the file does not tell its bytes
abbrev pub HasSomeRoot : Front → Type 0
HasSomeRoot front = (bytes : List ℕ) × IsRoot front.root.place front.ends.root bytes front.root.pointers.items

-- the file has this outline
abbrev pub IsOutlineIn : List ℕ → Ends → ℕ → List Pointer → Index → Type 0
IsOutlineIn bytes ends place pointers index =
    (ends.size ≡ length bytes) × HasOutline bytes ends.root place pointers index.entries
    × (ends.version ≡ version_in bytes)

-- these bytes, which begin with a page's first five, say that the page has so many
abbrev pub SaysSize : List ℕ → ℕ → Type 0
SaysSize bytes size = (mark count : ℕ) (behind : List ℕ) → count < 2 ^ 32
    → bytes ≡ mark ∷ (number32 count ++ behind) → size ≡ 5 + count

-- these are the bytes from the place on, up to the end of the page at least, if one stands there
pub record HasPageBytes (bytes : List ℕ) (place : ℕ) (part : List ℕ) : Type 0 where
  pub size : ℕ
  pub part_is : part ≡ take size (drop place bytes)
  pub whole : (mark : ℕ) (body behind : List ℕ) → length body < 2 ^ 32
      → drop place bytes ≡ (mark ∷ body_bytes body) ++ behind → 5 + length body ≤ size

-- the number of the leaf of the first entry that differs, or of the last leaf where the entries end first
abbrev pub IsFirstWrong : List IndexEntry → List IndexEntry → Option ℕ → Type 0
IsFirstWrong entries said None = entries ≡ said
IsFirstWrong entries said (Some leaf) = (entries ≢ said) × (count : ℕ) × AreAlike entries said count
    × (leaf ≡ min count (length entries - 1) / max_leaf_entries)
