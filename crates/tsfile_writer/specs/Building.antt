-- What a builder has of the series that it was given. The clauses of its calls name `WasGiven` alone.
use Rattle.std.specs.Prelude.{◌≡◌, ◌≢◌, ℕ, ◌<◌, ◌≤◌, Bool, true, false, Option, None, Some, List, [], ◌∷◌, ◌++◌}
use Rattle.std.specs.Prelude.{length, map, All, AllPairs}
use Rattle.tsdb_base.specs.declared.point.Point.{Point}
use Rattle.tsdb_base.specs.declared.value.DataType.{DataType}
use Rattle.tsdb_base.specs.declared.value.Encoding.{Encoding}
use Rattle.tsdb_base.specs.Limits.{max_entries, max_pages, max_values}
use Rattle.tsdb_base.specs.Values.{is_suitable, type_of}
use Rattle.tsdb_path.specs.Nodes.{device_of, measurement_of, node_count}
use Rattle.tsdb_index.specs.declared.index.IndexEntry.{IndexEntry}
use Rattle.tsdb_pages.specs.declared.tree.Page.{Page}
use Rattle.tsdb_pages.specs.declared.tree.Chunk.{Chunk}
use Rattle.tsdb_pages.specs.declared.tree.Group.{Group}
use Rattle.tsdb_pages.specs.File.{chunk_start, page_bytes}
use Rattle.tsdb_base.specs.Points.{IsRising}
use Rattle.tsdb_pages.specs.Pages.{ArePoints}
use Rattle.tsdb_pages.specs.Trees.{IsBefore, IsChunk, IsGroup, page_points}
use Rattle.tsfile_writer.specs.declared.builder.Builder.{Builder}
use Rattle.tsfile_writer.specs.declared.builder.OpenSeries.{OpenSeries}
use Rattle.tsfile_writer.specs.declared.layout.OpenChunk.{OpenChunk}
use Rattle.tsfile_writer.specs.BuilderInput.{AreChunksOf, IsMadeSeries, GivenSeries, placed}
use Rattle.tsfile_writer.specs.Steps.{AreChunks, ArePages, HasOpenSums, IsChunkBegun, IsLonger, SameChunk}
use Rattle.tsfile_writer.specs.Steps.{start_if}

-- a chunk of this device begins a group behind these entries, or it does not
abbrev pub BeginsGroup : List IndexEntry → List ℕ → Bool → Type 0
BeginsGroup entries device true = (front : List IndexEntry) (last : IndexEntry) → entries ≡ front ++ last ∷ []
    → last.device ≢ device
BeginsGroup entries device false = (front : List IndexEntry) × (last : IndexEntry) × (entries ≡ front ++ last ∷ [])
    × (last.device ≡ device)

-- the chunks of these series are those of the groups, and of one more group of this device
pub record AreGrouped (given : List GivenSeries) (groups : List Group) (device : List ℕ)
    (chunks : List Chunk) : Type 0 where
  pub of : AreChunksOf given (placed groups ++ map (λ chunk. (device, chunk)) chunks)
  pub groups_good : All IsGroup groups
  pub groups_rising : AllPairs (λ a b. IsBefore a.device b.device) groups
  pub groups_before : All (λ group. IsBefore group.device device) groups
  pub chunks_good : All IsChunk chunks
  pub chunks_rising : AllPairs (λ a b. IsBefore a.measurement b.measurement) chunks

-- a series at this path has these pages in the file, each of 1,000 points, and its other points wait
pub record IsOpenOf (series : GivenSeries) (pages : List Page) (path : List ℕ) (data_type : DataType)
    (encoding : Encoding)
    (points : List Point) : Type 0 where
  pub nodes : 2 ≤ node_count path
  pub device_is : series.device ≡ device_of path
  pub measurement_is : series.measurement ≡ measurement_of path
  pub type_is : series.data_type ≡ data_type
  pub encoding_is : series.encoding ≡ encoding
  pub suits : is_suitable data_type encoding ≡ true
  pub points_are : series.points ≡ page_points pages ++ points
  pub full : All (λ page. length page.points ≡ max_values) pages
  pub good : All (λ page. ArePoints data_type page.points) pages
  pub few_pages : length pages ≤ max_pages
  pub few : length points ≤ max_values
  pub typed : All (λ point. type_of point.value ≡ data_type) points
  pub rising : IsRising series.points
  pub ahead : points ≡ [] → pages ≡ []

-- where the pages of the series at this path stand: in no chunk yet, or in this one
abbrev pub StandInChunk : List Group → List Chunk → List Page → List ℕ → List IndexEntry → List ℕ → DataType → Encoding
    → Option OpenChunk → Type 0
StandInChunk groups chunks pages bytes entries path data_type encoding None =
    (pages ≡ []) × ((begins : Bool) → BeginsGroup entries (device_of path) begins
    → AreChunks groups (device_of path) chunks (bytes ++ start_if begins (device_of path)) entries)
StandInChunk groups chunks pages bytes entries path data_type encoding (Some chunk) =
    (0 < length pages) × ArePages groups (device_of path) chunks (measurement_of path) data_type encoding pages bytes
    entries chunk

-- these series were given, and the last of them is at this path, with this chunk, and these points wait
pub record BuildState (given : List GivenSeries) (bytes : List ℕ) (entries : List IndexEntry) (path : List ℕ)
    (data_type : DataType) (encoding : Encoding) (chunk : Option OpenChunk) (points : List Point) : Type 0 where
  pub front : List GivenSeries
  pub last : GivenSeries
  pub all : given ≡ front ++ last ∷ []
  pub pages : List Page
  pub is : IsOpenOf last pages path data_type encoding points
  pub groups : List Group
  pub chunks : List Chunk
  pub grouped : AreGrouped front groups (device_of path) chunks
  pub chunks_before : All (λ chunk. IsBefore chunk.measurement (measurement_of path)) chunks
  pub few : length entries ≤ max_entries
  pub stand : StandInChunk groups chunks pages bytes entries path data_type encoding chunk
  pub made : All IsMadeSeries given

-- these series were given, and the last of them is open
abbrev pub IsBuilding : List GivenSeries → List ℕ → List IndexEntry → OpenSeries → Type 0
IsBuilding given bytes entries waits = BuildState given bytes entries waits.path waits.data_type waits.encoding
    waits.chunk waits.points.items

-- nothing was given, and nothing stands
pub record IsEmpty (given : List GivenSeries) (bytes : List ℕ) (entries : List IndexEntry) : Type 0 where
  pub none : given ≡ []
  pub no_bytes : bytes ≡ []
  pub no_entries : entries ≡ []

abbrev pub IsGiven : List GivenSeries → List ℕ → List IndexEntry → Option OpenSeries → Type 0
IsGiven given bytes entries None = IsEmpty given bytes entries
IsGiven given bytes entries (Some waits) = IsBuilding given bytes entries waits

-- the builder was given these series, each with its points, and nothing else
abbrev pub WasGiven : Builder → List GivenSeries → Type 0
WasGiven builder given = IsGiven given builder.bytes.items builder.entries.items builder.series

-- ---- steps

-- all series are whole: their chunks stand in groups, the last of this device and with a last chunk of this measurement
pub record AreClosed (given : List GivenSeries) (device measurement : List ℕ) (bytes : List ℕ)
    (entries : List IndexEntry) : Type 0 where
  pub groups : List Group
  pub chunks : List Chunk
  pub grouped : AreGrouped given groups device chunks
  pub some : 0 < length chunks
  pub before : (next : List ℕ) → IsBefore measurement next → All (λ chunk. IsBefore chunk.measurement next) chunks
  pub layout : AreChunks groups device chunks bytes entries
  pub few : length entries ≤ max_entries
  pub front : List IndexEntry
  pub entry : IndexEntry
  pub last : entries ≡ front ++ entry ∷ []
  pub device_is : entry.device ≡ device
  pub made : All IsMadeSeries given

-- a chunk with one page, behind what stands before a group's chunks where one begins
pub record IsStarted (path : List ℕ) (data_type : DataType) (encoding : Encoding) (points : List Point)
    (entries : List IndexEntry) (old new : List ℕ) (chunk : OpenChunk) : Type 0 where
  pub begins : Bool
  pub test : BeginsGroup entries (device_of path) begins
  pub bytes_are : new ≡ old ++ start_if begins (device_of path)
      ++ (chunk_start (measurement_of path) data_type encoding ++ page_bytes encoding points)
  pub is : IsChunkBegun (length (old ++ start_if begins (device_of path)))
      (length (chunk_start (measurement_of path) data_type encoding)) points chunk
  pub sums : HasOpenSums data_type chunk

-- one page more stands in the chunk
pub record IsPagePut (data_type : DataType) (encoding : Encoding) (points : List Point) (old new : List ℕ)
    (before after : OpenChunk) : Type 0 where
  pub bytes_are : new ≡ old ++ page_bytes encoding points
  pub is : IsLonger (length old) points before after
  pub sums : HasOpenSums data_type before → HasOpenSums data_type after

-- the points of the series at this path stand as a page in this chunk
abbrev pub PutsIn : List ℕ → DataType → Encoding → List Point → List IndexEntry → List ℕ → List ℕ → Option OpenChunk
    → Option OpenChunk → Type 0
PutsIn path data_type encoding points entries old new before None = ⊥
PutsIn path data_type encoding points entries old new None (Some after) =
    IsStarted path data_type encoding points entries old new after
PutsIn path data_type encoding points entries old new (Some before) (Some after) =
    IsPagePut data_type encoding points old new before after

-- the chunk is as it was
abbrev pub SameIfAny : Option OpenChunk → Option OpenChunk → Type 0
SameIfAny None None = Unit {0}
SameIfAny None (Some after) = ⊥
SameIfAny (Some before) None = ⊥
SameIfAny (Some before) (Some after) = SameChunk before after

-- all but the chunk is as it was
pub record SameSeries (old new : OpenSeries) : Type 0 where
  pub path_is : new.path ≡ old.path
  pub type_is : new.data_type ≡ old.data_type
  pub encoding_is : new.encoding ≡ old.encoding
  pub points_are : new.points.items ≡ old.points.items
