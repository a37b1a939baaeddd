-- Groups, chunks and pages as parts one behind another, and which part may stand behind which.
use Rattle.std.specs.Prelude.{◌≡◌, ℕ, ◌+◌, ◌<◌, List, [], ◌∷◌, ◌++◌, true}
use Rattle.tsdb_base.specs.declared.point.Point.{Point}
use Rattle.tsdb_base.specs.declared.value.DataType.{DataType}
use Rattle.tsdb_base.specs.declared.value.Encoding.{Encoding}
use Rattle.tsdb_base.specs.Fields.{type_field, encoding_field}
use Rattle.tsdb_base.specs.Plain.{plain_text}
use Rattle.tsdb_base.specs.Values.{is_suitable}
use Rattle.tsdb_path.specs.Nodes.{IsName, IsPath}
use Rattle.tsdb_base.specs.Limits.{max_pages}
use Rattle.tsdb_base.specs.Points.{IsRising}
use Rattle.tsdb_pages.specs.Trees.{IsBefore}
use Rattle.tsdb_pages.specs.File.{page_bytes}
use Rattle.tsdb_index.specs.declared.marks.TheConstants.{GROUP, CHUNK}
use Rattle.tsfile_reader.specs.Page.{AreGood}

-- A group or a chunk up to what stands in it, or a page of a chunk of this type and encoding.
pub data FilePart : Type 0 where
  Group : List ℕ → FilePart
  Chunk : List ℕ → DataType → Encoding → FilePart
  Page : DataType → Encoding → List Point → FilePart

-- the bytes of a part
abbrev pub part_field : FilePart → List ℕ
part_field (FilePart.Group device) = GROUP ∷ plain_text device
part_field (FilePart.Chunk measurement data_type encoding) =
    CHUNK ∷ plain_text measurement ++ type_field data_type ++ encoding_field encoding
part_field (FilePart.Page data_type encoding points) = page_bytes encoding points

-- In what follows the parts before another one stand the nearest first.

-- the bytes of parts
abbrev pub parts_field : List FilePart → List ℕ
parts_field [] = []
parts_field (part ∷ before) = parts_field before ++ part_field part

-- the measurement comes behind that of the last chunk
abbrev pub IsBehindChunk : List FilePart → List ℕ → Type 0
IsBehindChunk [] measurement = ⊥
IsBehindChunk (FilePart.Group device ∷ before) measurement = ⊥
IsBehindChunk (FilePart.Chunk last data_type encoding ∷ before) measurement = IsBefore last measurement
IsBehindChunk (FilePart.Page data_type encoding points ∷ before) measurement = IsBehindChunk before measurement

-- the device comes behind that of the last group
abbrev pub IsBehindGroup : List FilePart → List ℕ → Type 0
IsBehindGroup [] device = ⊥
IsBehindGroup (FilePart.Group last ∷ before) device = IsBefore last device
IsBehindGroup (FilePart.Chunk measurement data_type encoding ∷ before) device = IsBehindGroup before device
IsBehindGroup (FilePart.Page data_type encoding points ∷ before) device = IsBehindGroup before device

-- how many pages of one chunk stand last
abbrev pub page_count : List FilePart → ℕ
page_count [] = 0
page_count (FilePart.Group device ∷ before) = 0
page_count (FilePart.Chunk measurement data_type encoding ∷ before) = 0
page_count (FilePart.Page data_type encoding points ∷ before) = 1 + page_count before

-- the part may stand behind these
abbrev pub MayFollow : List FilePart → FilePart → Type 0
-- first stands a group
MayFollow [] (FilePart.Group device) = IsPath device
MayFollow [] part = ⊥
-- a group begins with a chunk
MayFollow (FilePart.Group device ∷ before) (FilePart.Chunk measurement data_type encoding) =
    IsName measurement × (is_suitable data_type encoding ≡ true)
MayFollow (FilePart.Group device ∷ before) part = ⊥
-- a chunk begins with a page
MayFollow (FilePart.Chunk measurement data_type encoding ∷ before) (FilePart.Page page_type page_encoding points) =
    (page_type ≡ data_type) × (page_encoding ≡ encoding) × AreGood data_type points
MayFollow (FilePart.Chunk measurement data_type encoding ∷ before) part = ⊥
-- behind a page stands a later one, a chunk of a greater measurement, or a group of a greater device
MayFollow (FilePart.Page data_type encoding last ∷ before) (FilePart.Page page_type page_encoding points) =
    (page_type ≡ data_type) × (page_encoding ≡ encoding) × AreGood data_type points × IsRising (last ++ points)
    × (1 + page_count before < max_pages)
MayFollow (FilePart.Page data_type encoding last ∷ before) (FilePart.Chunk measurement next_type next_encoding) =
    IsName measurement × (is_suitable next_type next_encoding ≡ true) × IsBehindChunk before measurement
MayFollow (FilePart.Page data_type encoding last ∷ before) (FilePart.Group device) =
    IsPath device × IsBehindGroup before device

-- each part may stand behind those before it
abbrev pub AreParts : List FilePart → Type 0
AreParts [] = Unit {0}
AreParts (part ∷ before) = MayFollow before part × AreParts before

-- behind these parts the groups may end
abbrev pub MayEnd : List FilePart → Type 0
MayEnd (FilePart.Page data_type encoding points ∷ before) = Unit {0}
MayEnd parts = ⊥
