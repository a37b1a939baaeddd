-- The fields of a snapshot: its parts, one behind another.
use Rattle.std.specs.Prelude.{ℕ, ◌<◌, ◌≤◌, ◌^◌, List, [], ◌∷◌, ◌++◌, length, All, FitsSigned}
use Rattle.std.specs.Int.{w64}
use Rattle.std.specs.List.{flat_map}
use Rattle.tsdb_base.specs.declared.point.Point.{Point}
use Rattle.tsdb_base.specs.declared.value.Value.{Value}
use Rattle.tsdb_base.specs.Fields.{number64, type_field, encoding_field, value_field}
use Rattle.tsdb_base.specs.Plain.{plain_i64, plain_text}
use Rattle.tsdb_base.specs.Values.{type_of, IsValue}
use Rattle.tsdb_path.specs.Nodes.{IsPath}
use Rattle.tsdb_log.specs.declared.snapshot.FileRecord.{FileRecord}
use Rattle.tsdb_log.specs.declared.snapshot.MarkRecord.{MarkRecord}
use Rattle.tsdb_log.specs.declared.snapshot.PairRecord.{PairRecord}
use Rattle.tsdb_log.specs.declared.snapshot.SchemaRecord.{SchemaRecord}
use Rattle.tsdb_log.specs.declared.snapshot.Snapshot.{Snapshot}
use Rattle.tsdb_log.specs.declared.snapshot.TableRecord.{TableRecord}
use Rattle.tsdb_log.specs.declared.snapshot.WatermarkRecord.{WatermarkRecord}

-- parts behind their number in eight bytes
abbrev pub counted_fields : {A : Type 0} → (A → List (List ℕ)) → List A → List (List ℕ)
counted_fields fields parts = number64 (length parts) ∷ flat_map fields parts

-- so many parts that eight bytes can hold their number
abbrev pub AreCounted : {A : Type 0} → (A → Type 0) → List A → Type 0
AreCounted IsPart parts = (length parts < 2 ^ 64) × All IsPart parts

-- a value behind the byte of its type
abbrev pub typed_fields : Value → List (List ℕ)
typed_fields value = type_field (type_of value) ∷ value_field value ∷ []

-- a series: its path, type and encoding
abbrev pub schema_fields : SchemaRecord → List (List ℕ)
schema_fields schema = plain_text schema.path ∷ type_field schema.data_type ∷ encoding_field schema.encoding ∷ []

-- a watermark: the device and its time
abbrev pub watermark_fields : WatermarkRecord → List (List ℕ)
watermark_fields mark = plain_text mark.device ∷ plain_i64 mark.time ∷ []

-- a deletion mark: the path, the first and the last time, and the version
abbrev pub mark_fields : MarkRecord → List (List ℕ)
mark_fields mark = plain_text mark.path ∷ plain_i64 mark.from ∷ plain_i64 mark.to ∷ number64 mark.version.0 ∷ []

-- a file: its number and its born
abbrev pub listed_fields : FileRecord → List (List ℕ)
listed_fields file = number64 file.number.0 ∷ number64 file.born.0 ∷ []

-- a point: its time, the byte of its type, and its value
abbrev pub point_fields : Point → List (List ℕ)
point_fields point = plain_i64 point.time ∷ typed_fields point.value

-- the points of a series in a table, behind its number
abbrev pub table_fields : TableRecord → List (List ℕ)
table_fields table = number64 table.series.0 ∷ counted_fields point_fields table.points

-- a frozen pair: its born and its two tables
abbrev pub pair_fields : PairRecord → List (List ℕ)
pair_fields pair = number64 pair.born.0
    ∷ (counted_fields table_fields pair.sequence ++ counted_fields table_fields pair.unsequence)

-- frozen pairs behind their number in one byte
abbrev pub frozen_fields : List PairRecord → List (List ℕ)
frozen_fields pairs = (length pairs ∷ []) ∷ flat_map pair_fields pairs

-- what stands before the frozen pairs
abbrev pub front_fields : Snapshot → List (List ℕ)
front_fields snapshot = number64 snapshot.generation ∷ number64 snapshot.stamp.0 ∷ number64 snapshot.next_file
    ∷ (counted_fields schema_fields snapshot.schemas
    ++ (counted_fields watermark_fields snapshot.watermarks
    ++ (counted_fields mark_fields snapshot.marks
    ++ (counted_fields listed_fields snapshot.sequence ++ counted_fields listed_fields snapshot.unsequence))))

-- what a snapshot says, behind its kind
abbrev pub snapshot_fields : Snapshot → List (List ℕ)
snapshot_fields snapshot = front_fields snapshot
    ++ (frozen_fields snapshot.frozen
    ++ (counted_fields table_fields snapshot.working_sequence ++ counted_fields table_fields snapshot.working_unsequence))

-- parts that their bytes can hold
abbrev pub IsSchemaRecord : SchemaRecord → Type 0
IsSchemaRecord schema = IsPath schema.path

pub record IsWatermark (mark : WatermarkRecord) : Type 0 where
  pub device : IsPath mark.device
  pub time : FitsSigned w64 mark.time

pub record IsMark (mark : MarkRecord) : Type 0 where
  pub path : IsPath mark.path
  pub from : FitsSigned w64 mark.from
  pub to : FitsSigned w64 mark.to
  pub version : mark.version.0 < 2 ^ 64

pub record IsFileRecord (file : FileRecord) : Type 0 where
  pub number : file.number.0 < 2 ^ 64
  pub born : file.born.0 < 2 ^ 64

pub record IsPoint (point : Point) : Type 0 where
  pub time : FitsSigned w64 point.time
  pub value : IsValue point.value

pub record IsTable (table : TableRecord) : Type 0 where
  pub series : table.series.0 < 2 ^ 64
  pub points : AreCounted IsPoint table.points

pub record IsPairRecord (pair : PairRecord) : Type 0 where
  pub born : pair.born.0 < 2 ^ 64
  pub sequence : AreCounted IsTable pair.sequence
  pub unsequence : AreCounted IsTable pair.unsequence

-- the most frozen pairs, whose number stands in one byte
abbrev pub most_pairs : ℕ
most_pairs = 255

-- so many frozen pairs that one byte can hold their number
abbrev pub AreFrozen : List PairRecord → Type 0
AreFrozen pairs = (length pairs ≤ most_pairs) × All IsPairRecord pairs

-- what stands before the frozen pairs, where its bytes can hold it
pub record IsFront (snapshot : Snapshot) : Type 0 where
  pub generation : snapshot.generation < 2 ^ 64
  pub stamp : snapshot.stamp.0 < 2 ^ 64
  pub next_file : snapshot.next_file < 2 ^ 64
  pub schemas : AreCounted IsSchemaRecord snapshot.schemas
  pub watermarks : AreCounted IsWatermark snapshot.watermarks
  pub marks : AreCounted IsMark snapshot.marks
  pub sequence : AreCounted IsFileRecord snapshot.sequence
  pub unsequence : AreCounted IsFileRecord snapshot.unsequence

-- a snapshot that its bytes can hold
pub record IsSnapshot (snapshot : Snapshot) : Type 0 where
  pub front : IsFront snapshot
  pub frozen : AreFrozen snapshot.frozen
  pub working_sequence : AreCounted IsTable snapshot.working_sequence
  pub working_unsequence : AreCounted IsTable snapshot.working_unsequence
