-- The laws of a snapshot's parts.
use Rattle.std.proofs.Common.{◌≡◌, ℕ, ◌<◌, ◌^◌, List, [], ◌∷◌, length, refl, ap, arith}
use Rattle.std.specs.Prelude.{ℤ, FitsSigned}
use Rattle.std.specs.Int.{w64}
use Rattle.std.specs.List.{flat_map}
use Rattle.tsdb_base.specs.declared.point.Point.{Point}
use Rattle.tsdb_base.specs.declared.value.DataType.{DataType}
use Rattle.tsdb_base.specs.declared.value.Encoding.{Encoding}
use Rattle.tsdb_base.specs.declared.value.Value.{Value}
use Rattle.tsdb_base.specs.Fields.{number64, type_field, encoding_field}
use Rattle.tsdb_base.specs.Plain.{plain_i64, plain_text, AreValues}
use Rattle.tsdb_base.proofs.PlainLists.{IsPrefixFree}
use Rattle.tsdb_base.specs.Values.{IsValue}
use Rattle.tsdb_path.specs.Nodes.{IsPath}
use Rattle.tsdb_log.specs.declared.snapshot.FileRecord.{FileRecord}
use Rattle.tsdb_log.specs.declared.snapshot.MarkRecord.{MarkRecord}
use Rattle.tsdb_log.specs.declared.snapshot.PairRecord.{PairRecord}
use Rattle.tsdb_log.specs.declared.snapshot.SchemaRecord.{SchemaRecord}
use Rattle.tsdb_log.specs.declared.snapshot.Snapshot.{Snapshot}
use Rattle.tsdb_log.specs.declared.snapshot.TableRecord.{TableRecord}
use Rattle.tsdb_log.specs.declared.snapshot.WatermarkRecord.{WatermarkRecord}
use Rattle.tsdb_log.specs.Rows.{both, field, AreBoth, IsAny, IsNumber64, IsRowForm}
use Rattle.tsdb_log.specs.PartLaws.{number_rows, time_rows, path_rows, type_rows, encoding_rows, typed_rows, pair_rows, counted_rows, rows_of_values, some_number, some_time, some_path, some_type, some_encoding, some_typed, none_counted}
use Rattle.tsdb_log.specs.Snapshots.{counted_fields, typed_fields, schema_fields, watermark_fields, mark_fields}
use Rattle.tsdb_log.specs.Snapshots.{listed_fields, point_fields, table_fields, pair_fields, frozen_fields, AreCounted}
use Rattle.tsdb_log.specs.Snapshots.{AreFrozen, IsSchemaRecord, IsWatermark, IsMark, IsFileRecord, IsPoint, IsTable}
use Rattle.tsdb_log.specs.Snapshots.{IsPairRecord, IsSnapshot}
use Rattle.tsdb_log.specs.RowLaws.{row_of_field, row_of_both}
use Rattle.tsdb_log.specs.ViewLaws.{IsWrittenAs, row_as}

-- ---- a series

abbrev pub schema_row : List ℕ × (DataType × Encoding) → List (List ℕ)
schema_row = both (field plain_text) (both (field type_field) (field encoding_field))

abbrev pub IsSchemaRow : List ℕ × (DataType × Encoding) → Type 0
IsSchemaRow = AreBoth IsPath (λ _. AreBoth IsAny (λ _. IsAny))

pub schema_as : IsWrittenAs schema_row IsSchemaRow schema_fields IsSchemaRecord
schema_as = record {
  make = λ p. record { path = p.0; data_type = p.1.0; encoding = p.1.1 };
  view = λ s is. ((s.path, (s.data_type, s.encoding)), (is, (tt, tt)), refl);
  back = λ p is. (is.0, refl);
}

pub schema_rows : IsRowForm schema_fields IsSchemaRecord
schema_rows = row_as schema_row IsSchemaRow schema_fields IsSchemaRecord schema_as
    (pair_rows (field plain_text) (both (field type_field) (field encoding_field)) IsPath (AreBoth IsAny (λ _. IsAny)) path_rows
    (pair_rows (field type_field) (field encoding_field) IsAny IsAny type_rows encoding_rows))

pub some_schema : (s : SchemaRecord) × IsSchemaRecord s
some_schema = (record { path = some_path.0; data_type = some_type.0; encoding = some_encoding.0 }, some_path.1)

-- ---- a watermark

abbrev pub watermark_row : List ℕ × ℤ → List (List ℕ)
watermark_row = both (field plain_text) (field plain_i64)

abbrev pub IsWatermarkRow : List ℕ × ℤ → Type 0
IsWatermarkRow = AreBoth IsPath (λ _. FitsSigned w64)

pub watermark_as : IsWrittenAs watermark_row IsWatermarkRow watermark_fields IsWatermark
watermark_as = record {
  make = λ p. record { device = p.0; time = p.1 };
  view = λ s is. ((s.device, s.time), (is.device, is.time), refl);
  back = λ p is. (record { device = is.0; time = is.1 }, refl);
}

pub watermark_rows : IsRowForm watermark_fields IsWatermark
watermark_rows = row_as watermark_row IsWatermarkRow watermark_fields IsWatermark watermark_as
    (pair_rows (field plain_text) (field plain_i64) IsPath (FitsSigned w64) path_rows time_rows)

pub some_watermark : (s : WatermarkRecord) × IsWatermark s
some_watermark = (record { device = some_path.0; time = some_time.0 }, record { device = some_path.1; time = some_time.1 })

-- ---- a mark

abbrev pub mark_row : List ℕ × (ℤ × (ℤ × ℕ)) → List (List ℕ)
mark_row = both (field plain_text) (both (field plain_i64) (both (field plain_i64) (field number64)))

abbrev pub IsMarkRow : List ℕ × (ℤ × (ℤ × ℕ)) → Type 0
IsMarkRow = AreBoth IsPath (λ _. AreBoth (FitsSigned w64) (λ _. AreBoth (FitsSigned w64) (λ _. IsNumber64)))

pub mark_as : IsWrittenAs mark_row IsMarkRow mark_fields IsMark
mark_as = record {
  make = λ p. record { path = p.0; from = p.1.0; to = p.1.1.0; version = record { 0 = p.1.1.1 } };
  view = λ m is. ((m.path, (m.from, (m.to, m.version.0))), (is.path, (is.from, (is.to, is.version))), refl);
  back = λ p is. (record { path = is.0; from = is.1.0; to = is.1.1.0; version = is.1.1.1 }, refl);
}

pub mark_rows : IsRowForm mark_fields IsMark
mark_rows = row_as mark_row IsMarkRow mark_fields IsMark mark_as
    (pair_rows (field plain_text) (both (field plain_i64) (both (field plain_i64) (field number64))) IsPath
    (AreBoth (FitsSigned w64) (λ _. AreBoth (FitsSigned w64) (λ _. IsNumber64))) path_rows
    (pair_rows (field plain_i64) (both (field plain_i64) (field number64)) (FitsSigned w64) (AreBoth (FitsSigned w64) (λ _. IsNumber64)) time_rows
    (pair_rows (field plain_i64) (field number64) (FitsSigned w64) IsNumber64 time_rows number_rows)))

pub some_mark : (m : MarkRecord) × IsMark m
some_mark = (
  record { path = some_path.0; from = some_time.0; to = some_time.0; version = record { 0 = some_number.0 } },
  record { path = some_path.1; from = some_time.1; to = some_time.1; version = some_number.1 },
)

-- ---- a listed file

abbrev pub listed_row : ℕ × ℕ → List (List ℕ)
listed_row = both (field number64) (field number64)

abbrev pub IsListedRow : ℕ × ℕ → Type 0
IsListedRow = AreBoth IsNumber64 (λ _. IsNumber64)

pub listed_as : IsWrittenAs listed_row IsListedRow listed_fields IsFileRecord
listed_as = record {
  make = λ p. record { number = record { 0 = p.0 }; born = record { 0 = p.1 } };
  view = λ f is. ((f.number.0, f.born.0), (is.number, is.born), refl);
  back = λ p is. (record { number = is.0; born = is.1 }, refl);
}

pub listed_rows : IsRowForm listed_fields IsFileRecord
listed_rows = row_as listed_row IsListedRow listed_fields IsFileRecord listed_as
    (pair_rows (field number64) (field number64) IsNumber64 IsNumber64 number_rows number_rows)

pub some_listed : (f : FileRecord) × IsFileRecord f
some_listed = (record { number = record { 0 = some_number.0 }; born = record { 0 = some_number.0 } }, record { number = some_number.1; born = some_number.1 })

-- ---- a point

abbrev pub point_row : ℤ × Value → List (List ℕ)
point_row = both (field plain_i64) typed_fields

abbrev pub IsPointRow : ℤ × Value → Type 0
IsPointRow = AreBoth (FitsSigned w64) (λ _. IsValue)

pub point_as : IsWrittenAs point_row IsPointRow point_fields IsPoint
point_as = record {
  make = λ p. record { time = p.0; value = p.1 };
  view = λ q is. ((q.time, q.value), (is.time, is.value), refl);
  back = λ p is. (record { time = is.0; value = is.1 }, refl);
}

pub point_rows : IsRowForm point_fields IsPoint
point_rows = row_as point_row IsPointRow point_fields IsPoint point_as
    (pair_rows (field plain_i64) typed_fields (FitsSigned w64) IsValue time_rows typed_rows)

pub some_point : (q : Point) × IsPoint q
some_point = (record { time = some_time.0; value = some_typed.0 }, record { time = some_time.1; value = some_typed.1 })

-- ---- the points of a series

abbrev pub table_row : ℕ × List Point → List (List ℕ)
table_row = both (field number64) (counted_fields point_fields)

abbrev pub IsTableRow : ℕ × List Point → Type 0
IsTableRow = AreBoth IsNumber64 (λ _. AreCounted IsPoint)

pub table_as : IsWrittenAs table_row IsTableRow table_fields IsTable
table_as = record {
  make = λ p. record { series = record { 0 = p.0 }; points = p.1 };
  view = λ t is. ((t.series.0, t.points), (is.series, is.points), refl);
  back = λ p is. (record { series = is.0; points = is.1 }, refl);
}

pub table_rows : IsRowForm table_fields IsTable
table_rows = row_as table_row IsTableRow table_fields IsTable table_as
    (pair_rows (field number64) (counted_fields point_fields) IsNumber64 (AreCounted IsPoint) number_rows
    (counted_rows point_fields IsPoint point_rows))

pub some_table : (t : TableRecord) × IsTable t
some_table = (
  record { series = record { 0 = some_number.0 }; points = (none_counted IsPoint).0 },
  record { series = some_number.1; points = (none_counted IsPoint).1 },
)

-- ---- two tables

abbrev pub tables_fields : List TableRecord → List (List ℕ)
tables_fields = counted_fields table_fields

abbrev pub AreTables : List TableRecord → Type 0
AreTables = AreCounted IsTable

pub tables_rows : IsRowForm tables_fields AreTables
tables_rows = counted_rows table_fields IsTable table_rows

abbrev pub two_tables : List TableRecord × List TableRecord → List (List ℕ)
two_tables = both tables_fields tables_fields

abbrev pub AreTwoTables : List TableRecord × List TableRecord → Type 0
AreTwoTables = AreBoth AreTables (λ _. AreTables)

pub two_tables_rows : IsRowForm two_tables AreTwoTables
two_tables_rows = pair_rows tables_fields tables_fields AreTables AreTables tables_rows tables_rows

-- ---- a frozen pair

abbrev pub pair_row : ℕ × (List TableRecord × List TableRecord) → List (List ℕ)
pair_row = both (field number64) two_tables

abbrev pub IsPairRow : ℕ × (List TableRecord × List TableRecord) → Type 0
IsPairRow = AreBoth IsNumber64 (λ _. AreTwoTables)

pub pair_as : IsWrittenAs pair_row IsPairRow pair_fields IsPairRecord
pair_as = record {
  make = λ p. record { born = record { 0 = p.0 }; sequence = p.1.0; unsequence = p.1.1 };
  view = λ q is. ((q.born.0, (q.sequence, q.unsequence)), (is.born, (is.sequence, is.unsequence)), refl);
  back = λ p is. (record { born = is.0; sequence = is.1.0; unsequence = is.1.1 }, refl);
}

pub frozen_pair_rows : IsRowForm pair_fields IsPairRecord
frozen_pair_rows = row_as pair_row IsPairRow pair_fields IsPairRecord pair_as
    (pair_rows (field number64) two_tables IsNumber64 AreTwoTables number_rows two_tables_rows)

pub some_frozen_pair : (q : PairRecord) × IsPairRecord q
some_frozen_pair = (
  record { born = record { 0 = some_number.0 }; sequence = (none_counted IsTable).0; unsequence = (none_counted IsTable).0 },
  record { born = some_number.1; sequence = (none_counted IsTable).1; unsequence = (none_counted IsTable).1 },
)

-- ---- frozen pairs behind their number

abbrev pub byte_field : ℕ → List ℕ
byte_field n = n ∷ []

abbrev pub IsByte : ℕ → Type 0
IsByte n = n < 2 ^ 8

pub byte_free : IsPrefixFree byte_field IsByte
byte_free a b x y is_a is_b e = (cc, cc)

abbrev pub frozen_row : ℕ × List PairRecord → List (List ℕ)
frozen_row = both (field byte_field) (flat_map pair_fields)

abbrev pub IsFrozenRow : ℕ × List PairRecord → Type 0
IsFrozenRow = AreBoth IsByte (AreValues IsPairRecord)

pub frozen_as : IsWrittenAs frozen_row IsFrozenRow frozen_fields AreFrozen
frozen_as = record {
  make = λ p. p.1;
  view = λ xs are. let few = are.0 in ((length xs, xs), (omega arith, (refl, are.1)), refl);
  back = λ p is.
      let few : p.0 < 2 ^ 8 = is.0 in
      let count : length p.1 ≡ p.0 = is.1.0 in
      ((omega arith, is.1.1), ap (λ (n : ℕ). (n ∷ []) ∷ flat_map pair_fields p.1) count);
}

pub frozen_rows : IsRowForm frozen_fields AreFrozen
frozen_rows = row_as frozen_row IsFrozenRow frozen_fields AreFrozen frozen_as
    (row_of_both (field byte_field) (flat_map pair_fields) IsByte (AreValues IsPairRecord)
    (row_of_field byte_field IsByte byte_free)
    (λ n few. rows_of_values pair_fields IsPairRecord frozen_pair_rows n))

-- ---- the whole

abbrev pub Numbers : Type 0
Numbers = ℕ × (ℕ × ℕ)

abbrev pub numbers_row : Numbers → List (List ℕ)
numbers_row = both (field number64) (both (field number64) (field number64))

abbrev pub AreNumbers : Numbers → Type 0
AreNumbers = AreBoth IsNumber64 (λ _. AreBoth IsNumber64 (λ _. IsNumber64))

pub numbers_rows : IsRowForm numbers_row AreNumbers
numbers_rows = pair_rows (field number64) (both (field number64) (field number64)) IsNumber64 (AreBoth IsNumber64 (λ _. IsNumber64)) number_rows
    (pair_rows (field number64) (field number64) IsNumber64 IsNumber64 number_rows number_rows)

abbrev pub SnapshotFiles : Type 0
SnapshotFiles = List FileRecord × List FileRecord

abbrev pub file_lists_row : SnapshotFiles → List (List ℕ)
file_lists_row = both (counted_fields listed_fields) (counted_fields listed_fields)

abbrev pub AreFileRecords : SnapshotFiles → Type 0
AreFileRecords = AreBoth (AreCounted IsFileRecord) (λ _. AreCounted IsFileRecord)

abbrev pub Lists : Type 0
Lists = List SchemaRecord × (List WatermarkRecord × (List MarkRecord × SnapshotFiles))

abbrev pub marks_row : List MarkRecord × SnapshotFiles → List (List ℕ)
marks_row = both (counted_fields mark_fields) file_lists_row

abbrev pub AreMarks : List MarkRecord × SnapshotFiles → Type 0
AreMarks = AreBoth (AreCounted IsMark) (λ _. AreFileRecords)

abbrev pub watermarks_row : List WatermarkRecord × (List MarkRecord × SnapshotFiles) → List (List ℕ)
watermarks_row = both (counted_fields watermark_fields) marks_row

abbrev pub AreWatermarks : List WatermarkRecord × (List MarkRecord × SnapshotFiles) → Type 0
AreWatermarks = AreBoth (AreCounted IsWatermark) (λ _. AreMarks)

abbrev pub lists_row : Lists → List (List ℕ)
lists_row = both (counted_fields schema_fields) watermarks_row

abbrev pub AreLists : Lists → Type 0
AreLists = AreBoth (AreCounted IsSchemaRecord) (λ _. AreWatermarks)

pub lists_rows : IsRowForm lists_row AreLists
lists_rows = pair_rows (counted_fields schema_fields) watermarks_row (AreCounted IsSchemaRecord) AreWatermarks (counted_rows schema_fields IsSchemaRecord schema_rows)
    (pair_rows (counted_fields watermark_fields) marks_row (AreCounted IsWatermark) AreMarks (counted_rows watermark_fields IsWatermark watermark_rows)
    (pair_rows (counted_fields mark_fields) file_lists_row (AreCounted IsMark) AreFileRecords (counted_rows mark_fields IsMark mark_rows)
    (pair_rows (counted_fields listed_fields) (counted_fields listed_fields) (AreCounted IsFileRecord)
    (AreCounted IsFileRecord)
    (counted_rows listed_fields IsFileRecord listed_rows) (counted_rows listed_fields IsFileRecord listed_rows))))

abbrev pub front_row : Numbers × Lists → List (List ℕ)
front_row = both numbers_row lists_row

abbrev pub IsFrontRow : Numbers × Lists → Type 0
IsFrontRow = AreBoth AreNumbers (λ _. AreLists)

pub front_rows : IsRowForm front_row IsFrontRow
front_rows = pair_rows numbers_row lists_row AreNumbers AreLists numbers_rows lists_rows

abbrev pub Back : Type 0
Back = List PairRecord × (List TableRecord × List TableRecord)

abbrev pub back_row : Back → List (List ℕ)
back_row = both frozen_fields two_tables

abbrev pub IsBackRow : Back → Type 0
IsBackRow = AreBoth AreFrozen (λ _. AreTwoTables)

abbrev pub SnapshotRow : Type 0
SnapshotRow = (Numbers × Lists) × Back

abbrev pub snapshot_row : SnapshotRow → List (List ℕ)
snapshot_row = both front_row back_row

abbrev pub IsSnapshotRow : SnapshotRow → Type 0
IsSnapshotRow = AreBoth IsFrontRow (λ _. IsBackRow)

pub snapshot_rows : IsRowForm snapshot_row IsSnapshotRow
snapshot_rows = pair_rows front_row back_row IsFrontRow IsBackRow front_rows
    (pair_rows frozen_fields two_tables AreFrozen AreTwoTables frozen_rows two_tables_rows)

abbrev pub made_snapshot : SnapshotRow → Snapshot
made_snapshot p = record {
  generation = p.0.0.0;
  stamp = record { 0 = p.0.0.1.0 };
  next_file = p.0.0.1.1;
  schemas = p.0.1.0;
  watermarks = p.0.1.1.0;
  marks = p.0.1.1.1.0;
  sequence = p.0.1.1.1.1.0;
  unsequence = p.0.1.1.1.1.1;
  frozen = p.1.0;
  working_sequence = p.1.1.0;
  working_unsequence = p.1.1.1;
}

abbrev pub row_of_snapshot : Snapshot → SnapshotRow
row_of_snapshot s = (
  ((s.generation, (s.stamp.0, s.next_file)), (s.schemas, (s.watermarks, (s.marks, (s.sequence, s.unsequence))))),
  (s.frozen, (s.working_sequence, s.working_unsequence)),
)

pub is_row_of_snapshot : (s : Snapshot) → IsSnapshot s → IsSnapshotRow (row_of_snapshot s)
is_row_of_snapshot s is = (
  (
    (is.front.generation, (is.front.stamp, is.front.next_file)),
    (is.front.schemas, (is.front.watermarks, (is.front.marks, (is.front.sequence, is.front.unsequence)))),
  ),
  (is.frozen, (is.working_sequence, is.working_unsequence)),
)

pub is_made_snapshot : (p : SnapshotRow) → IsSnapshotRow p → IsSnapshot (made_snapshot p)
is_made_snapshot p is = record {
  front = record {
    generation = is.0.0.0;
    stamp = is.0.0.1.0;
    next_file = is.0.0.1.1;
    schemas = is.0.1.0;
    watermarks = is.0.1.1.0;
    marks = is.0.1.1.1.0;
    sequence = is.0.1.1.1.1.0;
    unsequence = is.0.1.1.1.1.1;
  };
  frozen = is.1.0;
  working_sequence = is.1.1.0;
  working_unsequence = is.1.1.1;
}
