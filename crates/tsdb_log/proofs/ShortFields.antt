-- A record of which some bytes are known has them up to the field that they cut, and no field is long.
use Rattle.std.proofs.Common.{◌≡◌, ◌⊎◌, inl, inr, ℕ, zero, suc, ◌+◌, ◌<◌, ◌≤◌, List, [], ◌∷◌, ◌++◌, length, take, drop, refl, sym, ap, ◌∙◌, append_assoc, arith, take-append-drop}
use Rattle.std.specs.List.{flat_map, AllByRecursion as Each, All}
use Rattle.std.proofs.lemmas.List.{append-nil, length-append, length-take}
use Rattle.std.proofs.lemmas.List.Elements.{recursion_from_All}
use Rattle.tsdb_base.specs.PlainLaws.{same_front}
use Rattle.tsdb_base.specs.declared.ids.FileNumber.{FileNumber}
use Rattle.tsdb_base.specs.declared.point.Point.{Point}
use Rattle.tsdb_base.specs.declared.value.Value.{Value}
use Rattle.tsdb_base.specs.declared.value.DataType.{DataType}
use Rattle.tsdb_base.specs.declared.value.Encoding.{Encoding}
use Rattle.tsdb_base.specs.Fields.{encoding_field, type_field}
use Rattle.tsdb_base.specs.Values.{type_of, IsValue}
use Rattle.tsdb_log.specs.declared.record.CellRecord.{CellRecord}
use Rattle.tsdb_log.specs.declared.record.LogRecord.{LogRecord}
use Rattle.tsdb_log.specs.declared.record.LogRecord.TheVariants.{Create, Insert, Delete, Freeze, Flushed, Replaced, Snapshot}
use Rattle.tsdb_log.specs.declared.snapshot.FileRecord.{FileRecord}
use Rattle.tsdb_log.specs.declared.snapshot.MarkRecord.{MarkRecord}
use Rattle.tsdb_log.specs.declared.snapshot.PairRecord.{PairRecord}
use Rattle.tsdb_log.specs.declared.snapshot.SchemaRecord.{SchemaRecord}
use Rattle.tsdb_log.specs.declared.snapshot.Snapshot.{Snapshot as Whole}
use Rattle.tsdb_log.specs.declared.snapshot.TableRecord.{TableRecord}
use Rattle.tsdb_log.specs.declared.snapshot.WatermarkRecord.{WatermarkRecord}
use Rattle.tsdb_log.specs.Places.{AreFieldsNearTheirEnd, BeginNoRecord, IsBadRecord, IsFurthest}
use Rattle.tsdb_log.specs.Snapshots.{counted_fields, front_fields, frozen_fields, listed_fields, mark_fields, pair_fields, point_fields}
use Rattle.tsdb_log.specs.Snapshots.{schema_fields, snapshot_fields, table_fields, typed_fields, watermark_fields, AreCounted}
use Rattle.tsdb_log.specs.Snapshots.{IsFileRecord, IsMark, IsPairRecord, IsPoint, IsSchemaRecord, IsSnapshot, IsTable, IsWatermark}
use Rattle.tsdb_log.specs.Spelling.{joined_fields, cell_fields, fields, file_fields, files_fields, output_fields, spelling, AreFiles, IsCell, IsFileField, IsRecord}
use Rattle.tsdb_log.proofs.Sizes.{encoding_length, path_length, space_length, type_length, value_length}

-- a field has at most the bytes of a text, and of its length before it
abbrev IsShort : List ℕ → Type 0
IsShort field = length field ≤ 65537

abbrev AreShort : List (List ℕ) → Type 0
AreShort fields = Each IsShort fields

both_short : (xs ys : List (List ℕ)) → AreShort xs → AreShort ys → AreShort (xs ++ ys)
both_short [] ys short_xs short_ys = short_ys
both_short (x ∷ xs) ys short_xs short_ys = (short_xs.0, both_short xs ys short_xs.1 short_ys)

rows_short : {A : Type 0} (row : A → List (List ℕ)) (Is : A → Type 0) → ((a : A) → Is a → AreShort (row a)) → (xs : List A) → Each Is xs
    → AreShort (flat_map row xs)
rows_short row Is short [] all = tt
rows_short row Is short (x ∷ xs) all = both_short (row x) (flat_map row xs) (short x all.0) (rows_short row Is short xs all.1)

counted_short : {A : Type 0} (row : A → List (List ℕ)) (Is : A → Type 0) → ((a : A) → Is a → AreShort (row a)) → (xs : List A) → AreCounted Is xs
    → AreShort (counted_fields row xs)
counted_short row Is short xs are = (omega arith, rows_short row Is short xs (recursion_from_All Is xs are.1))

typed_short : (value : Value) → IsValue value → AreShort (typed_fields value)
typed_short value is = (omega (arith, type_length (type_of value)), (value_length value is, tt))

cell_short : (cell : CellRecord) → IsCell cell → AreShort (cell_fields cell)
cell_short cell is = (omega arith, typed_short cell.value is.value)

file_short : (file : FileNumber) → IsFileField file → AreShort (file_fields file)
file_short file is = (omega arith, tt)

files_short : (files : List FileNumber) → AreFiles files → AreShort (files_fields files)
files_short files are = (omega arith, rows_short file_fields IsFileField file_short files (recursion_from_All IsFileField files are.1))

-- the type and the encoding of a series
series_short : (data_type : DataType) (encoding : Encoding) → AreShort (type_field data_type ∷ encoding_field encoding ∷ [])
series_short data_type encoding = (omega (arith, type_length data_type), (omega (arith, encoding_length encoding), tt))

schema_short : (schema : SchemaRecord) → IsSchemaRecord schema → AreShort (schema_fields schema)
schema_short schema is =
    (omega (arith, path_length schema.path is), series_short schema.data_type schema.encoding)

watermark_short : (mark : WatermarkRecord) → IsWatermark mark → AreShort (watermark_fields mark)
watermark_short mark is = (omega (arith, path_length mark.device is.device), (omega arith, tt))

mark_short : (mark : MarkRecord) → IsMark mark → AreShort (mark_fields mark)
mark_short mark is = (omega (arith, path_length mark.path is.path), (omega arith, (omega arith, (omega arith, tt))))

listed_short : (file : FileRecord) → IsFileRecord file → AreShort (listed_fields file)
listed_short file is = (omega arith, (omega arith, tt))

point_short : (point : Point) → IsPoint point → AreShort (point_fields point)
point_short point is = (omega arith, typed_short point.value is.value)

table_short : (table : TableRecord) → IsTable table → AreShort (table_fields table)
table_short table is = (omega arith, counted_short point_fields IsPoint point_short table.points is.points)

tables_short : (tables : List TableRecord) → AreCounted IsTable tables → AreShort (counted_fields table_fields tables)
tables_short tables are = counted_short table_fields IsTable table_short tables are

pair_short : (pair : PairRecord) → IsPairRecord pair → AreShort (pair_fields pair)
pair_short pair is = (
  omega arith,
  both_short (counted_fields table_fields pair.sequence) (counted_fields table_fields pair.unsequence)
      (tables_short pair.sequence is.sequence) (tables_short pair.unsequence is.unsequence),
)

front_short : (snapshot : Whole) → IsSnapshot snapshot → AreShort (front_fields snapshot)
front_short snapshot is =
    let front = is.front in
    let schemas = counted_fields schema_fields snapshot.schemas in
    let watermarks = counted_fields watermark_fields snapshot.watermarks in
    let marks = counted_fields mark_fields snapshot.marks in
    let sequence = counted_fields listed_fields snapshot.sequence in
    let unsequence = counted_fields listed_fields snapshot.unsequence in
    let files : AreShort (sequence ++ unsequence) = both_short sequence unsequence
    (counted_short listed_fields IsFileRecord listed_short snapshot.sequence front.sequence)
    (counted_short listed_fields IsFileRecord listed_short snapshot.unsequence front.unsequence) in
    let behind_marks : AreShort (marks ++ (sequence ++ unsequence)) = both_short marks (sequence ++ unsequence)
    (counted_short mark_fields IsMark mark_short snapshot.marks front.marks) files in
    let behind_watermarks : AreShort (watermarks ++ (marks ++ (sequence ++ unsequence))) =
    both_short watermarks (marks ++ (sequence ++ unsequence))
    (counted_short watermark_fields IsWatermark watermark_short snapshot.watermarks front.watermarks) behind_marks in (
      omega arith,
      (
        omega arith,
        (
          omega arith,
          both_short schemas (watermarks ++ (marks ++ (sequence ++ unsequence)))
              (counted_short schema_fields IsSchemaRecord schema_short snapshot.schemas front.schemas) behind_watermarks,
        ),
      ),
    )

snapshot_short : (snapshot : Whole) → IsSnapshot snapshot → AreShort (snapshot_fields snapshot)
snapshot_short snapshot is =
    let frozen = frozen_fields snapshot.frozen in
    let sequence = counted_fields table_fields snapshot.working_sequence in
    let unsequence = counted_fields table_fields snapshot.working_unsequence in
    let short_frozen : AreShort frozen =
    (omega arith, rows_short pair_fields IsPairRecord pair_short snapshot.frozen (recursion_from_All IsPairRecord snapshot.frozen is.frozen.1)) in
    both_short (front_fields snapshot) (frozen ++ (sequence ++ unsequence)) (front_short snapshot is)
    (both_short frozen (sequence ++ unsequence) short_frozen (both_short sequence unsequence
    (tables_short snapshot.working_sequence is.working_sequence) (tables_short snapshot.working_unsequence is.working_unsequence)))

-- each field of a record is short
record_short : (item : LogRecord) → IsRecord item → AreShort (fields item)
record_short (Create path data_type encoding) is =
    (omega arith, (omega (arith, path_length path is), series_short data_type encoding))
record_short (Insert time cells) is =
    (omega arith, (omega arith, (omega arith, rows_short cell_fields IsCell cell_short cells (recursion_from_All IsCell cells is.2))))
record_short (Delete path range) is = (omega arith, (omega (arith, path_length path is.0), (omega arith, (omega arith, tt))))
record_short Freeze is = (omega arith, tt)
record_short (Flushed sequence unsequence) is = (omega arith, (omega arith, (omega arith, tt)))
record_short (Replaced born space place output sequence unsequence) is = (
  omega arith,
  both_short (output_fields born space place output) (files_fields sequence ++ files_fields unsequence)
      (omega arith, (omega (arith, space_length space), (omega arith, (omega arith, tt))))
      (both_short (files_fields sequence) (files_fields unsequence) (files_short sequence is.3) (files_short unsequence is.4)),
)
record_short (Snapshot snapshot) is = (omega arith, snapshot_short snapshot is)

order : (a b : ℕ) → (a < b) ⊎ (b ≤ a)
order a zero = inr (omega arith)
order zero (suc b) = inl (omega arith)
order (suc a) (suc b) = elim (order a b) [ inl below ↦ inl (omega arith) | inr above ↦ inr (omega arith) ]

-- the first bytes of fields are some of these and a part of the next
record AreCut (fields : List (List ℕ)) (bytes : List ℕ) : Type 0 where
  first : List (List ℕ)
  more : List (List ℕ)
  rest : List ℕ
  begins : fields ≡ first ++ more
  splits : bytes ≡ joined_fields first ++ rest
  few : length rest < 65537

cut : (fields : List (List ℕ)) (bytes behind : List ℕ) → AreShort fields → bytes ++ behind ≡ joined_fields fields → AreCut fields bytes
cut [] bytes behind short same = record {
  first = [];
  more = [];
  rest = bytes;
  begins = refl;
  splits = refl;
  few = omega (arith, ap length same, length-append bytes behind);
}
cut (field ∷ fields) bytes behind short same = elim (order (length bytes) (length field)) [
  | inl below ↦ record {
    first = [];
    more = field ∷ fields;
    rest = bytes;
    begins = refl;
    splits = refl;
    few = omega (arith, below, short.0);
  }
  | inr above ↦
      let n = length field in
      let parted : take n bytes ++ (drop n bytes ++ behind) ≡ field ++ joined_fields fields =
      sym (append_assoc (take n bytes) (drop n bytes) behind) ∙ ap (λ (l : List ℕ). l ++ behind) (take-append-drop n bytes) ∙ same in
      let fronts = same_front (take n bytes) field (drop n bytes ++ behind) (joined_fields fields) (omega (arith, length-take n bytes)) parted in
      let others = cut fields (drop n bytes) behind short.1 fronts.1 in
      record {
        first = field ∷ others.first;
        more = others.more;
        rest = others.rest;
        begins = ap (λ (l : List (List ℕ)). field ∷ l) others.begins;
        splits = sym (take-append-drop n bytes) ∙ ap (λ (l : List ℕ). l ++ drop n bytes) fronts.0
            ∙ ap (λ (l : List ℕ). field ++ l) others.splits ∙ sym (append_assoc field (joined_fields others.first) others.rest);
        few = others.few;
      }
]

-- where the first field that is none is not only cut, no record begins so
pub no_beginning : (bytes : List ℕ) (at : ℕ) → IsFurthest fields IsRecord bytes at → at + 65537 ≤ length bytes → BeginNoRecord bytes
no_beginning bytes at furthest far = λ item behind is same.
    let c = cut (fields item) bytes behind (record_short item is) same in
    let le = furthest.none_beyond (length (joined_fields c.first)) (record {
      whole = item;
      is = is;
      first = c.first;
      more = c.more;
      rest = c.rest;
      begins = c.begins;
      splits = c.splits;
      place = refl;
    }) in
    omega (arith, le, far, c.few, ap length c.splits, length-append (joined_fields c.first) c.rest)

-- a whole record is near its end
pub whole_near : (bytes : List ℕ) (item : LogRecord) → IsRecord item → bytes ≡ spelling item → AreFieldsNearTheirEnd bytes
whole_near bytes item is same = λ at furthest.
    let le = furthest.none_beyond (length bytes) (record {
      whole = item;
      is = is;
      first = fields item;
      more = [];
      rest = [];
      begins = sym (append-nil (fields item));
      splits = same ∙ sym (append-nil (spelling item));
      place = ap length same;
    }) in
    omega (arith, le)

-- there is one furthest place
pub bad_near : (bytes : List ℕ) (at : ℕ) → IsFurthest fields IsRecord bytes at → length bytes < at + 65537 → AreFieldsNearTheirEnd bytes
bad_near bytes at furthest near = λ other there. omega (arith, there.none_beyond at furthest.reached, near)
