-- How many bytes a record has.
use Rattle.std.proofs.Common.{◌≡◌, ℕ, ◌+◌, ◌*◌, ◌<◌, ◌≤◌, ◌^◌, Bool, true, false, List, [], ◌∷◌, ◌++◌, length, ap, arith}
use Rattle.std.specs.Prelude.{All}
use Rattle.std.specs.List.{flat_map, AllByRecursion}
use Rattle.std.proofs.lemmas.Nat.{mul-le}
use Rattle.std.proofs.Math.Nat.{mul-suc}
use Rattle.std.proofs.lemmas.List.{length-append}
use Rattle.std.proofs.lemmas.List.Elements.{recursion_from_All}
use Rattle.tsdb_base.specs.declared.ids.FileNumber.{FileNumber}
use Rattle.tsdb_base.specs.declared.ids.Space.{Space}
use Rattle.tsdb_base.specs.declared.ids.Space.TheVariants.{Sequence, Unsequence}
use Rattle.tsdb_base.specs.declared.value.DataType.{DataType}
use Rattle.tsdb_base.specs.declared.value.DataType.TheVariants.{Boolean, Int32, Int64, Text}
use Rattle.tsdb_base.specs.declared.value.Encoding.{Encoding}
use Rattle.tsdb_base.specs.declared.value.Encoding.TheVariants.{Plain, Dictionary, Rle, Ts2diff}
use Rattle.tsdb_base.specs.declared.value.Value.{Value}
use Rattle.tsdb_base.specs.declared.value.Value.TheVariants as value
use Rattle.tsdb_base.specs.Fields.{number64, type_field, encoding_field, value_field}
use Rattle.tsdb_base.specs.Plain.{plain_bool, plain_i64, plain_text}
use Rattle.tsdb_base.specs.Values.{type_of, IsValue}
use Rattle.tsdb_path.specs.Nodes.{IsPath}
use Rattle.tsdb_log.specs.declared.record.CellRecord.{CellRecord}
use Rattle.tsdb_log.specs.declared.record.LogRecord.{LogRecord}
use Rattle.tsdb_log.specs.declared.record.LogRecord.TheVariants.{Create, Insert, Delete, Freeze, Flushed, Replaced, Snapshot}
use Rattle.tsdb_log.specs.Spelling.{joined_fields, cell_fields, file_fields, files_fields, output_fields, space_field, spelling, AreFiles, FitsFrame, IsCell, IsFileField, IsRecord}
use Rattle.tsdb_log.specs.RowLaws.{bytes_length}
use Rattle.tsdb_log.proofs.Wholes.{replaced_spelling}

rows_length : {A : Type 0} (row : A → List (List ℕ)) (Is : A → Type 0) (most : ℕ) (short : (a : A) → Is a → length (joined_fields (row a)) ≤ most) (xs : List A) → AllByRecursion Is xs
    → length (joined_fields (flat_map row xs)) ≤ most * length xs
rows_length row Is most short [] all = omega arith
rows_length row Is most short (x ∷ xs) all =
    omega (arith, short x all.0, rows_length row Is most short xs all.1, bytes_length (row x) (flat_map row xs), mul-suc most (length xs))

pub type_length : (t : DataType) → length (type_field t) ≡ 1
type_length Boolean = omega arith
type_length Int32 = omega arith
type_length Int64 = omega arith
type_length Text = omega arith

pub encoding_length : (e : Encoding) → length (encoding_field e) ≡ 1
encoding_length Plain = omega arith
encoding_length Dictionary = omega arith
encoding_length Rle = omega arith
encoding_length Ts2diff = omega arith

pub space_length : (s : Space) → length (space_field s) ≡ 1
space_length Sequence = omega arith
space_length Unsequence = omega arith

bool_length : (b : Bool) → length (plain_bool b) ≡ 1
bool_length true = omega arith
bool_length false = omega arith

pub value_length : (v : Value) → IsValue v → length (value_field v) ≤ 65537
value_length (value.Bool b) is = omega (arith, bool_length b)
value_length (value.I32 n) is = omega arith
value_length (value.I64 n) is = omega arith
value_length (value.Text bytes) is = omega (arith, is)

-- the bytes of two fields and more
fields_length : (s : List ℕ) (more : List (List ℕ)) → length (joined_fields (s ∷ more)) ≡ length s + length (joined_fields more)
fields_length s more = length-append s (joined_fields more)

cell_length : (cell : CellRecord) → IsCell cell → length (joined_fields (cell_fields cell)) ≤ 65546
cell_length cell is =
    omega (
      arith,
      fields_length (number64 cell.series.0) (type_field (type_of cell.value) ∷ value_field cell.value ∷ []),
      fields_length (type_field (type_of cell.value)) (value_field cell.value ∷ []),
      fields_length (value_field cell.value) [],
      type_length (type_of cell.value),
      value_length cell.value is.value,
    )

cells_length : (cells : List CellRecord) → length cells ≤ 1000 → All IsCell cells → length (joined_fields (flat_map cell_fields cells)) ≤ 65546000
cells_length cells few all =
    omega (arith, rows_length cell_fields IsCell 65546 cell_length cells (recursion_from_All IsCell cells all), mul-le 65546 (length cells) 65546 1000 (omega arith) few)

file_length : (file : FileNumber) → IsFileField file → length (joined_fields (file_fields file)) ≤ 8
file_length file is = omega arith

files_length : (files : List FileNumber) → length files ≤ 100000000 → AreFiles files → length (joined_fields (files_fields files)) ≤ 800000004
files_length files few are =
    omega (arith, rows_length file_fields IsFileField 8 file_length files (recursion_from_All IsFileField files are.1), mul-le 8 (length files) 8 100000000 (omega arith) few)

pub path_length : (path : List ℕ) → IsPath path → length (plain_text path) ≤ 257
path_length path is = let short = is.1.short in omega arith

pub short_records : (item : LogRecord) → IsRecord item → FitsFrame item → length (spelling item) < 2 ^ 32
short_records (Create path data_type encoding) is fits =
    omega (
      arith,
      fields_length (plain_text path) (type_field data_type ∷ encoding_field encoding ∷ []),
      fields_length (type_field data_type) (encoding_field encoding ∷ []),
      fields_length (encoding_field encoding) [],
      path_length path is,
      type_length data_type,
      encoding_length encoding,
    )
short_records (Insert time cells) is fits = omega (arith, cells_length cells fits is.2)
short_records (Delete path range) is fits = omega (arith, fields_length (plain_text path) (plain_i64 range.from ∷ plain_i64 range.to ∷ []), path_length path is.0)
short_records Freeze is fits = omega arith
short_records (Flushed sequence unsequence) is fits = omega arith
short_records (Replaced born space place output sequence unsequence) is fits =
    let row = output_fields born space place output in
    let size = ap length (replaced_spelling born space place output sequence unsequence) in
    let rest = space_field space ∷ number64 place ∷ number64 output.0 ∷ [] in
    omega (
      arith,
      size,
      length-append (joined_fields row) (joined_fields (files_fields sequence) ++ joined_fields (files_fields unsequence)),
      length-append (joined_fields (files_fields sequence)) (joined_fields (files_fields unsequence)),
      fields_length (number64 born.0) rest,
      fields_length (space_field space) (number64 place ∷ number64 output.0 ∷ []),
      space_length space,
      files_length sequence fits.0 is.3,
      files_length unsequence fits.1 is.4,
    )
short_records (Snapshot snapshot) is fits = omega (arith, fits)
