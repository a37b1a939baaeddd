-- The fields of a record, one behind another, and its bytes.
use Rattle.std.specs.Prelude.{ℕ, ◌<◌, ◌≤◌, ◌^◌, List, [], ◌∷◌, ◌++◌, length, All, FitsSigned}
use Rattle.std.specs.Int.{w64}
use Rattle.std.specs.List.{flat_map}
use Rattle.tsdb_base.specs.declared.ids.FileNumber.{FileNumber}
use Rattle.tsdb_base.specs.declared.ids.Space.{Space}
use Rattle.tsdb_base.specs.declared.ids.Stamp.{Stamp}
use Rattle.tsdb_base.specs.declared.ids.Space.TheVariants.{Sequence, Unsequence}
use Rattle.tsdb_base.specs.Fields.{number16, number32, number64, type_field, encoding_field, value_field}
use Rattle.tsdb_base.specs.Plain.{plain_i64, plain_text}
use Rattle.tsdb_base.specs.Values.{type_of, IsValue}
use Rattle.tsdb_path.specs.Nodes.{IsPath}
use Rattle.tsdb_log.specs.declared.record.CellRecord.{CellRecord}
use Rattle.tsdb_log.specs.declared.record.LogRecord.{LogRecord}
use Rattle.tsdb_log.specs.declared.record.LogRecord.TheVariants.{Create, Insert, Delete, Freeze, Flushed, Replaced, Snapshot}
use Rattle.tsdb_log.specs.Snapshots.{snapshot_fields, IsSnapshot, most_pairs}

-- a cell: the number of the series, the byte of the value's type, and the value
abbrev pub cell_fields : CellRecord → List (List ℕ)
cell_fields cell = number64 cell.series.0 ∷ type_field (type_of cell.value) ∷ value_field cell.value ∷ []

-- the byte of a space
abbrev pub space_field : Space → List ℕ
space_field Sequence = 0 ∷ []
space_field Unsequence = 1 ∷ []

-- the number of a file
abbrev pub file_fields : FileNumber → List (List ℕ)
file_fields file = number64 file.0 ∷ []

-- files behind their number in four bytes
abbrev pub files_fields : List FileNumber → List (List ℕ)
files_fields files = number32 (length files) ∷ flat_map file_fields files

-- cells behind their number in two bytes
abbrev pub cells_fields : List CellRecord → List (List ℕ)
cells_fields cells = number16 (length cells) ∷ flat_map cell_fields cells

-- what a replacement says of its output: its born, its space, its place in the list, and its number
abbrev pub output_fields : Stamp → Space → ℕ → FileNumber → List (List ℕ)
output_fields born space place output = number64 born.0 ∷ space_field space ∷ number64 place ∷ number64 output.0 ∷ []

-- the fields of a record: its kind, and what it says
abbrev pub fields : LogRecord → List (List ℕ)
fields (Create path data_type encoding) = (1 ∷ []) ∷ plain_text path ∷ type_field data_type ∷ encoding_field encoding
    ∷ []
fields (Insert time cells) = (2 ∷ []) ∷ plain_i64 time ∷ cells_fields cells
fields (Delete path range) = (3 ∷ []) ∷ plain_text path ∷ plain_i64 range.from ∷ plain_i64 range.to ∷ []
fields Freeze = (4 ∷ []) ∷ []
fields (Flushed sequence unsequence) = (5 ∷ []) ∷ number64 sequence.0 ∷ number64 unsequence.0 ∷ []
fields (Replaced born space place output sequence unsequence) =
    (6 ∷ []) ∷ output_fields born space place output ++ (files_fields sequence ++ files_fields unsequence)
fields (Snapshot snapshot) = (7 ∷ []) ∷ snapshot_fields snapshot

-- fields one behind another
abbrev pub joined_fields : List (List ℕ) → List ℕ
joined_fields parts = flat_map (λ field. field) parts

-- the bytes of a record
abbrev pub spelling : LogRecord → List ℕ
spelling item = joined_fields (fields item)

-- a value of a series
pub record IsCell (cell : CellRecord) : Type 0 where
  pub series : cell.series.0 < 2 ^ 64
  pub value : IsValue cell.value

-- the number of a file in eight bytes
abbrev pub IsFileField : FileNumber → Type 0
IsFileField file = file.0 < 2 ^ 64

-- the most cells of a row, whose number stands in two bytes
abbrev pub most_cells : ℕ
most_cells = 65535

-- the most replaced files of a space, whose number stands in four bytes
abbrev pub most_files : ℕ
most_files = 4294967295

-- so many files that four bytes can hold their number
abbrev pub AreFiles : List FileNumber → Type 0
AreFiles files = (length files ≤ most_files) × All IsFileField files

-- a record that its bytes can hold
abbrev pub IsRecord : LogRecord → Type 0
IsRecord (Create path data_type encoding) = IsPath path
IsRecord (Insert time cells) = FitsSigned w64 time × (length cells ≤ most_cells) × All IsCell cells
IsRecord (Delete path range) = IsPath path × FitsSigned w64 range.from × FitsSigned w64 range.to
IsRecord Freeze = Unit {0}
IsRecord (Flushed sequence unsequence) = IsFileField sequence × IsFileField unsequence
IsRecord (Replaced born space place output sequence unsequence) =
    (born.0 < 2 ^ 64) × (place < 2 ^ 64) × IsFileField output
    × AreFiles sequence × AreFiles unsequence
IsRecord (Snapshot snapshot) = IsSnapshot snapshot

-- the numbers of cells, of replaced files and of frozen pairs that their bytes can hold
abbrev pub HasFewParts : LogRecord → Type 0
HasFewParts (Create path data_type encoding) = Unit {0}
HasFewParts (Insert time cells) = length cells ≤ most_cells
HasFewParts (Delete path range) = Unit {0}
HasFewParts Freeze = Unit {0}
HasFewParts (Flushed sequence unsequence) = Unit {0}
HasFewParts (Replaced born space place output sequence unsequence) =
    (length sequence ≤ most_files) × (length unsequence ≤ most_files)
HasFewParts (Snapshot snapshot) = length snapshot.frozen ≤ most_pairs

-- a row of at most 1,000 cells, a replacement of at most 100,000,000 files of each space, a snapshot of at most
-- 1,073,741,824 bytes, or another record
abbrev pub FitsFrame : LogRecord → Type 0
FitsFrame (Create path data_type encoding) = Unit {0}
FitsFrame (Insert time cells) = length cells ≤ 1000
FitsFrame (Delete path range) = Unit {0}
FitsFrame Freeze = Unit {0}
FitsFrame (Flushed sequence unsequence) = Unit {0}
FitsFrame (Replaced born space place output sequence unsequence) =
    (length sequence ≤ 100000000) × (length unsequence ≤ 100000000)
FitsFrame (Snapshot snapshot) = length (joined_fields (snapshot_fields snapshot)) < 1073741824
