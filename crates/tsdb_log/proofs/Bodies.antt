-- The rows of fields that cells and records are written as.
use Rattle.std.proofs.Common.{◌≡◌, ℕ, ◌<◌, ◌≤◌, ◌^◌, List, [], ◌∷◌, ◌++◌, length, refl, sym, ap, ◌∙◌, arith}
use Rattle.std.specs.Prelude.{ℤ, FitsSigned}
use Rattle.std.specs.Int.{w64}
use Rattle.std.specs.List.{flat_map}
use Rattle.tsdb_base.specs.declared.ids.FileNumber.{FileNumber}
use Rattle.tsdb_base.specs.declared.ids.Space.{Space}
use Rattle.tsdb_base.specs.declared.value.DataType.{DataType}
use Rattle.tsdb_base.specs.declared.value.Encoding.{Encoding}
use Rattle.tsdb_base.specs.Fields.{number16, number32, number64, type_field, encoding_field}
use Rattle.tsdb_base.specs.FieldLaws.{number16-prefix_free, number32-prefix_free, number64-prefix_free, type_field-prefix_free, encoding_field-prefix_free}
use Rattle.tsdb_base.specs.Plain.{plain_i64, plain_text, AreValues}
use Rattle.tsdb_base.specs.PlainLaws.{plain_i64-prefix_free}
use Rattle.tsdb_path.specs.Nodes.{IsPath}
use Rattle.tsdb_log.specs.declared.record.CellRecord.{CellRecord}
use Rattle.tsdb_log.specs.declared.record.LogRecord.{LogRecord}
use Rattle.tsdb_log.specs.declared.record.LogRecord.TheVariants.{Create, Insert, Delete, Freeze, Flushed, Replaced, Snapshot}
use Rattle.tsdb_log.specs.Spelling.{joined_fields, cell_fields, fields, file_fields, files_fields, space_field, spelling, AreFiles, IsCell, IsFileField, IsRecord}
use Rattle.tsdb_log.specs.Rows.{both, field, place_row, space_row, output_row, AreBoth, ArePlace, AreSpace, AreOutput, IsAny, IsNumber64, IsRowForm}
use Rattle.tsdb_log.specs.RowLaws.{row_of_field, row_of_both}
use Rattle.tsdb_log.specs.PartLaws.{path_free, space_free, rows_of_values, cell_rows, file_rows}
use Rattle.tsdb_log.specs.SnapshotLaws.{SnapshotRow, snapshot_row, IsSnapshotRow, snapshot_rows, made_snapshot, row_of_snapshot, is_row_of_snapshot, is_made_snapshot}
use Rattle.tsdb_log.specs.ViewLaws.{IsWrittenAs, row_as, behind_kind, IsOfKind, record_kind, kind_first, kind_same, row_of_kind}

-- ---- create

abbrev pub type_row : DataType × Encoding → List (List ℕ)
type_row = both (field type_field) (field encoding_field)

abbrev pub IsTypeRow : DataType × Encoding → Type 0
IsTypeRow = AreBoth IsAny (λ _. IsAny)

abbrev pub create_row : List ℕ × (DataType × Encoding) → List (List ℕ)
create_row = both (field plain_text) type_row

abbrev pub IsCreate : List ℕ × (DataType × Encoding) → Type 0
IsCreate = AreBoth IsPath (λ _. IsTypeRow)

pub create_rows : IsRowForm create_row IsCreate
create_rows = row_of_both (field plain_text) type_row IsPath (λ _. IsTypeRow) (row_of_field plain_text IsPath path_free)
    (λ path is. row_of_both (field type_field) (field encoding_field) IsAny (λ _. IsAny) (row_of_field type_field IsAny type_field-prefix_free)
    (λ t any. row_of_field encoding_field IsAny encoding_field-prefix_free))

create_view : (item : LogRecord) → IsOfKind 1 item → (p : List ℕ × (DataType × Encoding)) × IsCreate p × (item ≡ Create p.0 p.1.0 p.1.1)
create_view (Create path data_type encoding) is = ((path, (data_type, encoding)), (is.0, (tt, tt)), refl)
create_view (Insert time cells) is = absurd (omega arith)
create_view (Delete path range) is = absurd (omega arith)
create_view Freeze is = absurd (omega arith)
create_view (Flushed sequence unsequence) is = absurd (omega arith)
create_view (Replaced born space place output sequence unsequence) is = absurd (omega arith)
create_view (Snapshot snapshot) is = absurd (omega arith)

pub create_as : IsWrittenAs (behind_kind 1 create_row) IsCreate fields (IsOfKind 1)
create_as = record { make = λ p. Create p.0 p.1.0 p.1.1; view = create_view; back = λ p is. ((is.0, refl), refl) }

-- ---- insert

abbrev pub cells_row : ℕ × List CellRecord → List (List ℕ)
cells_row = both (field number16) (flat_map cell_fields)

abbrev pub IsCellsRow : ℕ × List CellRecord → Type 0
IsCellsRow = AreBoth (λ n. n < 2 ^ 16) (AreValues IsCell)

abbrev pub insert_row : ℤ × (ℕ × List CellRecord) → List (List ℕ)
insert_row = both (field plain_i64) cells_row

abbrev pub IsInsert : ℤ × (ℕ × List CellRecord) → Type 0
IsInsert = AreBoth (FitsSigned w64) (λ _. IsCellsRow)

pub insert_rows : IsRowForm insert_row IsInsert
insert_rows = row_of_both (field plain_i64) cells_row (FitsSigned w64) (λ _. IsCellsRow) (row_of_field plain_i64 (FitsSigned w64) plain_i64-prefix_free)
    (λ time is. row_of_both (field number16) (flat_map cell_fields) (λ n. n < 2 ^ 16) (AreValues IsCell) (row_of_field number16 (λ n. n < 2 ^ 16) number16-prefix_free)
    (λ n few. rows_of_values cell_fields IsCell cell_rows n))

insert_view : (item : LogRecord) → IsOfKind 2 item → (p : ℤ × (ℕ × List CellRecord)) × IsInsert p × (item ≡ Insert p.0 p.1.1)
insert_view (Create path data_type encoding) is = absurd (omega arith)
insert_view (Insert time cells) is = let few = is.0.1 in ((time, (length cells, cells)), (is.0.0, (omega arith, (refl, is.0.2))), refl)
insert_view (Delete path range) is = absurd (omega arith)
insert_view Freeze is = absurd (omega arith)
insert_view (Flushed sequence unsequence) is = absurd (omega arith)
insert_view (Replaced born space place output sequence unsequence) is = absurd (omega arith)
insert_view (Snapshot snapshot) is = absurd (omega arith)

pub insert_as : IsWrittenAs (behind_kind 2 insert_row) IsInsert fields (IsOfKind 2)
insert_as = record {
  make = λ p. Insert p.0 p.1.1;
  view = insert_view;
  back = λ p is.
      let few : p.1.0 < 2 ^ 16 = is.1.0 in
      let count : length p.1.1 ≡ p.1.0 = is.1.1.0 in (
        ((is.0, omega arith, is.1.1.1), refl),
        ap (λ (n : ℕ). (2 ∷ []) ∷ plain_i64 p.0 ∷ number16 n ∷ flat_map cell_fields p.1.1) count,
      );
}

-- ---- delete

abbrev pub times : ℤ × ℤ → List (List ℕ)
times = both (field plain_i64) (field plain_i64)

abbrev pub AreTimes : ℤ × ℤ → Type 0
AreTimes = AreBoth (FitsSigned w64) (λ _. FitsSigned w64)

abbrev pub delete_row : List ℕ × (ℤ × ℤ) → List (List ℕ)
delete_row = both (field plain_text) times

abbrev pub IsDelete : List ℕ × (ℤ × ℤ) → Type 0
IsDelete = AreBoth IsPath (λ _. AreTimes)

pub delete_rows : IsRowForm delete_row IsDelete
delete_rows = row_of_both (field plain_text) times IsPath (λ _. AreTimes) (row_of_field plain_text IsPath path_free)
    (λ path is. row_of_both (field plain_i64) (field plain_i64) (FitsSigned w64) (λ _. FitsSigned w64) (row_of_field plain_i64 (FitsSigned w64) plain_i64-prefix_free)
    (λ t fits. row_of_field plain_i64 (FitsSigned w64) plain_i64-prefix_free))

delete_view : (item : LogRecord) → IsOfKind 3 item → (p : List ℕ × (ℤ × ℤ)) × IsDelete p × (item ≡ Delete p.0 (record { from = p.1.0; to = p.1.1 }))
delete_view (Create path data_type encoding) is = absurd (omega arith)
delete_view (Insert time cells) is = absurd (omega arith)
delete_view (Delete path range) is = ((path, (range.from, range.to)), (is.0.0, (is.0.1, is.0.2)), refl)
delete_view Freeze is = absurd (omega arith)
delete_view (Flushed sequence unsequence) is = absurd (omega arith)
delete_view (Replaced born space place output sequence unsequence) is = absurd (omega arith)
delete_view (Snapshot snapshot) is = absurd (omega arith)

pub delete_as : IsWrittenAs (behind_kind 3 delete_row) IsDelete fields (IsOfKind 3)
delete_as = record {
  make = λ p. Delete p.0 (record { from = p.1.0; to = p.1.1 });
  view = delete_view;
  back = λ p is. (((is.0, is.1.0, is.1.1), refl), refl);
}

-- ---- flushed

abbrev pub flushed_row : ℕ × ℕ → List (List ℕ)
flushed_row = both (field number64) (field number64)

abbrev pub IsFlushed : ℕ × ℕ → Type 0
IsFlushed = AreBoth IsNumber64 (λ _. IsNumber64)

pub flushed_rows : IsRowForm flushed_row IsFlushed
flushed_rows = row_of_both (field number64) (field number64) IsNumber64 (λ _. IsNumber64) (row_of_field number64 IsNumber64 number64-prefix_free)
    (λ n is. row_of_field number64 IsNumber64 number64-prefix_free)

flushed_view : (item : LogRecord) → IsOfKind 5 item → (p : ℕ × ℕ) × IsFlushed p × (item ≡ Flushed (record { 0 = p.0 }) (record { 0 = p.1 }))
flushed_view (Create path data_type encoding) is = absurd (omega arith)
flushed_view (Insert time cells) is = absurd (omega arith)
flushed_view (Delete path range) is = absurd (omega arith)
flushed_view Freeze is = absurd (omega arith)
flushed_view (Flushed sequence unsequence) is = ((sequence.0, unsequence.0), (is.0.0, is.0.1), refl)
flushed_view (Replaced born space place output sequence unsequence) is = absurd (omega arith)
flushed_view (Snapshot snapshot) is = absurd (omega arith)

pub flushed_as : IsWrittenAs (behind_kind 5 flushed_row) IsFlushed fields (IsOfKind 5)
flushed_as = record {
  make = λ p. Flushed (record { 0 = p.0 }) (record { 0 = p.1 });
  view = flushed_view;
  back = λ p is. (((is.0, is.1), refl), refl);
}

-- ---- replaced

abbrev pub files_row : ℕ × List FileNumber → List (List ℕ)
files_row = both (field number32) (flat_map file_fields)

abbrev pub IsFilesRow : ℕ × List FileNumber → Type 0
IsFilesRow = AreBoth (λ n. n < 2 ^ 32) (AreValues IsFileField)

pub files_row_rows : IsRowForm files_row IsFilesRow
files_row_rows = row_of_both (field number32) (flat_map file_fields) (λ n. n < 2 ^ 32) (AreValues IsFileField) (row_of_field number32 (λ n. n < 2 ^ 32) number32-prefix_free)
    (λ n few. rows_of_values file_fields IsFileField file_rows n)

-- files behind their number, as a record has them
pub files_as : IsWrittenAs files_row IsFilesRow files_fields AreFiles
files_as = record {
  make = λ p. p.1;
  view = λ files are. let few = are.0 in ((length files, files), (omega arith, (refl, are.1)), refl);
  back = λ p is.
      let few : p.0 < 2 ^ 32 = is.0 in
      let count : length p.1 ≡ p.0 = is.1.0 in
      ((omega arith, is.1.1), ap (λ (n : ℕ). number32 n ∷ flat_map file_fields p.1) count);
}

pub files_rows : IsRowForm files_fields AreFiles
files_rows = row_as files_row IsFilesRow files_fields AreFiles files_as files_row_rows

pub output_rows : IsRowForm output_row AreOutput
output_rows = row_of_both (field number64) space_row IsNumber64 (λ _. AreSpace) (row_of_field number64 IsNumber64 number64-prefix_free)
    (λ n is. row_of_both (field space_field) place_row IsAny (λ _. ArePlace) (row_of_field space_field IsAny space_free)
    (λ s any. flushed_rows))

abbrev pub inputs : List FileNumber × List FileNumber → List (List ℕ)
inputs = both files_fields files_fields

abbrev pub AreInputs : List FileNumber × List FileNumber → Type 0
AreInputs = AreBoth AreFiles (λ _. AreFiles)

abbrev pub replaced_row : (ℕ × (Space × (ℕ × ℕ))) × (List FileNumber × List FileNumber) → List (List ℕ)
replaced_row = both output_row inputs

abbrev pub IsReplaced : (ℕ × (Space × (ℕ × ℕ))) × (List FileNumber × List FileNumber) → Type 0
IsReplaced = AreBoth AreOutput (λ _. AreInputs)

pub replaced_rows : IsRowForm replaced_row IsReplaced
replaced_rows = row_of_both output_row inputs AreOutput (λ _. AreInputs) output_rows
    (λ o is. row_of_both files_fields files_fields AreFiles (λ _. AreFiles) files_rows (λ files are. files_rows))

abbrev made_replaced : (ℕ × (Space × (ℕ × ℕ))) × (List FileNumber × List FileNumber) → LogRecord
made_replaced p = Replaced (record { 0 = p.0.0 }) p.0.1.0 p.0.1.1.0 (record { 0 = p.0.1.1.1 }) p.1.0 p.1.1

replaced_view : (item : LogRecord) → IsOfKind 6 item → (p : (ℕ × (Space × (ℕ × ℕ))) × (List FileNumber × List FileNumber)) × IsReplaced p × (item ≡ made_replaced p)
replaced_view (Create path data_type encoding) is = absurd (omega arith)
replaced_view (Insert time cells) is = absurd (omega arith)
replaced_view (Delete path range) is = absurd (omega arith)
replaced_view Freeze is = absurd (omega arith)
replaced_view (Flushed sequence unsequence) is = absurd (omega arith)
replaced_view (Replaced born space place output sequence unsequence) is =
    (((born.0, (space, (place, output.0))), (sequence, unsequence)), ((is.0.0, (tt, (is.0.1, is.0.2))), (is.0.3, is.0.4)), refl)
replaced_view (Snapshot snapshot) is = absurd (omega arith)

pub replaced_as : IsWrittenAs (behind_kind 6 replaced_row) IsReplaced fields (IsOfKind 6)
replaced_as = record {
  make = made_replaced;
  view = replaced_view;
  back = λ p is. (((is.0.0, is.0.1.1.0, is.0.1.1.1, is.1.0, is.1.1), refl), refl);
}

-- ---- snapshot

snapshot_view : (item : LogRecord) → IsOfKind 7 item → (p : SnapshotRow) × IsSnapshotRow p × (item ≡ Snapshot (made_snapshot p))
snapshot_view (Create path data_type encoding) is = absurd (omega arith)
snapshot_view (Insert time cells) is = absurd (omega arith)
snapshot_view (Delete path range) is = absurd (omega arith)
snapshot_view Freeze is = absurd (omega arith)
snapshot_view (Flushed sequence unsequence) is = absurd (omega arith)
snapshot_view (Replaced born space place output sequence unsequence) is = absurd (omega arith)
snapshot_view (Snapshot snapshot) is = (row_of_snapshot snapshot, is_row_of_snapshot snapshot is.0, refl)

pub snapshot_as : IsWrittenAs (behind_kind 7 snapshot_row) IsSnapshotRow fields (IsOfKind 7)
snapshot_as = record {
  make = λ p. Snapshot (made_snapshot p);
  view = snapshot_view;
  back = λ p is. ((is_made_snapshot p is, refl), refl);
}

-- ---- all records

freeze_alone : (item : LogRecord) → record_kind item ≡ 4 → item ≡ Freeze
freeze_alone (Create path data_type encoding) e = absurd (omega arith)
freeze_alone (Insert time cells) e = absurd (omega arith)
freeze_alone (Delete path range) e = absurd (omega arith)
freeze_alone Freeze e = refl
freeze_alone (Flushed sequence unsequence) e = absurd (omega arith)
freeze_alone (Replaced born space place output sequence unsequence) e = absurd (omega arith)
freeze_alone (Snapshot snapshot) e = absurd (omega arith)

abbrev pub nothing : Unit {0} → List (List ℕ)
nothing u = []

freeze_view : (item : LogRecord) → IsOfKind 4 item → (u : Unit {0}) × IsAny u × (item ≡ Freeze)
freeze_view item is = (tt, tt, freeze_alone item is.1)

freeze_as : IsWrittenAs (behind_kind 4 nothing) IsAny fields (IsOfKind 4)
freeze_as = record { make = λ u. Freeze; view = freeze_view; back = λ u is. ((tt, refl), refl) }

none_first : (first more : List (List ℕ)) → [] ≡ first ++ more → length (joined_fields first) ≡ 0
none_first [] more e = refl
none_first (f ∷ fs) more e = absurd cc

nothing_rows : IsRowForm nothing IsAny
nothing_rows = record {
  free = λ a b x y is_a is_b e. (refl, e);
  full = λ a behind j is r. let none = none_first r.first r.more r.begins in let place = r.place in omega arith;
}

rows_of_kind : (item : LogRecord) → IsRowForm fields (IsOfKind (record_kind item))
rows_of_kind (Create path data_type encoding) = row_of_kind 1 create_row IsCreate create_as create_rows
rows_of_kind (Insert time cells) = row_of_kind 2 insert_row IsInsert insert_as insert_rows
rows_of_kind (Delete path range) = row_of_kind 3 delete_row IsDelete delete_as delete_rows
rows_of_kind Freeze = row_of_kind 4 nothing IsAny freeze_as nothing_rows
rows_of_kind (Flushed sequence unsequence) = row_of_kind 5 flushed_row IsFlushed flushed_as flushed_rows
rows_of_kind (Replaced born space place output sequence unsequence) = row_of_kind 6 replaced_row IsReplaced replaced_as replaced_rows
rows_of_kind (Snapshot snapshot) = row_of_kind 7 snapshot_row IsSnapshotRow snapshot_as snapshot_rows

-- no record's bytes begin another's, and none goes further than one that stands there
pub record_rows : IsRowForm fields IsRecord
record_rows = record {
  free = λ a b x y is_a is_b e. (rows_of_kind a).free a b x y (is_a, refl) (is_b, sym (kind_same a b x y e)) e;
  full = λ a behind j is r. far j a behind r.whole r.first r.more r.rest is r.is r.begins r.splits r.place;
} where
  far : (j : ℕ) (a : LogRecord) (behind : List ℕ) (whole : LogRecord) (first more : List (List ℕ)) (rest : List ℕ) → IsRecord a → IsRecord whole → fields whole ≡ first ++ more
      → spelling a ++ behind ≡ joined_fields first ++ rest → j ≡ length (joined_fields first) → j ≤ length (spelling a)
  far j a behind whole [] more rest is is_whole begins splits place = omega arith
  far j a behind whole (f ∷ fs) more rest is is_whole begins splits place =
      let kind = kind_first whole in
      let own = kind_first a in
      let heads = sym kind.1 ∙ begins in
      let byte : record_kind whole ∷ [] ≡ f = cc in
      let bytes = sym (ap (λ (l : List (List ℕ)). joined_fields l ++ behind) own.1) ∙ splits ∙ ap (λ (l : List ℕ). (l ++ joined_fields fs) ++ rest) (sym byte) in
      let same : record_kind whole ≡ record_kind a = cc in
      (rows_of_kind a).full a behind j (is, refl) (record { whole = whole; is = (is_whole, same); first = f ∷ fs; more = more; rest = rest; begins = begins; splits = splits; place = place })
