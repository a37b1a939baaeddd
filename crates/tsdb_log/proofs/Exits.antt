-- The field at which reading a record stops: those before it stand there, and it does not.
use Rattle.std.proofs.Common.{◌≡◌, ℕ, ◌<◌, ◌≤◌, ◌^◌, List, [], ◌∷◌, ◌++◌, length, Err, refl, sym, ap, subst, ◌∙◌, arith}
use Rattle.std.specs.Prelude.{ℤ, FitsSigned}
use Rattle.std.specs.Int.{w64}
use Rattle.std.specs.List.{flat_map}
use Rattle.std.proofs.lemmas.List.Elements.{All-nil}
use Rattle.tsdb_base.specs.declared.ids.FileNumber.{FileNumber}
use Rattle.tsdb_base.specs.declared.ids.Space.{Space}
use Rattle.tsdb_base.specs.declared.ids.Stamp.{Stamp}
use Rattle.tsdb_base.specs.declared.value.DataType.{DataType}
use Rattle.tsdb_base.specs.declared.value.DataType.TheVariants.{Boolean}
use Rattle.tsdb_base.specs.declared.value.Encoding.{Encoding}
use Rattle.tsdb_base.specs.declared.value.Encoding.TheVariants.{Plain}
use Rattle.tsdb_base.specs.declared.value.Value.{Value}
use Rattle.tsdb_base.specs.Fields.{number16, number32, number64, type_field, encoding_field, value_field}
use Rattle.tsdb_base.specs.FieldLaws.{number16-prefix_free, number32-prefix_free, number64-prefix_free, type_field-prefix_free}
use Rattle.tsdb_base.specs.Plain.{plain_i64, plain_text, AreValues}
use Rattle.tsdb_base.specs.PlainLaws.{plain_i64-prefix_free}
use Rattle.tsdb_path.specs.Nodes.{IsPath}
use Rattle.tsdb_fields.specs.declared.fault.FieldFault.{FieldFault}
use Rattle.tsdb_fields.specs.declared.fault.FieldFault.TheVariants as field
use Rattle.tsdb_log.specs.declared.fault.LogFault.TheVariants as log
use Rattle.tsdb_log.specs.Places.{ReachesField, IsBadRecord, IsFurthest}
use Rattle.std.proofs.lemmas.List.{append-nil}
use Rattle.tsdb_fields.specs.declared.rest.Rest.{Rest}
use Rattle.tsdb_fields.specs.Reading.{TakesBytes, Reads}
use Rattle.tsdb_fields.proofs.Taken.{takes_both}
use Rattle.tsdb_log.specs.declared.record.CellRecord.{CellRecord}
use Rattle.tsdb_log.specs.declared.record.LogRecord.{LogRecord}
use Rattle.tsdb_log.specs.declared.record.LogRecord.TheVariants.{Delete, Freeze, Insert, Replaced}
use Rattle.tsdb_log.specs.Rows.{field, output_row, AreOutput, IsAny, IsNumber64}
use Rattle.tsdb_log.specs.Spelling.{joined_fields, cell_fields, fields, file_fields, files_fields, spelling, AreFiles, IsCell, IsFileField, IsRecord}
use Rattle.tsdb_log.specs.Steps.{BeginsWithRecord, IsMissingField, FailsToRead, log_fault}
use Rattle.tsdb_log.specs.RowLaws.{bytes_append}
use Rattle.tsdb_log.specs.ViewLaws.{record_kind, kind_first, kind_range}
use Rattle.tsdb_log.specs.ListLaws.{copies, values_of_list}
use Rattle.tsdb_log.proofs.Faults.{field_fails, first_fails, second_fails, behind_field, fails_as, kind_fails, record_fails, one, takes_record}
use Rattle.tsdb_base.specs.Values.{type_of, IsValue, IsValueOf}
use Rattle.tsdb_log.specs.PartLaws.{root, some_value, path_free, some_number, some_time, value_row, IsValueRow, typed_as}
use Rattle.tsdb_log.specs.Snapshots.{typed_fields}
use Rattle.tsdb_log.proofs.Parts.{takes_pair}
use Rattle.tsdb_log.proofs.Bodies.{type_row, IsTypeRow, create_row, IsCreate, create_as, cells_row, IsCellsRow, insert_row, IsInsert, insert_as, times, AreTimes, delete_row, IsDelete, delete_as, flushed_row, IsFlushed, flushed_as, files_row, IsFilesRow, files_as, files_rows, output_rows, inputs, AreInputs, replaced_row, IsReplaced, replaced_as, record_rows}

-- ---- some of each

some_cells : (n : ℕ) → (cells : List CellRecord) × AreValues IsCell n cells
some_cells n =
    let value = some_value Boolean in
    let cell : CellRecord = record { series = record { 0 = 0 }; value = value.0 } in
    let is : IsCell cell = record { series = omega arith; value = value.1.fits } in
    let list = copies IsCell cell is n in
    (list.0, values_of_list IsCell n list.0 list.1)

some_files : (n : ℕ) → (files : List FileNumber) × AreValues IsFileField n files
some_files n =
    let file : FileNumber = record { 0 = 0 } in
    let is : IsFileField file = omega arith in
    let list = copies IsFileField file is n in
    (list.0, values_of_list IsFileField n list.0 list.1)

no_files : (files : List FileNumber) × AreFiles files
no_files = ([], (omega arith, All-nil IsFileField))

-- ---- a value behind its type

pub typed_type : (rest : Rest) (fault : FieldFault) → Reads type_field IsAny rest (λ (v : DataType). v) (Err fault)
    → FailsToRead typed_fields IsValue rest.at rest.bytes.now fault
typed_type rest fault reads =
    fails_as value_row IsValueRow typed_fields IsValue rest.at rest.bytes.now fault typed_as
    (first_fails (field type_field) (field value_field) IsAny IsValueOf rest.at rest.bytes.now fault (λ t any. some_value t)
    (field_fails type_field IsAny rest (λ (v : DataType). v) fault Boolean tt reads))

pub typed_value : (t : DataType) (rest behind : Rest) (fault : FieldFault) → TakesBytes rest (type_field t) behind
    → Reads value_field (IsValueOf t) behind (λ (v : Value). v) (Err fault) → FailsToRead typed_fields IsValue rest.at rest.bytes.now fault
typed_value t rest behind fault takes reads =
    fails_as value_row IsValueRow typed_fields IsValue rest.at rest.bytes.now fault typed_as
    (behind_field type_field (field value_field) IsAny IsValueOf type_field-prefix_free t rest behind fault tt takes
    (field_fails value_field (IsValueOf t) behind (λ (v : Value). v) fault (some_value t).0 (some_value t).1 reads))

pub takes_typed : (t : DataType) (v : Value) (rest middle behind : Rest) → TakesBytes rest (type_field t) middle → TakesBytes middle (value_field v) behind
    → IsValueOf t v → TakesBytes rest (joined_fields (typed_fields v)) behind × IsValue v
takes_typed t v rest middle behind takes takes_value is = (
  takes_pair (type_field (type_of v) ∷ []) (value_field v ∷ []) rest middle behind
      (one rest middle (type_field (type_of v)) (subst (λ (d : DataType). TakesBytes rest (type_field d) middle) (sym is.typed) takes))
      (one middle behind (value_field v) takes_value),
  is.fits,
)

-- ---- create

pub create_path : (rest : Rest) (fault : FieldFault) → rest.at ≡ 1 → Reads plain_text IsPath rest (λ (v : List ℕ). v) (Err fault) → FailsToRead fields IsRecord 0 (1 ∷ rest.bytes.now) fault
create_path rest fault first reads =
    kind_fails 1 create_row IsCreate rest fault first create_as
    (first_fails (field plain_text) type_row IsPath (λ _. IsTypeRow) rest.at rest.bytes.now fault (λ path is. ((Boolean, Plain), (tt, tt)))
    (field_fails plain_text IsPath rest (λ (v : List ℕ). v) fault root.0 root.1 reads))

pub create_type : (path : List ℕ) (rest behind : Rest) (fault : FieldFault) → rest.at ≡ 1 → IsPath path → TakesBytes rest (plain_text path) behind
    → Reads type_field IsAny behind (λ (v : DataType). v) (Err fault) → FailsToRead fields IsRecord 0 (1 ∷ rest.bytes.now) fault
create_type path rest behind fault first is takes reads =
    kind_fails 1 create_row IsCreate rest fault first create_as
    (behind_field plain_text type_row IsPath (λ _. IsTypeRow) path_free path rest behind fault is takes
    (first_fails (field type_field) (field encoding_field) IsAny (λ _. IsAny) behind.at behind.bytes.now fault (λ t any. (Plain, tt))
    (field_fails type_field IsAny behind (λ (v : DataType). v) fault Boolean tt reads)))

pub create_encoding : (path : List ℕ) (t : DataType) (rest middle behind : Rest) (fault : FieldFault) → rest.at ≡ 1 → IsPath path → TakesBytes rest (plain_text path) middle → TakesBytes middle (type_field t) behind
    → Reads encoding_field IsAny behind (λ (v : Encoding). v) (Err fault) → FailsToRead fields IsRecord 0 (1 ∷ rest.bytes.now) fault
create_encoding path t rest middle behind fault first is takes_path takes reads =
    kind_fails 1 create_row IsCreate rest fault first create_as
    (behind_field plain_text type_row IsPath (λ _. IsTypeRow) path_free path rest middle fault is takes_path
    (behind_field type_field (field encoding_field) IsAny (λ _. IsAny) type_field-prefix_free t middle behind fault tt takes
    (field_fails encoding_field IsAny behind (λ (v : Encoding). v) fault Plain tt reads)))

-- ---- insert

pub insert_time : (rest : Rest) (fault : FieldFault) → rest.at ≡ 1 → Reads plain_i64 (FitsSigned w64) rest (λ (v : ℤ). v) (Err fault) → FailsToRead fields IsRecord 0 (2 ∷ rest.bytes.now) fault
insert_time rest fault first reads =
    kind_fails 2 insert_row IsInsert rest fault first insert_as
    (first_fails (field plain_i64) cells_row (FitsSigned w64) (λ _. IsCellsRow) rest.at rest.bytes.now fault (λ t is. ((0, (some_cells 0).0), (omega arith, (some_cells 0).1)))
    (field_fails plain_i64 (FitsSigned w64) rest (λ (v : ℤ). v) fault some_time.0 some_time.1 reads))

pub insert_count : (time : ℤ) (rest behind : Rest) (fault : FieldFault) → rest.at ≡ 1 → FitsSigned w64 time → TakesBytes rest (plain_i64 time) behind
    → Reads number16 (λ (n : ℕ). n < 2 ^ 16) behind (λ (v : ℕ). v) (Err fault) → FailsToRead fields IsRecord 0 (2 ∷ rest.bytes.now) fault
insert_count time rest behind fault first is takes reads =
    kind_fails 2 insert_row IsInsert rest fault first insert_as
    (behind_field plain_i64 cells_row (FitsSigned w64) (λ _. IsCellsRow) plain_i64-prefix_free time rest behind fault is takes
    (first_fails (field number16) (flat_map cell_fields) (λ n. n < 2 ^ 16) (AreValues IsCell) behind.at behind.bytes.now fault (λ n few. some_cells n)
    (field_fails number16 (λ n. n < 2 ^ 16) behind (λ (v : ℕ). v) fault 0 (omega arith) reads)))

pub insert_cells : (time : ℤ) (n : ℕ) (rest middle behind : Rest) (fault : FieldFault) → rest.at ≡ 1 → FitsSigned w64 time → TakesBytes rest (plain_i64 time) middle → n < 2 ^ 16 → TakesBytes middle (number16 n) behind
    → FailsToRead (flat_map cell_fields) (AreValues IsCell n) behind.at behind.bytes.now fault → FailsToRead fields IsRecord 0 (2 ∷ rest.bytes.now) fault
insert_cells time n rest middle behind fault first is takes_time few takes fails =
    kind_fails 2 insert_row IsInsert rest fault first insert_as
    (behind_field plain_i64 cells_row (FitsSigned w64) (λ _. IsCellsRow) plain_i64-prefix_free time rest middle fault is takes_time
    (behind_field number16 (flat_map cell_fields) (λ n. n < 2 ^ 16) (AreValues IsCell) number16-prefix_free n middle behind fault few takes fails))

-- ---- delete

pub delete_path : (rest : Rest) (fault : FieldFault) → rest.at ≡ 1 → Reads plain_text IsPath rest (λ (v : List ℕ). v) (Err fault) → FailsToRead fields IsRecord 0 (3 ∷ rest.bytes.now) fault
delete_path rest fault first reads =
    kind_fails 3 delete_row IsDelete rest fault first delete_as
    (first_fails (field plain_text) times IsPath (λ _. AreTimes) rest.at rest.bytes.now fault (λ path is. ((some_time.0, some_time.0), (some_time.1, some_time.1)))
    (field_fails plain_text IsPath rest (λ (v : List ℕ). v) fault root.0 root.1 reads))

pub delete_from : (path : List ℕ) (rest behind : Rest) (fault : FieldFault) → rest.at ≡ 1 → IsPath path → TakesBytes rest (plain_text path) behind
    → Reads plain_i64 (FitsSigned w64) behind (λ (v : ℤ). v) (Err fault) → FailsToRead fields IsRecord 0 (3 ∷ rest.bytes.now) fault
delete_from path rest behind fault first is takes reads =
    kind_fails 3 delete_row IsDelete rest fault first delete_as
    (behind_field plain_text times IsPath (λ _. AreTimes) path_free path rest behind fault is takes
    (first_fails (field plain_i64) (field plain_i64) (FitsSigned w64) (λ _. FitsSigned w64) behind.at behind.bytes.now fault (λ t fits. some_time)
    (field_fails plain_i64 (FitsSigned w64) behind (λ (v : ℤ). v) fault some_time.0 some_time.1 reads)))

pub delete_to : (path : List ℕ) (from : ℤ) (rest middle behind : Rest) (fault : FieldFault) → rest.at ≡ 1 → IsPath path → TakesBytes rest (plain_text path) middle → FitsSigned w64 from → TakesBytes middle (plain_i64 from) behind
    → Reads plain_i64 (FitsSigned w64) behind (λ (v : ℤ). v) (Err fault) → FailsToRead fields IsRecord 0 (3 ∷ rest.bytes.now) fault
delete_to path from rest middle behind fault first is takes_path fits takes reads =
    kind_fails 3 delete_row IsDelete rest fault first delete_as
    (behind_field plain_text times IsPath (λ _. AreTimes) path_free path rest middle fault is takes_path
    (behind_field plain_i64 (field plain_i64) (FitsSigned w64) (λ _. FitsSigned w64) plain_i64-prefix_free from middle behind fault fits takes
    (field_fails plain_i64 (FitsSigned w64) behind (λ (v : ℤ). v) fault some_time.0 some_time.1 reads)))

-- ---- flushed

pub flushed_sequence : (rest : Rest) (fault : FieldFault) → rest.at ≡ 1 → Reads number64 IsNumber64 rest (λ (v : ℕ). v) (Err fault) → FailsToRead fields IsRecord 0 (5 ∷ rest.bytes.now) fault
flushed_sequence rest fault first reads =
    kind_fails 5 flushed_row IsFlushed rest fault first flushed_as
    (first_fails (field number64) (field number64) IsNumber64 (λ _. IsNumber64) rest.at rest.bytes.now fault (λ n is. some_number)
    (field_fails number64 IsNumber64 rest (λ (v : ℕ). v) fault some_number.0 some_number.1 reads))

pub flushed_unsequence : (sequence : ℕ) (rest behind : Rest) (fault : FieldFault) → rest.at ≡ 1 → IsNumber64 sequence → TakesBytes rest (number64 sequence) behind
    → Reads number64 IsNumber64 behind (λ (v : ℕ). v) (Err fault) → FailsToRead fields IsRecord 0 (5 ∷ rest.bytes.now) fault
flushed_unsequence sequence rest behind fault first is takes reads =
    kind_fails 5 flushed_row IsFlushed rest fault first flushed_as
    (behind_field number64 (field number64) IsNumber64 (λ _. IsNumber64) number64-prefix_free sequence rest behind fault is takes
    (field_fails number64 IsNumber64 behind (λ (v : ℕ). v) fault some_number.0 some_number.1 reads))

-- ---- reads_replaced

pub files_count : (rest : Rest) (fault : FieldFault) → Reads number32 (λ (n : ℕ). n < 2 ^ 32) rest (λ (v : ℕ). v) (Err fault) → FailsToRead files_fields AreFiles rest.at rest.bytes.now fault
files_count rest fault reads =
    fails_as files_row IsFilesRow files_fields AreFiles rest.at rest.bytes.now fault files_as
    (first_fails (field number32) (flat_map file_fields) (λ n. n < 2 ^ 32) (AreValues IsFileField) rest.at rest.bytes.now fault (λ n few. some_files n)
    (field_fails number32 (λ n. n < 2 ^ 32) rest (λ (v : ℕ). v) fault 0 (omega arith) reads))

pub files_numbers : (n : ℕ) (rest behind : Rest) (fault : FieldFault) → n < 2 ^ 32 → TakesBytes rest (number32 n) behind
    → FailsToRead (flat_map file_fields) (AreValues IsFileField n) behind.at behind.bytes.now fault → FailsToRead files_fields AreFiles rest.at rest.bytes.now fault
files_numbers n rest behind fault few takes fails =
    fails_as files_row IsFilesRow files_fields AreFiles rest.at rest.bytes.now fault files_as
    (behind_field number32 (flat_map file_fields) (λ n. n < 2 ^ 32) (AreValues IsFileField) number32-prefix_free n rest behind fault few takes fails)

pub replaced_output : (bytes : List ℕ) (fault : FieldFault) → FailsToRead output_row AreOutput 1 bytes fault → FailsToRead fields IsRecord 0 (6 ∷ bytes) fault
replaced_output bytes fault fails =
    record_fails 6 replaced_row IsReplaced bytes fault replaced_as
    (first_fails output_row inputs AreOutput (λ _. AreInputs) 1 bytes fault (λ o is. ((no_files.0, no_files.0), (no_files.1, no_files.1))) fails)

pub replaced_sequence : (output : ℕ × (Space × (ℕ × ℕ))) (rest behind : Rest) (fault : FieldFault) → rest.at ≡ 1 → AreOutput output → TakesBytes rest (joined_fields (output_row output)) behind
    → FailsToRead files_fields AreFiles behind.at behind.bytes.now fault → FailsToRead fields IsRecord 0 (6 ∷ rest.bytes.now) fault
replaced_sequence output rest behind fault first is takes fails =
    kind_fails 6 replaced_row IsReplaced rest fault first replaced_as
    (second_fails output_row inputs AreOutput (λ _. AreInputs) output_rows output rest behind fault is takes
    (first_fails files_fields files_fields AreFiles (λ _. AreFiles) behind.at behind.bytes.now fault (λ files are. no_files) fails))

pub replaced_unsequence : (output : ℕ × (Space × (ℕ × ℕ))) (sequence : List FileNumber) (rest middle behind : Rest) (fault : FieldFault) → rest.at ≡ 1 → AreOutput output
    → TakesBytes rest (joined_fields (output_row output)) middle → AreFiles sequence → TakesBytes middle (joined_fields (files_fields sequence)) behind
    → FailsToRead files_fields AreFiles behind.at behind.bytes.now fault → FailsToRead fields IsRecord 0 (6 ∷ rest.bytes.now) fault
replaced_unsequence output sequence rest middle behind fault first is takes_output are takes fails =
    kind_fails 6 replaced_row IsReplaced rest fault first replaced_as
    (second_fails output_row inputs AreOutput (λ _. AreInputs) output_rows output rest middle fault is takes_output
    (second_fails files_fields files_fields AreFiles (λ _. AreFiles) files_rows sequence middle behind fault are takes fails))

-- ---- what was read

pub reads_insert : (time : ℤ) (n : ℕ) (cells : List CellRecord) (rest first middle behind : Rest) → rest.at ≡ 1 → FitsSigned w64 time → TakesBytes rest (plain_i64 time) first
    → n < 2 ^ 16 → TakesBytes first (number16 n) middle → AreValues IsCell n cells → TakesBytes middle (joined_fields (flat_map cell_fields cells)) behind
    → BeginsWithRecord (2 ∷ rest.bytes.now) (Insert time cells) behind
reads_insert time n cells rest first middle behind start fits takes_time few takes_count are takes_cells =
    let count = are.0 in
    takes_record 2 (Insert time cells) (plain_i64 time ++ (number16 (length cells) ++ joined_fields (flat_map cell_fields cells))) rest behind (fits, omega arith, are.1) refl start
    (takes_both rest first behind (plain_i64 time) (number16 (length cells) ++ joined_fields (flat_map cell_fields cells)) takes_time
    (takes_both first middle behind (number16 (length cells)) (joined_fields (flat_map cell_fields cells))
    (subst (λ (k : ℕ). TakesBytes first (number16 k) middle) (sym count) takes_count) takes_cells))

pub reads_delete : (path : List ℕ) (from to : ℤ) (rest first middle behind : Rest) → rest.at ≡ 1 → IsPath path → TakesBytes rest (plain_text path) first → FitsSigned w64 from → TakesBytes first (plain_i64 from) middle
    → FitsSigned w64 to → TakesBytes middle (plain_i64 to) behind → BeginsWithRecord (3 ∷ rest.bytes.now) (Delete path (record { from = from; to = to })) behind
reads_delete path from to rest first middle behind start is takes_path from_fits takes_from to_fits takes_to =
    takes_record 3 (Delete path (record { from = from; to = to })) (plain_text path ++ (plain_i64 from ++ plain_i64 to)) rest behind (is, from_fits, to_fits) refl start
    (takes_both rest first behind (plain_text path) (plain_i64 from ++ plain_i64 to) takes_path (takes_both first middle behind (plain_i64 from) (plain_i64 to) takes_from takes_to))

pub reads_replaced : (born : Stamp) (space : Space) (place : ℕ) (output : FileNumber) (sequence unsequence : List FileNumber) (rest first middle behind : Rest) → rest.at ≡ 1
    → AreOutput (born.0, (space, (place, output.0))) → TakesBytes rest (joined_fields (output_row (born.0, (space, (place, output.0))))) first
    → AreFiles sequence → TakesBytes first (joined_fields (files_fields sequence)) middle → AreFiles unsequence → TakesBytes middle (joined_fields (files_fields unsequence)) behind
    → BeginsWithRecord (6 ∷ rest.bytes.now) (Replaced born space place output sequence unsequence) behind
reads_replaced born space place output sequence unsequence rest first middle behind start is takes_output are_s takes_s are_u takes_u =
    let row = output_row (born.0, (space, (place, output.0))) in
    takes_record 6 (Replaced born space place output sequence unsequence) (joined_fields row ++ (joined_fields (files_fields sequence) ++ joined_fields (files_fields unsequence))) rest behind
    (is.0, is.1.1.0, is.1.1.1, are_s, are_u)
    (ap (λ (l : List ℕ). 6 ∷ l) (bytes_append row (files_fields sequence ++ files_fields unsequence) ∙ ap (λ (l : List ℕ). joined_fields row ++ l) (bytes_append (files_fields sequence) (files_fields unsequence))))
    start
    (takes_both rest first behind (joined_fields row) (joined_fields (files_fields sequence) ++ joined_fields (files_fields unsequence)) takes_output
    (takes_both first middle behind (joined_fields (files_fields sequence)) (joined_fields (files_fields unsequence)) takes_s takes_u))

-- ---- no record's first byte stands there

pub no_kind : (bytes : List ℕ) → ((n : ℕ) (more : List ℕ) → bytes ≡ n ∷ more → 1 ≤ n → n ≤ 7 → ⊥) → IsMissingField fields IsRecord 0 bytes 0
no_kind bytes none = record {
  none = λ item behind is e. let kind = kind_first item in
      none (record_kind item) _ (e ∙ ap (λ (l : List (List ℕ)). joined_fields l ++ behind) kind.1) (kind_range item).0 (kind_range item).1;
  count = 0;
  place = refl;
  furthest = record {
    reached = record { whole = Freeze; is = tt; first = []; more = fields Freeze; rest = bytes; begins = refl; splits = refl; place = refl };
    none_beyond = λ j r. near j r.whole r.first r.more r.rest r.begins r.splits r.place;
  };
} where
  near : (j : ℕ) (item : LogRecord) (first more : List (List ℕ)) (rest : List ℕ) → fields item ≡ first ++ more → bytes ≡ joined_fields first ++ rest → j ≡ length (joined_fields first) → j ≤ 0
  near j item [] more rest begins splits place = omega arith
  near j item (f ∷ fs) more rest begins splits place =
      let kind = kind_first item in
      let both-are = sym kind.1 ∙ begins in
      let byte : record_kind item ∷ [] ≡ f = cc in
      absurd (none (record_kind item) (joined_fields fs ++ rest) (splits ∙ ap (λ (l : List ℕ). (l ++ joined_fields fs) ++ rest) (sym byte)) (kind_range item).0 (kind_range item).1)

-- ---- whole payloads

pub bad_field : (bytes : List ℕ) (fault : FieldFault) (at : ℕ) → FailsToRead fields IsRecord 0 bytes fault → log_fault fault ≡ log.Bad at → IsBadRecord bytes at
bad_field bytes (field.Bad k) at fails e =
    let same : k ≡ at = cc in
    let place = fails.place in
    let count : fails.count ≡ at = omega arith in
    record {
      none = λ item is e. fails.none item [] is (e ∙ sym (append-nil (spelling item)));
      place = subst (λ (n : ℕ). IsFurthest fields IsRecord bytes n) count fails.furthest;
    }
bad_field bytes field.Memory at fails e = absurd cc

pub memory_alone : (bytes : List ℕ) (fault : FieldFault) (item : LogRecord) → FailsToRead fields IsRecord 0 bytes fault → IsRecord item → bytes ≡ spelling item → log_fault fault ≡ log.Memory
memory_alone bytes (field.Bad k) item fails is e = absurd (fails.none item [] is (e ∙ sym (append-nil (spelling item))))
memory_alone bytes field.Memory item fails is e = refl

-- a record and bytes behind it
more_behind : (bytes : List ℕ) (item : LogRecord) (rest : Rest) (other : LogRecord) → BeginsWithRecord bytes item rest → IsRecord other → bytes ≡ spelling other → (item ≡ other) × (rest.bytes.now ≡ [])
more_behind bytes item rest other begins is e =
    record_rows.free item other rest.bytes.now [] begins.is is (sym begins.splits ∙ e ∙ sym (append-nil (spelling other)))

pub bytes_behind : (bytes : List ℕ) (item : LogRecord) (rest : Rest) → BeginsWithRecord bytes item rest → 0 < length rest.bytes.now → IsBadRecord bytes rest.at
bytes_behind bytes item rest begins some = record {
  none = λ other is e.
      let same = more_behind bytes item rest other begins is e in
      let none : length rest.bytes.now ≡ 0 = ap length same.1 in
      absurd (omega arith);
  place = record {
    reached = record {
      whole = item;
      is = begins.is;
      first = fields item;
      more = [];
      rest = rest.bytes.now;
      begins = sym (append-nil (fields item));
      splits = begins.splits;
      place = begins.place;
    };
    none_beyond = λ j r.
        let there = subst (λ (l : List ℕ). ReachesField fields IsRecord l j) begins.splits r in
        let le = record_rows.full item rest.bytes.now j begins.is there in
        let place = begins.place in
        omega arith;
  };
}

pub bytes_behind_none : (bytes : List ℕ) (item : LogRecord) (rest : Rest) (other : LogRecord) → BeginsWithRecord bytes item rest → 0 < length rest.bytes.now → IsRecord other → bytes ≡ spelling other → ⊥
bytes_behind_none bytes item rest other begins some is e = (bytes_behind bytes item rest begins some).none other is e

pub read_as : (bytes : List ℕ) (item : LogRecord) (rest : Rest) (other : LogRecord) → BeginsWithRecord bytes item rest → IsRecord other → bytes ≡ spelling other → item ≡ other
read_as bytes item rest other begins is e = (more_behind bytes item rest other begins is e).0
