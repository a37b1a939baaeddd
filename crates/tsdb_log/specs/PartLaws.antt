-- The laws of parts: no part's bytes begin another's, none goes further than one that stands there, and there is one.
use Rattle.std.proofs.Common.{◌≡◌, ℕ, ◌<◌, ◌^◌, false, List, [], ◌∷◌, length, refl, ap, arith, rules, codes}
use Rattle.std.specs.Prelude.{ℤ, pos, FitsSigned}
use Rattle.std.specs.Int.{w64}
use Rattle.std.specs.List.{flat_map}
use Rattle.std.proofs.lemmas.List.Elements.{All-nil}
use Rattle.tsdb_base.specs.declared.ids.FileNumber.{FileNumber}
use Rattle.tsdb_base.specs.declared.ids.Space.{Space}
use Rattle.tsdb_base.specs.declared.ids.Space.TheVariants.{Sequence, Unsequence}
use Rattle.tsdb_base.specs.declared.value.DataType.{DataType}
use Rattle.tsdb_base.specs.declared.value.DataType.TheVariants.{Boolean, Int32, Int64, Text}
use Rattle.tsdb_base.specs.declared.value.Encoding.{Encoding}
use Rattle.tsdb_base.specs.declared.value.Encoding.TheVariants.{Plain}
use Rattle.tsdb_base.specs.declared.value.Value.{Value}
use Rattle.tsdb_base.specs.declared.value.Value.TheVariants as value
use Rattle.tsdb_base.specs.Fields.{number64, type_field, encoding_field, value_field}
use Rattle.tsdb_base.specs.FieldLaws.{number64-prefix_free, type_field-prefix_free, encoding_field-prefix_free}
use Rattle.tsdb_base.specs.Plain.{plain_i64, plain_text, AreValues}
use Rattle.tsdb_base.specs.PlainLaws.{plain_i64-prefix_free, plain_text-prefix_free}
use Rattle.tsdb_base.specs.Values.{type_of, IsValue, IsValueOf}
use Rattle.tsdb_base.proofs.PlainLists.{IsPrefixFree}
use Rattle.tsdb_path.specs.Nodes.{IsPath}
use Rattle.tsdb_fields.proofs.Laws.{value_field-prefix_free}
use Rattle.tsdb_log.specs.declared.record.CellRecord.{CellRecord}
use Rattle.tsdb_log.specs.Rows.{both, field, AreBoth, IsAny, IsNumber64, IsRowForm}
use Rattle.tsdb_log.specs.Snapshots.{counted_fields, typed_fields, AreCounted}
use Rattle.tsdb_log.specs.Spelling.{cell_fields, file_fields, space_field, IsCell, IsFileField}
use Rattle.tsdb_log.specs.RowLaws.{row_of_field, row_of_both}
use Rattle.tsdb_log.specs.ListLaws.{AreList, row_of_list}
use Rattle.tsdb_log.specs.ViewLaws.{IsWrittenAs, row_as, values_as}

-- ---- fields of each kind

pub path_free : IsPrefixFree plain_text IsPath
path_free a b x y is_a is_b e =
    let short_a = is_a.1.short in
    let short_b = is_b.1.short in
    plain_text-prefix_free a b x y (omega arith) (omega arith) e

-- the shortest path
pub root : (path : List ℕ) × IsPath path
root = (
  codes "root",
  (
    codes "root" ∷ [],
    record {
      rooted = refl;
      good = search (rules);
      few = omega arith;
      bytes_are = refl;
      short = omega arith;
    },
  ),
)

-- a value of each type
pub some_value : (t : DataType) → (v : Value) × IsValueOf t v
some_value Boolean = (value.Bool false, record { typed = refl; fits = tt })
some_value Int32 = (value.I32 (pos 0), record { typed = refl; fits = omega arith })
some_value Int64 = (value.I64 (pos 0), record { typed = refl; fits = omega arith })
some_value Text = (value.Text [], record { typed = refl; fits = omega arith })

pub some_number : (n : ℕ) × IsNumber64 n
some_number = (0, omega arith)

pub some_time : (z : ℤ) × FitsSigned w64 z
some_time = (pos 0, omega arith)

pub some_type : (t : DataType) × IsAny t
some_type = (Boolean, tt)

pub some_encoding : (e : Encoding) × IsAny e
some_encoding = (Plain, tt)

pub some_space : (s : Space) × IsAny s
some_space = (Sequence, tt)

pub number_rows : IsRowForm (field number64) IsNumber64
number_rows = row_of_field number64 IsNumber64 number64-prefix_free

pub time_rows : IsRowForm (field plain_i64) (FitsSigned w64)
time_rows = row_of_field plain_i64 (FitsSigned w64) plain_i64-prefix_free

pub path_rows : IsRowForm (field plain_text) IsPath
path_rows = row_of_field plain_text IsPath path_free

pub type_rows : IsRowForm (field type_field) IsAny
type_rows = row_of_field type_field IsAny type_field-prefix_free

pub encoding_rows : IsRowForm (field encoding_field) IsAny
encoding_rows = row_of_field encoding_field IsAny encoding_field-prefix_free

pub space_free : IsPrefixFree space_field IsAny
space_free Sequence Sequence x y is_a is_b e = (refl, cc)
space_free Sequence Unsequence x y is_a is_b e = absurd cc
space_free Unsequence Sequence x y is_a is_b e = absurd cc
space_free Unsequence Unsequence x y is_a is_b e = (refl, cc)

pub space_rows : IsRowForm (field space_field) IsAny
space_rows = row_of_field space_field IsAny space_free

-- ---- a value behind its type

abbrev pub value_row : DataType × Value → List (List ℕ)
value_row = both (field type_field) (field value_field)

abbrev pub IsValueRow : DataType × Value → Type 0
IsValueRow = AreBoth IsAny IsValueOf

pub value_rows : IsRowForm value_row IsValueRow
value_rows = row_of_both (field type_field) (field value_field) IsAny IsValueOf (row_of_field type_field IsAny type_field-prefix_free)
    (λ t any. row_of_field value_field (IsValueOf t) (value_field-prefix_free t))

pub typed_as : IsWrittenAs value_row IsValueRow typed_fields IsValue
typed_as = record {
  make = λ p. p.1;
  view = λ v is. ((type_of v, v), (tt, record { typed = refl; fits = is }), refl);
  back = λ p is. (is.1.fits, ap (λ (t : DataType). type_field t ∷ value_field p.1 ∷ []) is.1.typed);
}

pub typed_rows : IsRowForm typed_fields IsValue
typed_rows = row_as value_row IsValueRow typed_fields IsValue typed_as value_rows

pub some_typed : (v : Value) × IsValue v
some_typed = (value.Bool false, tt)

-- ---- two parts

pub pair_rows : {A B : Type 0} (first : A → List (List ℕ)) (second : B → List (List ℕ)) (IsFirst : A → Type 0)
    (IsSecond : B → Type 0) → IsRowForm first IsFirst → IsRowForm second IsSecond
    → IsRowForm (both first second) (AreBoth IsFirst (λ _. IsSecond))
pair_rows first second IsFirst IsSecond row rows = row_of_both first second IsFirst (λ _. IsSecond) row (λ a is. rows)

pub some_pair : {A B : Type 0} (IsFirst : A → Type 0) (IsSecond : B → Type 0) → (a : A) × IsFirst a → (b : B) × IsSecond b
    → (p : A × B) × AreBoth IsFirst (λ _. IsSecond) p
some_pair IsFirst IsSecond a b = ((a.0, b.0), (a.1, b.1))

-- ---- lists of rows

pub rows_of_values : {A : Type 0} (row : A → List (List ℕ)) (Is : A → Type 0) → IsRowForm row Is → (n : ℕ) → IsRowForm (flat_map row) (AreValues Is n)
rows_of_values row Is rows n = row_as (flat_map row) (AreList Is n) (flat_map row) (AreValues Is n) (values_as row Is n) (row_of_list row Is rows n)

abbrev pub counted_row : {A : Type 0} → (A → List (List ℕ)) → ℕ × List A → List (List ℕ)
counted_row row = both (field number64) (flat_map row)

abbrev pub IsCountedRow : {A : Type 0} → (A → Type 0) → ℕ × List A → Type 0
IsCountedRow Is = AreBoth IsNumber64 (AreValues Is)

pub counted_as : {A : Type 0} (row : A → List (List ℕ)) (Is : A → Type 0)
    → IsWrittenAs (counted_row row) (IsCountedRow Is) (counted_fields row) (AreCounted Is)
counted_as row Is = record {
  make = λ p. p.1;
  view = λ xs are. ((length xs, xs), (are.0, (refl, are.1)), refl);
  back = λ p is.
      let few : p.0 < 2 ^ 64 = is.0 in
      let count : length p.1 ≡ p.0 = is.1.0 in
      ((omega arith, is.1.1), ap (λ (n : ℕ). number64 n ∷ flat_map row p.1) count);
}

pub counted_rows : {A : Type 0} (row : A → List (List ℕ)) (Is : A → Type 0) → IsRowForm row Is
    → IsRowForm (counted_fields row) (AreCounted Is)
counted_rows row Is rows = row_as (counted_row row) (IsCountedRow Is) (counted_fields row) (AreCounted Is) (counted_as row Is)
    (row_of_both (field number64) (flat_map row) IsNumber64 (AreValues Is) number_rows (λ n few. rows_of_values row Is rows n))

pub none_counted : {A : Type 0} (Is : A → Type 0) → (xs : List A) × AreCounted Is xs
none_counted Is = ([], (omega arith, All-nil Is))

pub some_path : (path : List ℕ) × IsPath path
some_path = root

-- ---- a cell

abbrev pub cell_row : ℕ × Value → List (List ℕ)
cell_row = both (field number64) typed_fields

abbrev pub IsCellRow : ℕ × Value → Type 0
IsCellRow = AreBoth IsNumber64 (λ _. IsValue)

pub cell_as : IsWrittenAs cell_row IsCellRow cell_fields IsCell
cell_as = record {
  make = λ p. record { series = record { 0 = p.0 }; value = p.1 };
  view = λ c is. ((c.series.0, c.value), (is.series, is.value), refl);
  back = λ p is. (record { series = is.0; value = is.1 }, refl);
}

pub cell_rows : IsRowForm cell_fields IsCell
cell_rows = row_as cell_row IsCellRow cell_fields IsCell cell_as
    (pair_rows (field number64) typed_fields IsNumber64 IsValue number_rows typed_rows)

pub some_cell : (c : CellRecord) × IsCell c
some_cell = (record { series = record { 0 = some_number.0 }; value = some_typed.0 }, record { series = some_number.1; value = some_typed.1 })

-- ---- the number of a file

pub file_as : IsWrittenAs (field number64) IsNumber64 file_fields IsFileField
file_as = record { make = λ n. record { 0 = n }; view = λ file is. (file.0, is, refl); back = λ n is. (is, refl) }

pub file_rows : IsRowForm file_fields IsFileField
file_rows = row_as (field number64) IsNumber64 file_fields IsFileField file_as number_rows

pub some_file : (f : FileNumber) × IsFileField f
some_file = (record { 0 = some_number.0 }, some_number.1)
