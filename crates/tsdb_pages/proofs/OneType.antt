-- The bytes of values of one type are those of the list that they are made of.
use Rattle.std.proofs.Common.{◌≡◌, ℕ, true, List, ◌++◌, length, get_or, map, refl, sym, ap, ◌∙◌}
use Rattle.std.specs.Prelude.{All, Result, IfOk}
use Rattle.std.proofs.lemmas.Result.{IfOk-weaker}
use Rattle.std.specs.List.{flat_map}
use Rattle.std.proofs.lemmas.List.{length-map, map-id}
use Rattle.std.proofs.lemmas.List.Folds.{flat_map-map}
use Rattle.std.proofs.lemmas.Simd.{map-map}
use Rattle.std.proofs.lemmas.List.Elements.{recursion_from_All}
use Rattle.tsdb_base.specs.declared.value.DataType.{DataType}
use Rattle.tsdb_base.specs.declared.value.DataType.TheVariants.{Boolean, Text as TextType}
use Rattle.tsdb_base.specs.declared.value.Encoding.{Encoding}
use Rattle.tsdb_base.specs.declared.value.Encoding.TheVariants.{Plain, Dictionary, Rle, Ts2diff}
use Rattle.tsdb_base.specs.declared.value.Value.{Value}
use Rattle.tsdb_base.specs.declared.value.Value.TheVariants as value
use Rattle.tsdb_base.specs.Plain.{plain_bool, plain_i32, plain_i64, plain_text}
use Rattle.tsdb_base.specs.Values.{is_suitable, type_of}
use Rattle.tsdb_base.specs.Fields.{value_field}
use Rattle.tsdb_bits.specs.Leb.{leb}
use Rattle.tsdb_bits.specs.Zigzag.{zigzag}
use Rattle.enc_plain.specs.Spelling as plain
use Rattle.enc_rle.specs.Spelling as rle
use Rattle.enc_ts2diff.specs.Spelling as ts2diff
use Rattle.enc_dict.specs.Spelling as dict
use Rattle.tsdb_bits.specs.Lists.{IsSpelling, SpellNone, HasOneSpelling, IsShort}
use Rattle.tsdb_pages.specs.ListSpelling.{spelling, code_of, integer_of, text_of}
use Rattle.tsdb_pages.specs.ListSteps.{spelling_of, truth_of}
use Rattle.tsdb_pages.proofs.ValueLists.{map_same}

-- ---- two spellings that are the same

abbrev pub AreSame : {A : Type 0} → (List A → List ℕ) → (List A → List ℕ) → Type 0
AreSame {A} left right = (list : List A) → left list ≡ right list

-- a list that was found by one spelling was found by the other
pub found_by : {A X E : Type 0} (items : X → List A) (as_value : A → Value) (right : List A → List ℕ) (IsValue : A → Type 0) (encoding suitable : Encoding) (is : encoding ≡ suitable) (same : AreSame (spelling_of as_value suitable) right) (bytes : List ℕ) (r : Result X E)
    → IfOk r (λ x. IsSpelling right IsValue bytes (items x)) → IfOk r (λ x. IsSpelling (spelling_of as_value encoding) IsValue bytes (items x))
found_by items as_value right IsValue encoding suitable is same bytes r found =
    IfOk-weaker r (λ x. IsSpelling right IsValue bytes (items x)) (λ x. IsSpelling (spelling_of as_value encoding) IsValue bytes (items x))
    (λ x spelt. record { list = spelt.list; bytes_are = spelt.bytes_are ∙ sym (same (items x)) ∙ ap (λ e. spelling_of as_value e (items x)) (sym is) }) found

pub none_by : {A : Type 0} (as_value : A → Value) (right : List A → List ℕ) (IsValue : A → Type 0) (encoding suitable : Encoding) (is : encoding ≡ suitable) (same : AreSame (spelling_of as_value suitable) right) (bytes : List ℕ)
    → SpellNone right IsValue bytes → SpellNone (spelling_of as_value encoding) IsValue bytes
none_by as_value right IsValue encoding suitable is same bytes none = λ list spelt. none list (record { list = spelt.list; bytes_are = spelt.bytes_are ∙ ap (λ e. spelling_of as_value e list) is ∙ same list })

pub one_by : {A : Type 0} (left right : List A → List ℕ) (IsValue : A → Type 0) (same : AreSame left right) → HasOneSpelling right IsValue → HasOneSpelling left IsValue
one_by left right IsValue same one = λ xs ys is_x is_y e. one xs ys is_x is_y (sym (same xs) ∙ e ∙ same ys)

pub short_by : {A : Type 0} (left right : List A → List ℕ) (IsValue : A → Type 0) (same : AreSame left right) → IsShort right IsValue → IsShort left IsValue
short_by left right IsValue same short = λ list is. rw (same list) (short list is)

-- ---- the spelling of each type in each encoding that suits it

plain_by : {A : Type 0} (as_value : A → Value) (list : List A) → spelling_of as_value Plain list ≡ plain.spelling (λ a. value_field (as_value a)) list
plain_by as_value list =
    ap (λ (n : ℕ). leb n ++ flat_map value_field (map as_value list)) (length-map list as_value) ∙ ap (λ (t : List ℕ). leb (length list) ++ t) (flat_map-map value_field as_value list)

rle_by : {A : Type 0} (as_value : A → Value) (list : List A) → spelling_of as_value Rle list ≡ rle.spelling (λ a. code_of (as_value a)) list
rle_by as_value list = ap rle.codes_spelling (map-map code_of as_value list)

pub plain_booleans : AreSame (spelling_of value.Bool Plain) (plain.spelling plain_bool)
plain_booleans = plain_by value.Bool

pub plain_int32 : AreSame (spelling_of value.I32 Plain) (plain.spelling plain_i32)
plain_int32 = plain_by value.I32

pub plain_int64 : AreSame (spelling_of value.I64 Plain) (plain.spelling plain_i64)
plain_int64 = plain_by value.I64

pub plain_texts : AreSame (spelling_of value.Text Plain) (plain.spelling plain_text)
plain_texts = plain_by value.Text

pub rle_booleans : AreSame (spelling_of value.Bool Rle) (rle.spelling rle.bool_code)
rle_booleans = rle_by value.Bool

pub rle_int32 : AreSame (spelling_of value.I32 Rle) (rle.spelling zigzag)
rle_int32 = rle_by value.I32

pub rle_int64 : AreSame (spelling_of value.I64 Rle) (rle.spelling zigzag)
rle_int64 = rle_by value.I64

pub ts2diff_int32 : AreSame (spelling_of value.I32 Ts2diff) ts2diff.spelling
ts2diff_int32 list = ap ts2diff.spelling (map-map integer_of value.I32 list ∙ map-id list)

pub ts2diff_int64 : AreSame (spelling_of value.I64 Ts2diff) ts2diff.spelling
ts2diff_int64 list = ap ts2diff.spelling (map-map integer_of value.I64 list ∙ map-id list)

pub dictionary_texts : AreSame (spelling_of value.Text Dictionary) dict.spelling
dictionary_texts list = ap dict.spelling (map-map text_of value.Text list ∙ map-id list)

-- ---- the parts that are encoded of the values of items

pub plain_items : {T : Type 0} (value_of : T → Value) (items : List T) → leb (length items) ++ flat_map (λ item. value_field (value_of item)) items ≡ plain.spelling value_field (map value_of items)
plain_items value_of items =
    ap (λ (n : ℕ). leb n ++ flat_map (λ item. value_field (value_of item)) items) (sym (length-map items value_of))
    ∙ ap (λ (t : List ℕ). leb (length (map value_of items)) ++ t) (sym (flat_map-map value_field value_of items))

-- the codes of the items are those of their parts
codes_same : {T P : Type 0} (value_of : T → Value) (part_of : Value → P) (code : P → ℕ) (items : List T) → All (λ item. code_of (value_of item) ≡ code (part_of (value_of item))) items
    → rle.spelling code (map (λ item. part_of (value_of item)) items) ≡ spelling Rle (map value_of items)
codes_same value_of part_of code items same =
    ap rle.codes_spelling (map-map code (λ item. part_of (value_of item)) items
    ∙ sym (map_same (λ item. code_of (value_of item)) (λ item. code (part_of (value_of item))) items (recursion_from_All (λ item. code_of (value_of item) ≡ code (part_of (value_of item))) items same))
    ∙ sym (map-map code_of value_of items))

truth_code : (v : Value) → type_of v ≡ Boolean → code_of v ≡ rle.bool_code (truth_of v)
truth_code (value.Bool truth) is = refl
truth_code (value.I32 number) is = absurd cc
truth_code (value.I64 number) is = absurd cc
truth_code (value.Text bytes) is = absurd cc

integer_code : (data_type : DataType) (suits : is_suitable data_type Rle ≡ true) (other : data_type ≡ Boolean → ⊥) (v : Value) → type_of v ≡ data_type → code_of v ≡ zigzag (integer_of v)
integer_code data_type suits other (value.Bool truth) is = absurd (other (sym is))
integer_code data_type suits other (value.I32 number) is = refl
integer_code data_type suits other (value.I64 number) is = refl
integer_code data_type suits other (value.Text bytes) is = let no : is_suitable TextType Rle ≡ true = ap (λ t. is_suitable t Rle) is ∙ suits in absurd cc

pub truths_spell : {T : Type 0} (value_of : T → Value) (encoding : Encoding) (items : List T) → encoding ≡ Rle → All (λ item. type_of (value_of item) ≡ Boolean) items
    → rle.spelling rle.bool_code (map (λ item. truth_of (value_of item)) items) ≡ spelling encoding (map value_of items)
truths_spell value_of encoding items is typed =
    codes_same value_of truth_of rle.bool_code items (λ k d lt. truth_code (value_of (get_or items k d)) (typed k d lt)) ∙ ap (λ e. spelling e (map value_of items)) (sym is)

pub integers_spell : {T : Type 0} (value_of : T → Value) (data_type : DataType) (encoding : Encoding) (items : List T) → encoding ≡ Rle → is_suitable data_type encoding ≡ true → (data_type ≡ Boolean → ⊥) → All (λ item. type_of (value_of item) ≡ data_type) items
    → rle.spelling zigzag (map (λ item. integer_of (value_of item)) items) ≡ spelling encoding (map value_of items)
integers_spell value_of data_type encoding items is suits other typed =
    codes_same value_of integer_of zigzag items
    (λ k d lt. integer_code data_type (ap (is_suitable data_type) (sym is) ∙ suits) other (value_of (get_or items k d)) (typed k d lt)) ∙ ap (λ e. spelling e (map value_of items)) (sym is)

pub differences_spell : {T : Type 0} (value_of : T → Value) (encoding : Encoding) (items : List T) → encoding ≡ Ts2diff → ts2diff.spelling (map (λ item. integer_of (value_of item)) items) ≡ spelling encoding (map value_of items)
differences_spell value_of encoding items is = ap ts2diff.spelling (sym (map-map integer_of value_of items)) ∙ ap (λ e. spelling e (map value_of items)) (sym is)

pub texts_spell : {T : Type 0} (value_of : T → Value) (encoding : Encoding) (items : List T) → encoding ≡ Dictionary → dict.spelling (map (λ item. text_of (value_of item)) items) ≡ spelling encoding (map value_of items)
texts_spell value_of encoding items is = ap dict.spelling (sym (map-map text_of value_of items)) ∙ ap (λ e. spelling e (map value_of items)) (sym is)
