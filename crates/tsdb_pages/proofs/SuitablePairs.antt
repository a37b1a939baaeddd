-- The laws of each encoding of each type that it suits.
use Rattle.std.proofs.Common.{◌≡◌, ◌≤◌, ◌<◌, ◌^◌, ℕ, Bool, true, false, List, length, FitsSigned, arith}
use Rattle.std.specs.Int.{w32, w64}
use Rattle.tsdb_base.specs.declared.value.DataType.{DataType}
use Rattle.tsdb_base.specs.declared.value.DataType.TheVariants.{Boolean, Int32, Int64, Text as TextType}
use Rattle.tsdb_base.specs.declared.value.Encoding.{Encoding}
use Rattle.tsdb_base.specs.declared.value.Encoding.TheVariants.{Plain, Dictionary, Rle, Ts2diff}
use Rattle.tsdb_base.specs.declared.value.Value.{Value}
use Rattle.tsdb_base.specs.declared.value.Value.TheVariants as value
use Rattle.tsdb_base.specs.Plain.{plain_bool, plain_i32, plain_i64, plain_text, IsText}
use Rattle.tsdb_base.specs.PlainLaws.{plain_bool-prefix_free, plain_i32-prefix_free, plain_i64-prefix_free, plain_text-prefix_free}
use Rattle.tsdb_base.specs.Values.{is_suitable, IsValueOf}
use Rattle.tsdb_base.proofs.PlainLists.{IsPrefixFree}
use Rattle.tsdb_bits.specs.Zigzag.{zigzag}
use Rattle.tsdb_bits.specs.Lists.{HasOneSpelling, IsShort}
use Rattle.enc_plain.specs.Spelling as plain
use Rattle.enc_plain.proofs.PlainLaws as plain_laws
use Rattle.enc_rle.specs.Spelling as rle
use Rattle.enc_rle.specs.CodeLaws.{bool_code-one_to_one, bool_code-lt, same_from_zigzag, zigzag_i32-lt, zigzag_i64-lt}
use Rattle.enc_rle.proofs.Runs as rle_laws
use Rattle.enc_ts2diff.specs.Spelling as ts2diff
use Rattle.enc_ts2diff.proofs.Canonical as ts2diff_sizes
use Rattle.enc_ts2diff.proofs.Numbers.{wider_list}
use Rattle.enc_ts2diff.proofs.Parts as ts2diff_laws
use Rattle.enc_dict.specs.Spelling as dict
use Rattle.enc_dict.proofs.SpellingLaws as dict_laws
use Rattle.tsdb_pages.specs.ListSpelling.{spelling}
use Rattle.tsdb_pages.specs.ListSteps.{MakesValues, spelling_of}
use Rattle.tsdb_pages.specs.TypeLaws.{makes_booleans, makes_int32, makes_int64, makes_texts}
use Rattle.tsdb_pages.proofs.ValueLists.{values_have_one_spelling, values_are_short}
use Rattle.tsdb_pages.proofs.OneType.{AreSame, one_by, short_by, plain_booleans, plain_int32, plain_int64, plain_texts, rle_booleans, rle_int32, rle_int64, ts2diff_int32, ts2diff_int64, dictionary_texts}

-- two lists of values with the same bytes are equal, and a list is short
pub record HasLaws (data_type : DataType) (encoding : Encoding) : Type 0 where
  pub one : HasOneSpelling (spelling encoding) (IsValueOf data_type)
  pub short : IsShort (spelling encoding) (IsValueOf data_type)

laws_by : {A : Type 0} (data_type : DataType) (as_value : A → Value) (IsValue : A → Type 0) (makes : MakesValues data_type as_value IsValue) (encoding : Encoding) (right : List A → List ℕ) (same : AreSame (spelling_of as_value encoding) right)
    → HasOneSpelling right IsValue → IsShort right IsValue → HasLaws data_type encoding
laws_by data_type as_value IsValue makes encoding right same one short = record {
  one = values_have_one_spelling data_type as_value IsValue makes encoding (one_by (spelling_of as_value encoding) right IsValue same one);
  short = values_are_short data_type as_value IsValue makes encoding (short_by (spelling_of as_value encoding) right IsValue same short);
}

plain_laws_by : {A : Type 0} (data_type : DataType) (as_value : A → Value) (IsValue : A → Type 0) (makes : MakesValues data_type as_value IsValue) (each : A → List ℕ) (same : AreSame (spelling_of as_value Plain) (plain.spelling each)) (free : IsPrefixFree each IsValue)
    (short : (a : A) → IsValue a → length (each a) ≤ 65537) → HasLaws data_type Plain
plain_laws_by data_type as_value IsValue makes each same free short =
    laws_by data_type as_value IsValue makes Plain (plain.spelling each) same (plain_laws.same_from_spelling each IsValue free)
    (λ values is. plain_laws.length-spelling each IsValue 65537 short values (omega arith) is)

rle_laws_by : {A : Type 0} (data_type : DataType) (as_value : A → Value) (IsValue : A → Type 0) (makes : MakesValues data_type as_value IsValue) (code : A → ℕ) (same : AreSame (spelling_of as_value Rle) (rle.spelling code)) (one : (a b : A) → code a ≡ code b → a ≡ b)
    (small : (a : A) → IsValue a → code a < 2 ^ 64) → HasLaws data_type Rle
rle_laws_by data_type as_value IsValue makes code same one small =
    laws_by data_type as_value IsValue makes Rle (rle.spelling code) same (λ xs ys is_x is_y e. rle_laws.same_from_spelling code one xs ys e) (rle_laws.length-spelling code IsValue small)

one_byte : (truth : Bool) → Unit {0} → length (plain_bool truth) ≤ 65537
one_byte true is = omega arith
one_byte false is = omega arith

pub laws_of : (data_type : DataType) (encoding : Encoding) → is_suitable data_type encoding ≡ true → HasLaws data_type encoding
laws_of Boolean Plain is = plain_laws_by Boolean value.Bool (λ _. Unit {0}) makes_booleans plain_bool plain_booleans plain_bool-prefix_free one_byte
laws_of Int32 Plain is = plain_laws_by Int32 value.I32 (FitsSigned w32) makes_int32 plain_i32 plain_int32 plain_i32-prefix_free (λ z any. omega arith)
laws_of Int64 Plain is = plain_laws_by Int64 value.I64 (FitsSigned w64) makes_int64 plain_i64 plain_int64 plain_i64-prefix_free (λ z any. omega arith)
laws_of TextType Plain is = plain_laws_by TextType value.Text IsText makes_texts plain_text plain_texts plain_text-prefix_free (λ t short. omega (arith, short))
laws_of Boolean Rle is = rle_laws_by Boolean value.Bool (λ _. Unit {0}) makes_booleans rle.bool_code rle_booleans bool_code-one_to_one bool_code-lt
laws_of Int32 Rle is = rle_laws_by Int32 value.I32 (FitsSigned w32) makes_int32 zigzag rle_int32 same_from_zigzag zigzag_i32-lt
laws_of Int64 Rle is = rle_laws_by Int64 value.I64 (FitsSigned w64) makes_int64 zigzag rle_int64 same_from_zigzag zigzag_i64-lt
laws_of TextType Rle is = absurd cc
laws_of Boolean Ts2diff is = absurd cc
laws_of Int32 Ts2diff is =
    laws_by Int32 value.I32 (FitsSigned w32) makes_int32 Ts2diff ts2diff.spelling ts2diff_int32 (λ xs ys is_x is_y e. ts2diff_laws.same_from_spelling xs ys (wider_list xs is_x) (wider_list ys is_y) e)
    (λ values is_list. ts2diff_sizes.length-spelling values (wider_list values is_list))
laws_of Int64 Ts2diff is = laws_by Int64 value.I64 (FitsSigned w64) makes_int64 Ts2diff ts2diff.spelling ts2diff_int64 ts2diff_laws.same_from_spelling ts2diff_sizes.length-spelling
laws_of TextType Ts2diff is = absurd cc
laws_of Boolean Dictionary is = absurd cc
laws_of Int32 Dictionary is = absurd cc
laws_of Int64 Dictionary is = absurd cc
laws_of TextType Dictionary is = laws_by TextType value.Text IsText makes_texts Dictionary dict.spelling dictionary_texts dict_laws.same_from_spelling dict_laws.length-spelling
