-- The bytes of a list of values of one type, in each encoding.
use Rattle.std.specs.Prelude.{ℕ, ℤ, pos, List, [], map}
use Rattle.tsdb_base.specs.declared.value.Encoding.{Encoding}
use Rattle.tsdb_base.specs.declared.value.Encoding.TheVariants.{Plain, Dictionary, Rle, Ts2diff}
use Rattle.tsdb_base.specs.declared.value.Value.{Value}
use Rattle.tsdb_base.specs.declared.value.Value.TheVariants as value
use Rattle.tsdb_base.specs.Fields.{value_field}
use Rattle.tsdb_bits.specs.Zigzag.{zigzag}
use Rattle.enc_plain.specs.Spelling as plain
use Rattle.enc_rle.specs.Spelling as rle
use Rattle.enc_ts2diff.specs.Spelling as ts2diff
use Rattle.enc_dict.specs.Spelling as dict

-- the code of a value in a run; runs are of booleans and numbers
abbrev pub code_of : Value → ℕ
code_of (value.Bool truth) = rle.bool_code truth
code_of (value.I32 number) = zigzag number
code_of (value.I64 number) = zigzag number
code_of (value.Text bytes) = 0

-- the number of a value; differences are of numbers
abbrev pub integer_of : Value → ℤ
integer_of (value.Bool truth) = pos 0
integer_of (value.I32 number) = number
integer_of (value.I64 number) = number
integer_of (value.Text bytes) = pos 0

-- the text of a value; a dictionary is of texts
abbrev pub text_of : Value → List ℕ
text_of (value.Bool truth) = []
text_of (value.I32 number) = []
text_of (value.I64 number) = []
text_of (value.Text bytes) = bytes

-- the bytes of a list of values
abbrev pub spelling : Encoding → List Value → List ℕ
spelling Plain values = plain.spelling value_field values
spelling Rle values = rle.spelling code_of values
spelling Ts2diff values = ts2diff.spelling (map integer_of values)
spelling Dictionary values = dict.spelling (map text_of values)
