-- The bytes of the fields that a file's index and the log's records are made of.
use Rattle.std.specs.Prelude.{ℕ, List, [], ◌∷◌, ◌++◌}
use Rattle.std.specs.Int.{w16, w32, w64, to_be_bytes}
use Rattle.tsdb_base.specs.declared.value.DataType.{DataType}
use Rattle.tsdb_base.specs.declared.value.DataType.TheVariants.{Boolean, Int32, Int64, Text}
use Rattle.tsdb_base.specs.declared.value.Encoding.{Encoding}
use Rattle.tsdb_base.specs.declared.value.Encoding.TheVariants.{Plain, Dictionary, Rle, Ts2diff}
use Rattle.tsdb_base.specs.declared.value.Value.{Value}
use Rattle.tsdb_base.specs.declared.value.Value.TheVariants as value
use Rattle.tsdb_base.specs.Plain.{plain_bool, plain_i32, plain_i64, plain_text}

-- a number in two, four or eight bytes, the highest first
abbrev pub number16 : ℕ → List ℕ
number16 n = to_be_bytes w16 n

abbrev pub number32 : ℕ → List ℕ
number32 n = to_be_bytes w32 n

abbrev pub number64 : ℕ → List ℕ
number64 n = to_be_bytes w64 n

-- the byte of a type
abbrev pub type_field : DataType → List ℕ
type_field Boolean = 0 ∷ []
type_field Int32 = 1 ∷ []
type_field Int64 = 2 ∷ []
type_field Text = 5 ∷ []

-- the byte of an encoding
abbrev pub encoding_field : Encoding → List ℕ
encoding_field Plain = 0 ∷ []
encoding_field Dictionary = 1 ∷ []
encoding_field Rle = 2 ∷ []
encoding_field Ts2diff = 4 ∷ []

-- a value, whose type is known from elsewhere
abbrev pub value_field : Value → List ℕ
value_field (value.Bool b) = plain_bool b
value_field (value.I32 n) = plain_i32 n
value_field (value.I64 n) = plain_i64 n
value_field (value.Text bytes) = plain_text bytes

-- one field behind another
abbrev pub pair_field : {A B : Type 0} → (A → List ℕ) → (B → List ℕ) → A × B → List ℕ
pair_field first second pair = first pair.0 ++ second pair.1

-- both are fields
abbrev pub IsPair : {A B : Type 0} → (A → Type 0) → (B → Type 0) → A × B → Type 0
IsPair IsFirst IsSecond pair = IsFirst pair.0 × IsSecond pair.1
