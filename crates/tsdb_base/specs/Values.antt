-- The type of a value, what its bytes can hold, which encodings suit a type, and which aggregates need numbers.
use Rattle.std.specs.Prelude.{◌≡◌, Bool, true, false, FitsSigned}
use Rattle.std.specs.Int.{w32, w64}
use Rattle.tsdb_base.specs.Plain.{IsText}
use Rattle.tsdb_base.specs.declared.answers.Aggregate.{Aggregate}
use Rattle.tsdb_base.specs.declared.answers.Aggregate.TheVariants.{MinValue, MaxValue, Sum}
use Rattle.tsdb_base.specs.declared.value.DataType.{DataType}
use Rattle.tsdb_base.specs.declared.value.DataType.TheVariants.{Boolean, Int32, Int64, Text as TextType}
use Rattle.tsdb_base.specs.declared.value.Encoding.{Encoding}
use Rattle.tsdb_base.specs.declared.value.Encoding.TheVariants.{Plain, Dictionary, Rle, Ts2diff}
use Rattle.tsdb_base.specs.declared.value.Value.{Value}
use Rattle.tsdb_base.specs.declared.value.Value.TheVariants as value

-- the type that a value has
abbrev pub type_of : Value → DataType
type_of (value.Bool b) = Boolean
type_of (value.I32 n) = Int32
type_of (value.I64 n) = Int64
type_of (value.Text bytes) = TextType

-- a value that its bytes can hold
abbrev pub IsValue : Value → Type 0
IsValue (value.Bool b) = Unit {0}
IsValue (value.I32 n) = FitsSigned w32 n
IsValue (value.I64 n) = FitsSigned w64 n
IsValue (value.Text bytes) = IsText bytes

-- a value of this type
pub record IsValueOf (data_type : DataType) (value : Value) : Type 0 where
  pub typed : type_of value ≡ data_type
  pub fits : IsValue value

-- every type may be written plainly, runs are of booleans and numbers, differences of numbers,
-- and a dictionary of texts
abbrev pub is_suitable : DataType → Encoding → Bool
is_suitable t Plain = true
is_suitable Boolean Rle = true
is_suitable Int32 Rle = true
is_suitable Int64 Rle = true
is_suitable Int32 Ts2diff = true
is_suitable Int64 Ts2diff = true
is_suitable TextType Dictionary = true
is_suitable t encoding = false

-- only numbers have a least and a greatest value, and a sum
abbrev pub needs_numbers : Aggregate → Bool
needs_numbers MinValue = true
needs_numbers MaxValue = true
needs_numbers Sum = true
needs_numbers aggregate = false
