-- What the words of a statement must be, and what the statement then says.
use Rattle.std.specs.Prelude.{◌≡◌, ◌↔◌, ◌⊎◌, ℕ, ℤ, pos, negsuc, ◌≤◌, ◌≤ℤ◌, ◌<ℤ◌, FitsSigned, true, false, All, List, []}
use Rattle.std.specs.Prelude.{◌∷◌, ◌++◌, Option, None, Some, length, map, codes}
use Rattle.std.specs.Int.{w64}
use Rattle.std.specs.List.{AllByRecursion, AllZip, flat_map}
use Rattle.std.specs.Option.{IsSome}
use Rattle.std.specs.Str.Parse.{IsNumeral, without_leading_sign, signed_digits_value}
use Rattle.tsdb_script.specs.Types.{Aggregate, SyntaxColumn, Command, Comparison, Condition, DataType, Encoding, Item}
use Rattle.tsdb_script.specs.Types.{Literal, Operand, Range, Syntax}
use Rattle.tsdb_base.specs.Notation.{aggregate_name}
use Rattle.tsdb_base.specs.declared.value.DataType.TheVariants as type
use Rattle.tsdb_base.specs.declared.value.Encoding.TheVariants as encoding
use Rattle.tsdb_model.specs.declared.command.Command.TheVariants as command
use Rattle.tsdb_model.specs.declared.command.Literal.TheVariants as literal
use Rattle.tsdb_script.specs.declared.syntax.Operand.TheVariants as operand
use Rattle.tsdb_base.specs.Values.{is_suitable}
use Rattle.tsdb_model.specs.Commands.{AreDifferent, IsDevice, IsSeries}
use Rattle.tsdb_base.specs.Limits.{max_names}
use Rattle.tsdb_model.specs.World.{is_in}
use Rattle.tsdb_path.specs.Nodes.{IsName, IsPath, child_of}
use Rattle.tsdb_script.specs.declared.syntax.Comparison.TheVariants.{Less, LessEqual, Greater, GreaterEqual, Equal}
use Rattle.tsdb_script.specs.declared.syntax.Syntax.TheVariants.{Create, Insert, Delete, Select, Flush, CompactInner}
use Rattle.tsdb_script.specs.declared.syntax.Syntax.TheVariants.{CompactCross, ShowFiles}
use Rattle.tsdb_script.specs.Tokens.{is_keyword}

-- ---- words

-- an integer of 64 bits: a sign or none, and one or more digits
pub record IsInteger (word : List ℕ) (number : ℤ) : Type 0 where
  pub digits : IsNumeral 10 (without_leading_sign word)
  pub value : number ≡ signed_digits_value 10 word
  pub fits : FitsSigned w64 number

-- a word is this name, in any ASCII case
abbrev pub SpellsName : List ℕ → List ℕ → Type 0
SpellsName word name = is_keyword word name ≡ true

-- the name of a type
abbrev pub type_name : DataType → List ℕ
type_name type.Boolean = codes "boolean"
type_name type.Int32 = codes "int32"
type_name type.Int64 = codes "int64"
type_name type.Text = codes "text"

-- the name of an encoding
abbrev pub encoding_name : Encoding → List ℕ
encoding_name encoding.Plain = codes "plain"
encoding_name encoding.Dictionary = codes "dictionary"
encoding_name encoding.Rle = codes "rle"
encoding_name encoding.Ts2diff = codes "ts_2diff"

-- a value: a text, `true` or `false` in any ASCII case, or an integer
abbrev pub IsLiteral : Operand → Literal → Type 0
IsLiteral (operand.Text content) (literal.Text text) = text ≡ content
IsLiteral (operand.Word word) (literal.Bool true) = SpellsName word (codes "true")
IsLiteral (operand.Word word) (literal.Bool false) = SpellsName word (codes "false")
IsLiteral (operand.Word word) (literal.Int number) = IsInteger word number
IsLiteral operand literal = ⊥

-- ---- what each word must be (the objections of kinds 4, 5 and 8)

-- a word in its place in a statement
pub data Role : Type 0 where
  -- the path of a series
  SeriesPath : List ℕ → Role
  -- the path of a device
  DevicePath : List ℕ → Role
  -- a measurement of this device
  Measurement : List ℕ → List ℕ → Role
  -- a measurement, whose device stands behind it
  Node : List ℕ → Role
  -- the path of the device of these measurements
  DeviceOf : List (List ℕ) → List ℕ → Role
  -- an integer
  Number : List ℕ → Role
  -- a value
  Scalar : Operand → Role
  -- the name of a type
  TypeName : List ℕ → Role
  -- the name of an encoding for the type of this name
  EncodingName : List ℕ → List ℕ → Role
  -- the name of an aggregate
  AggregateName : List ℕ → Role

-- the word is what its place asks for
abbrev pub IsGood : Role → Type 0
IsGood (SeriesPath word) = IsPath word × IsSeries word
IsGood (DevicePath word) = IsPath word × IsDevice word
IsGood (Measurement device word) = IsName word × IsPath (child_of device word)
IsGood (Node word) = IsName word
IsGood (DeviceOf names word) = IsPath word × IsDevice word × AllByRecursion (λ name. IsPath (child_of word name)) names
IsGood (Number word) = (number : ℤ) × IsInteger word number
IsGood (Scalar operand) = (literal : Literal) × IsLiteral operand literal
IsGood (TypeName word) = (data_type : DataType) × SpellsName word (type_name data_type)
IsGood (EncodingName type word) = (encoding : Encoding) × SpellsName word (encoding_name encoding)
    × ((data_type : DataType) → SpellsName type (type_name data_type) → is_suitable data_type encoding ≡ true)
IsGood (AggregateName word) = (aggregate : Aggregate) × SpellsName word (aggregate_name aggregate)

-- the kind of the fault where it isn't
abbrev pub kind_of : Role → ℕ
kind_of (Number word) = 5
kind_of (Scalar operand) = 5
kind_of (TypeName word) = 8
kind_of (EncodingName type word) = 8
kind_of (AggregateName word) = 8
kind_of path_or_name = 4

-- the word is not what its place asks for, which is a fault of this kind
abbrev pub IsBadWord : Role → ℕ → Type 0
IsBadWord role kind = (¬ IsGood role) × (kind ≡ kind_of role)

abbrev pub condition_roles : List Condition → List Role
condition_roles conditions = map (λ condition. Number condition.number) conditions

abbrev pub aggregate_role : Option (List ℕ) → List Role
aggregate_role None = []
aggregate_role (Some word) = AggregateName word ∷ []

abbrev pub column_role : SyntaxColumn → List Role
column_role column = aggregate_role column.aggregate ++ Node column.measurement ∷ []

-- the words of a statement, from the left
abbrev pub roles : Syntax → List Role
roles (Create path data_type encoding) = SeriesPath path ∷ TypeName data_type ∷ EncodingName data_type encoding ∷ []
roles (Insert device names time values) = DevicePath device
    ∷ (map (Measurement device) names ++ Number time ∷ map Scalar values)
roles (Delete path conditions) = SeriesPath path ∷ condition_roles conditions
roles (Select columns device conditions) = flat_map column_role columns
    ++ DeviceOf (map (λ column. column.measurement) columns) device ∷ condition_roles conditions
roles syntax = []

-- the first word that is not what its place asks for decides the kind
pub record HasBadWord (words : List Role) (kind : ℕ) : Type 0 where
  pub before : List Role
  pub word : Role
  pub behind : List Role
  pub stands : words ≡ before ++ word ∷ behind
  pub good : AllByRecursion IsGood before
  pub bad : ¬ IsGood word
  pub decides : kind ≡ kind_of word

-- ---- the whole statement (the objections of kind 7)

-- at most 1,000 names, all different, each with a value
pub record ArePaired {A : Type 0} (names : List (List ℕ)) (values : List A) : Type 0 where
  pub few : length names ≤ max_names
  pub each : length names ≡ length values
  pub different : AreDifferent names

-- at most 1,000 items, all with or all without an aggregate
pub record AreColumnsAlike (columns : List SyntaxColumn) : Type 0 where
  pub few : length columns ≤ max_names
  pub alike : All (λ column. column.aggregate ≡ None) columns ⊎ All (λ column. IsSome column.aggregate) columns

abbrev pub IsBalanced : Syntax → Type 0
IsBalanced (Insert device names time values) = ArePaired names values
IsBalanced (Select columns device conditions) = AreColumnsAlike columns
IsBalanced syntax = Unit {0}

-- ---- what a statement says

-- a time is so to a number
abbrev pub Compares : Comparison → ℤ → ℤ → Type 0
Compares Less time number = time <ℤ number
Compares LessEqual time number = time ≤ℤ number
Compares Greater time number = number <ℤ time
Compares GreaterEqual time number = number ≤ℤ time
Compares Equal time number = time ≡ number

-- a time meets a condition: it compares so to the number that the condition writes
abbrev pub MeetsCondition : ℤ → Condition → Type 0
MeetsCondition time condition = Compares condition.comparison time (signed_digits_value 10 condition.number)

-- the least and the greatest time
abbrev pub first_time : ℤ
first_time = negsuc 9223372036854775807

abbrev pub last_time : ℤ
last_time = pos 9223372036854775807

-- The range has exactly the times of 64 bits that meet all conditions. No time is the range from the greatest to the least.
pub record IsRangeOf (conditions : List Condition) (range : Range) : Type 0 where
  pub times : (time : ℤ) → FitsSigned w64 time
      → (is_in range time ≡ true) ↔ AllByRecursion (MeetsCondition time) conditions
  pub from : FitsSigned w64 range.from
  pub to : FitsSigned w64 range.to
  pub form : (range.from ≤ℤ range.to) ⊎ ((range.from ≡ last_time) × (range.to ≡ first_time))

-- the word names the aggregate, where there is one
abbrev pub NamesAggregate : Option (List ℕ) → Option Aggregate → Type 0
NamesAggregate None None = Unit {0}
NamesAggregate (Some word) (Some aggregate) = SpellsName word (aggregate_name aggregate)
NamesAggregate word aggregate = ⊥

abbrev pub IsItem : SyntaxColumn → Item → Type 0
IsItem column item = (item.measurement ≡ column.measurement) × NamesAggregate column.aggregate item.aggregate

-- a statement says a command
abbrev pub Says : Syntax → Command → Type 0
Says (Create path data_type encoding) (command.Create schema) =
    (schema.path ≡ path) × SpellsName data_type (type_name schema.data_type)
    × SpellsName encoding (encoding_name schema.encoding)
Says (Insert device names time values) (command.Insert its_device row) =
    (its_device ≡ device) × IsInteger time row.time
    × (map (λ cell. cell.measurement) row.cells ≡ names) × AllZip IsLiteral values (map (λ cell. cell.value) row.cells)
Says (Delete path conditions) (command.Delete series range) = (series ≡ path) × IsRangeOf conditions range
Says (Select columns device conditions) (command.Select its_device items range) =
    (its_device ≡ device) × AllZip IsItem columns items × IsRangeOf conditions range
Says Flush command.Flush = Unit {0}
Says (CompactInner space) (command.CompactInner its_space) = its_space ≡ space
Says CompactCross command.CompactCross = Unit {0}
Says ShowFiles command.ShowFiles = Unit {0}
Says syntax command = ⊥

-- nothing is objected to the statement, and it says this command
pub record Means (syntax : Syntax) (command : Command) : Type 0 where
  pub words : AllByRecursion IsGood (roles syntax)
  pub balanced : IsBalanced syntax
  pub says : Says syntax command

-- what is objected to the statement: its first bad word, or else the whole
abbrev pub Objects : Syntax → ℕ → Type 0
Objects syntax kind = HasBadWord (roles syntax) kind
    ⊎ (AllByRecursion IsGood (roles syntax) × (¬ IsBalanced syntax) × (kind ≡ 7))
