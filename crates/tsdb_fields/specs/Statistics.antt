-- The bytes of statistics, whose type is known from elsewhere.
use Rattle.std.specs.Prelude.{◌≡◌, ℕ, ℤ, ◌<◌, ◌^◌, Bool, true, false, ◌&&◌, List, [], ◌++◌, Option, None, Some, FitsSigned}
use Rattle.std.specs.Int.{w64, w128}
use Rattle.tsdb_base.specs.declared.point.Stats.{Stats}
use Rattle.tsdb_base.specs.declared.value.DataType.{DataType}
use Rattle.tsdb_base.specs.declared.value.DataType.TheVariants.{Boolean, Int32, Int64, Text}
use Rattle.tsdb_base.specs.declared.value.Value.{Value}
use Rattle.tsdb_base.specs.Fields.{number64, value_field}
use Rattle.tsdb_base.specs.Plain.{plain_i64, plain_i128}
use Rattle.tsdb_base.specs.Values.{IsValueOf}

-- a value that may be missing, which then has no bytes
abbrev pub optional_field : Option Value → List ℕ
optional_field None = []
optional_field (Some value) = value_field value

-- a sum that may be missing
abbrev pub optional_sum : Option ℤ → List ℕ
optional_sum None = []
optional_sum (Some sum) = plain_i128 sum

-- the number of points, the first and the last time, the first and the last value, the least, the greatest and the sum
abbrev pub stats_field : Stats → List ℕ
stats_field stats = (number64 stats.count ++ plain_i64 stats.start ++ plain_i64 stats.end)
    ++ (value_field stats.first ++ value_field stats.last)
    ++ (optional_field stats.least ++ optional_field stats.greatest ++ optional_sum stats.sum)

-- whether values of the type have a least and a greatest one
abbrev pub is_numeric : DataType → Bool
is_numeric Boolean = false
is_numeric Int32 = true
is_numeric Int64 = true
is_numeric Text = false

-- the least or the greatest value of a type: it is there exactly for numbers
abbrev pub IsExtremeOf : DataType → Option Value → Type 0
IsExtremeOf data_type None = is_numeric data_type ≡ false
IsExtremeOf data_type (Some value) = (is_numeric data_type ≡ true) × IsValueOf data_type value

-- a sum that is there or not
abbrev pub IsSumIf : Bool → Option ℤ → Type 0
IsSumIf there None = there ≡ false
IsSumIf there (Some sum) = (there ≡ true) × FitsSigned w128 sum

-- statistics of values of this type; those of numbers have a sum or not
pub record IsStatsOf (sums : Bool) (data_type : DataType) (stats : Stats) : Type 0 where
  pub count : stats.count < 2 ^ 64
  pub start : FitsSigned w64 stats.start
  pub end : FitsSigned w64 stats.end
  pub first : IsValueOf data_type stats.first
  pub last : IsValueOf data_type stats.last
  pub least : IsExtremeOf data_type stats.least
  pub greatest : IsExtremeOf data_type stats.greatest
  pub sum : IsSumIf (sums && is_numeric data_type) stats.sum
