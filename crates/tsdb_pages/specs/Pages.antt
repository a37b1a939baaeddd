-- The points of a page, and the bytes of its body.
use Rattle.std.specs.Prelude.{◌≡◌, ℕ, ℤ, ◌<◌, ◌≤◌, List, ◌++◌, length, map, All, FitsSigned}
use Rattle.std.specs.Int.{w64}
use Rattle.tsdb_base.specs.Points.{IsRising}
use Rattle.tsdb_base.specs.declared.point.Point.{Point}
use Rattle.tsdb_base.specs.declared.value.DataType.{DataType}
use Rattle.tsdb_base.specs.declared.value.Encoding.{Encoding}
use Rattle.tsdb_base.specs.declared.value.Value.{Value}
use Rattle.tsdb_base.specs.Fields.{number32}
use Rattle.tsdb_base.specs.Limits.{max_values}
use Rattle.tsdb_base.specs.Values.{type_of, IsValue}
use Rattle.enc_ts2diff.specs.Spelling as ts2diff
use Rattle.tsdb_pages.specs.ListSpelling.{spelling}

-- the points of one page of this type: 1 to 1,000, in order of time
pub record ArePoints (data_type : DataType) (points : List Point) : Type 0 where
  pub some : 0 < length points
  pub few : length points ≤ max_values
  pub typed : All (λ point. type_of point.value ≡ data_type) points
  pub rising : IsRising points

-- a time of 64 bits, and a number or a text that the value's type has
abbrev pub IsInRange : Point → Type 0
IsInRange point = FitsSigned w64 point.time × IsValue point.value

abbrev pub times_of : List Point → List ℤ
times_of points = map (λ point. point.time) points

abbrev pub values_of : List Point → List Value
values_of points = map (λ point. point.value) points

-- the times of a page, in TS_2DIFF
abbrev pub times_field : List Point → List ℕ
times_field points = ts2diff.spelling (times_of points)

-- the body of a page: the length of the times, the times, and the values in the chunk's encoding
abbrev pub body : Encoding → List Point → List ℕ
body encoding points =
    number32 (length (times_field points)) ++ times_field points ++ spelling encoding (values_of points)
