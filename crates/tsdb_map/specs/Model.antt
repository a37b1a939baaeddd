-- What the ordered maps of the program stand for in the plain model.
use Rattle.std.specs.Prelude.{◌≡◌, ℕ, ℤ, ◌+ℤ◌, false, List, Option, None, Some, map, flat_map, All, ◌==◌}
use Rattle.std.proofs.Common.{ap}
use Rattle.std.specs.BTreeMap.{BTreeMap, IsOrdered, keys, values}
use Rattle.std.specs.Ordering.{nat_cmp}
use Rattle.std.specs.Cmp.Lexicographic.{slice_cmp}
use Rattle.std.specs.Coded.{coded_list, coded_ℕ, coded_ℤ}
use Rattle.std.specs.FinMap.{from_entries, remove}
use Rattle.std.specs.FinMap as finite
use Rattle.tsdb_base.specs.declared.value.DataType.{DataType}
use Rattle.tsdb_base.specs.declared.value.Value.{Value}
use Rattle.tsdb_base.specs.declared.point.Point.{Point}
use Rattle.tsdb_model.specs.World.{PointMap, Series, World, put}
use Rattle.tsdb_path.specs.Nodes.{child_of, dot}
use base.Stored.{Coded, coded×, coded_via}

-- a series, from its type and its ordered map
abbrev pub series_view : DataType → BTreeMap ℤ Value → Series
series_view data_type points = record { data_type = data_type; points = from_entries points.entries }

abbrev pub parts_of : Series → DataType × PointMap
parts_of series = (series.data_type, series.points)

pub same_series : (a b : Series) → parts_of a ≡ parts_of b → a ≡ b
same_series a b e = ap (λ (p : DataType × PointMap). record { data_type = p.0; points = p.1 }) e

abbrev pub series_code : Coded DataType → Coded Value → Coded Series
series_code data_type value = coded_via (coded× data_type (finite.code coded_ℤ value)) parts_of same_series

abbrev pub world_code : Coded Series → Coded World
world_code series = finite.code (coded_list coded_ℕ) series

-- the series of a device, by their paths
abbrev pub device_entries : List ℕ × BTreeMap (List ℕ) Series → List (List ℕ × Series)
device_entries device = map (λ entry. (child_of device.0 entry.0, entry.1)) device.1.entries

-- the series of all devices
abbrev pub world_of : List (List ℕ × BTreeMap (List ℕ) Series) → World
world_of devices = from_entries (flat_map device_entries devices)

-- no dot stands in a name, so that a path is of one device and one measurement
abbrev pub IsDotless : List ℕ → Type 0
IsDotless name = All (λ byte. (byte == dot) ≡ false) name

-- devices in their order, with names that have no dot
pub record AreOrderedDevices (devices : BTreeMap (List ℕ) (BTreeMap (List ℕ) Series)) : Type 0 where
  pub ordered : IsOrdered (slice_cmp nat_cmp) devices
  pub dotless : All (λ names. All IsDotless (keys names)) (values devices)

-- at a time stands this value, or nothing
abbrev pub set_at : ℤ → Option Value → Series → Series
set_at time None series = record { data_type = series.data_type; points = remove series.points time }
set_at time (Some value) series = put time value series

-- the entries of a map of points, as points
abbrev pub points_of_entries : List (ℤ × Value) → List Point
points_of_entries entries = map (λ entry. record { time = entry.0; value = entry.1 }) entries

-- the best number so far, after one more value: a value that is none is passed over
abbrev pub better : (Value → Value → Value) → Option ℤ → Option Value → Value → Option Value
better choose None best value = best
better choose (Some number) None value = Some value
better choose (Some number) (Some best) value = Some (choose best value)

-- the sum so far and one more number
abbrev pub add_number : Option ℤ → Option ℤ → Option ℤ
add_number sum None = sum
add_number None (Some number) = Some number
add_number (Some sum) (Some number) = Some (sum +ℤ number)
