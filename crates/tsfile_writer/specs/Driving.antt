-- What the tests know of a builder that they drive.
use Rattle.std.specs.Prelude.{◌≡◌, ℕ, ◌<◌, List, [], ◌∷◌, ◌++◌, length}
use Rattle.tsdb_base.specs.declared.value.DataType.{DataType}
use Rattle.tsdb_base.specs.declared.value.Encoding.{Encoding}
use Rattle.tsdb_path.specs.Nodes.{device_of, measurement_of}
use Rattle.tsfile_writer.specs.declared.builder.Builder.{Builder}
use Rattle.tsfile_writer.specs.Building.{WasGiven}
use Rattle.tsfile_writer.specs.BuilderInput.{GivenSeries, given_series}

-- the last series is at this path and has no points
pub record IsBare (path : List ℕ) (data_type : DataType) (encoding : Encoding) (builder : Builder) : Type 0 where
  pub front : List GivenSeries
  pub was : WasGiven builder (front ++ given_series path data_type encoding ∷ [])

-- the last series is at this path and has a point
pub record HasLast (path : List ℕ) (builder : Builder) : Type 0 where
  pub front : List GivenSeries
  pub last : GivenSeries
  pub was : WasGiven builder (front ++ last ∷ [])
  pub some : 0 < length last.points
  pub device_is : last.device ≡ device_of path
  pub measurement_is : last.measurement ≡ measurement_of path
