-- The two parts of a pair, as a flush writes them, and what holds of a flush that is out.
use Rattle.std.specs.Prelude.{◌≡◌, ◌≢◌, ℕ, List, [], ◌∷◌, ◌++◌, Option, None, Some}
use Rattle.std.specs.List.{AllByRecursion as Each, AllZip}
use Rattle.tsdb_base.specs.declared.ids.FileNumber.{FileNumber}
use Rattle.tsdb_base.specs.declared.ids.SeriesId.{SeriesId}
use Rattle.tsdb_base.specs.declared.ids.Space.{Space}
use Rattle.tsdb_base.specs.declared.ids.Space.TheVariants.{Sequence, Unsequence}
use Rattle.tsdb_base.specs.declared.point.Point.{Point}
use Rattle.tsdb_base.specs.Values.{type_of}
use Rattle.tsdb_path.specs.Order.{AreNamesBefore}
use Rattle.tsdb_base.specs.Lists.{EachPair}
use Rattle.tsdb_model.specs.Commands.{IsSchema}
use Rattle.tsdb_model.specs.declared.command.Schema.{Schema}
use Rattle.tsdb_memtable.specs.Pairs.{Pair, points_of}
use Rattle.tsdb_path.specs.Nodes.{device_of, measurement_of}
use Rattle.tsfile_writer.specs.BuilderInput.{GivenSeries}

-- a series that has points in a part, with them
pub record Filled : Type 0 where
  pub schema : Schema
  pub points : List Point

-- the series with its points, where it has any
abbrev pub if_any : Schema → List Point → List Filled
if_any schema [] = []
if_any schema (point ∷ points) = record { schema = schema; points = point ∷ points } ∷ []

-- the series that have points in the space, each schema with the points of the number at its place
abbrev pub filled_part : Space → Pair → List Schema → List SeriesId → List Filled
filled_part space pair [] numbers = []
filled_part space pair (schema ∷ schemas) [] = []
filled_part space pair (schema ∷ schemas) (number ∷ numbers) =
    if_any schema (points_of space number.0 pair) ++ filled_part space pair schemas numbers

-- the names by which a tree is ordered
abbrev pub schema_names : Schema → List ℕ × List ℕ
schema_names schema = (device_of schema.path, measurement_of schema.path)

-- the series as a builder is given it
abbrev pub builder_series : Filled → GivenSeries
builder_series filled = record {
  device = device_of filled.schema.path;
  measurement = measurement_of filled.schema.path;
  data_type = filled.schema.data_type;
  encoding = filled.schema.encoding;
  points = filled.points;
}

-- the points of the number are of the schema's type, in both spaces
abbrev pub HasPointsOfType : Pair → Schema → SeriesId → Type 0
HasPointsOfType pair schema number =
    (space : Space) → Each (λ point. type_of point.value ≡ schema.data_type) (points_of space number.0 pair)

-- a number is drawn for a part exactly where it has a point
abbrev pub IsNumberDrawnFor : Option FileNumber → List Filled → Type 0
IsNumberDrawnFor None part = part ≡ []
IsNumberDrawnFor (Some number) part = part ≢ []

-- a flush that is out: schemas are well-formed and in the order of a tree, each with the points of its type, and a
-- number is drawn for each part that has a point
pub record IsFormedFlush (pair : Pair) (schemas : List Schema) (numbers : List SeriesId)
    (sequence unsequence : Option FileNumber)
    : Type 0 where
  pub formed : Each IsSchema schemas
  pub rising : EachPair (λ a b. AreNamesBefore (schema_names a) (schema_names b)) schemas
  pub typed : AllZip (HasPointsOfType pair) schemas numbers
  pub sequence_drawn : IsNumberDrawnFor sequence (filled_part Sequence pair schemas numbers)
  pub unsequence_drawn : IsNumberDrawnFor unsequence (filled_part Unsequence pair schemas numbers)
