-- The series of a pair, as the code gathers them. No public clause speaks of these.
use Rattle.std.specs.Prelude.{◌≡◌, ◌+◌, ◌==◌, ℕ, Bool, true, false, not, List, ◌∷◌, Option, None, Some}
use Rattle.std.specs.Prelude.{length, map, slice_get}
use Rattle.std.specs.List.{AllByRecursion as Each, list_any}
use Rattle.tsdb_base.specs.declared.ids.FileNumber.{FileNumber}
use Rattle.tsdb_base.specs.declared.ids.SeriesId.{SeriesId}
use Rattle.tsdb_base.specs.declared.ids.Space.{Space}
use Rattle.tsdb_base.specs.declared.ids.Space.TheVariants.{Sequence, Unsequence}
use Rattle.tsdb_base.specs.declared.point.Point.{Point}
use Rattle.tsdb_flush.specs.Taking.{HasPairPoint}
use Rattle.tsdb_flush.specs.declared.series.PairSeries.{PairSeries}
use Rattle.tsdb_flush.specs.Parts.{schema_names}
use Rattle.tsdb_base.specs.Lists.{Among}
use Rattle.tsdb_model.specs.declared.command.Schema.{Schema}
use Rattle.tsdb_memory.specs.Model.{frozen_in}
use Rattle.tsdb_memory.specs.StateOfMemory.{number_of}
use Rattle.tsdb_memory.specs.Store as store
use Rattle.tsdb_memory.specs.declared.store.FrozenPair.{FrozenPair}
use Rattle.tsdb_memtable.specs.Pairs.{Pair, points_of}
use Rattle.tsdb_base.specs.Points.{IsRising}

-- each series has its path alone
abbrev pub HasNumbers : List Schema → Type 0
HasNumbers series = (number : ℕ) (schema : Schema) → slice_get series number ≡ Some schema
    → number_of series schema.path ≡ Some number

-- the schema of the series
abbrev pub schema_in : PairSeries → Schema
schema_in series = record {
  path = series.path.now;
  data_type = series.data_type;
  encoding = series.encoding;
}

-- the names by which a tree is ordered, as they lie in the path
abbrev pub pair_names : PairSeries → List ℕ × List ℕ
pair_names series = (series.names.0.now, series.names.1.now)

-- its points in the space, and whether there are any
abbrev pub pair_points_in : Space → PairSeries → List Point
pair_points_in Sequence series = series.sequence.now
pair_points_in Unsequence series = series.unsequence.now

abbrev pub has_points : Space → PairSeries → Bool
has_points space series = not (length (pair_points_in space series) == 0)

-- the series is that of its number in memory, with its points in the pair, which are in order of time
pub record IsSeriesOf (all : List Schema) (pair : Pair) (series : PairSeries) : Type 0 where
  pub schema : slice_get all series.id.0 ≡ Some (schema_in series)
  pub names : pair_names series ≡ schema_names (schema_in series)
  pub points : (space : Space) → pair_points_in space series ≡ points_of space series.id.0 pair
  pub rising : (space : Space) → IsRising (points_of space series.id.0 pair)

-- these are the numbers of the series that have a point, maybe some of them twice
pub record AreNumbersOf (pair : Pair) (numbers : List SeriesId) : Type 0 where
  pub filled : Each (HasPairPoint pair) numbers
  pub whole : (number : SeriesId) → HasPairPoint pair number → Among number numbers

-- these are the series that have a point, maybe some of them twice
pub record AreSeriesOf (all : List Schema) (pair : Pair) (series : List PairSeries) : Type 0 where
  pub each : Each (IsSeriesOf all pair) series
  pub numbers : AreNumbersOf pair (map (λ one. one.id) series)

-- a number is drawn exactly where one of the series has a point in the space: the next one, which rises then
abbrev pub IsDraw : Space → List PairSeries → ℕ → ℕ → Option FileNumber → Type 0
IsDraw space series old new None = (new ≡ old) × (list_any (has_points space) series ≡ false)
IsDraw space series old new (Some file) =
    (file.0 ≡ old) × (new ≡ old + 1) × (list_any (has_points space) series ≡ true)

-- it is the oldest of these frozen pairs
pub record IsOldestFrozen (frozen : List store.FrozenPair) (oldest : FrozenPair) : Type 0 where
  pub newer : List store.FrozenPair
  pub are : frozen ≡ frozen_in oldest ∷ newer
