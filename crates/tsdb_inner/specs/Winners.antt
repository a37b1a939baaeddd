-- The winners of one series of a job.
use Rattle.std.specs.Prelude.{◌≡◌, ◌≢◌, ℕ, ℤ, List, Some}
use Rattle.std.specs.List.{AllByRecursion as Each}
use Rattle.tsdb_base.specs.declared.point.Point.{Point}
use Rattle.tsdb_base.specs.declared.value.Value.{Value}
use Rattle.tsdb_flush.specs.BuiltParts.{IsFilledSeries}
use Rattle.tsdb_compactions.specs.Outputs.{TellsInputs, winner}
use Rattle.tsdb_compactions.specs.declared.job.Job.{Job}
use Rattle.tsdb_flush.specs.declared.part.PartBuilder.{PartBuilder}
use Rattle.tsdb_inner.specs.Copies.{Adds}
use Rattle.tsdb_flush.specs.Parts.{Filled}
use Rattle.tsdb_base.specs.Lists.{Among, EachPair}
use Rattle.tsdb_model.specs.declared.command.Schema.{Schema}
use Rattle.tsdb_base.specs.Points.{IsRising}
use Rattle.tsdb_outside.specs.Files.{NamedFile}
use Rattle.tsdb_streams.specs.Survivors.{place_at}
use Rattle.tsdb_state.specs.State.{ToldContents}

-- each series has a device and points in order of time, and no two have one path
pub record AreSeries (part : List Filled) : Type 0 where
  pub each : Each IsFilledSeries part
  pub differ : EachPair (λ a b. a.schema.path ≢ b.schema.path) part

-- these are the points of the winners of the series
pub record AreWinnersOfJob {F S R P : Type 0} (told : ToldContents) (job : Job F S R P) (path : List ℕ)
    (points : List Point)
    : Type 0 where
  pub are : Each (λ point. winner told job (place_at path point.time) ≡ Some point.value) points
  pub all : (time : ℤ) (value : Value) → winner told job (place_at path time) ≡ Some value
      → Among (record { time = time; value = value }) points

-- the series was added with the winners of the job, in order of time
pub record CopiesSeries {F S R P : Type 0} (name : R → NamedFile) (job : Job F S R P) (schema : Schema)
    (old new : PartBuilder)
    : Type 0 where
  pub points : List Point
  pub adds : Adds schema points old new
  pub rising : IsRising points
  pub winners : (told : ToldContents) → TellsInputs name told job → AreWinnersOfJob told job schema.path points
