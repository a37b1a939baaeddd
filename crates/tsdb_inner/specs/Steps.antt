-- Private steps: points that are put behind the first point of a series.
use Rattle.std.specs.Prelude.{◌≡◌, ℤ, ◌<ℤ◌, List, [], ◌∷◌, ◌++◌, Option, Some}
use Rattle.tsdb_base.specs.Values.{type_of}
use Rattle.tsdb_base.specs.declared.point.Point.{Point}
use Rattle.tsdb_flush.specs.Making.{IsSeriesOpen, IsPartInMaking}
use Rattle.tsdb_flush.specs.MakingSteps.{filled_with}
use Rattle.tsdb_flush.specs.declared.part.PartBuilder.{PartBuilder}
use Rattle.tsdb_inner.specs.Copies.{AreOfType}
use Rattle.tsdb_flush.specs.Parts.{Filled}
use Rattle.tsdb_model.specs.declared.command.Schema.{Schema}
use Rattle.tsdb_base.specs.Points.{IsRising}

-- the point is later than the time, and of the series' type
abbrev pub MayFollowPoint : ℤ → Schema → Point → Type 0
MayFollowPoint to schema point = (to <ℤ point.time) × (type_of point.value ≡ schema.data_type)

-- the series was begun, and given its first point, which has this time
pub record HasBegun (schema : Schema) (from : ℤ) (part : PartBuilder) : Type 0 where
  pub before : List Filled
  pub first : Point
  pub is : IsSeriesOpen before schema (first ∷ []) part
  pub at : first.time ≡ from

-- the series was given these points behind its first, which rise in time, and was ended
pub record PutsSeries (schema : Schema) (from : ℤ) (rest : List Point) (old new : PartBuilder) : Type 0 where
  pub ok : (before : List Filled) (first : Point) → first.time ≡ from → IsSeriesOpen before schema (first ∷ []) old
      → IsPartInMaking (before ++ filled_with schema (first ∷ rest) ∷ []) new
  pub rising : (first : Point) → first.time ≡ from → IsRising (first ∷ rest)

-- where a list is told, its points do not rise behind a first point, or one is not of the series' type
abbrev pub HaveBrokenOrder : Schema → ℤ → Option (List Point) → Type 0
HaveBrokenOrder schema from left = (all : List Point) (first : Point) → left ≡ Some all → first.time ≡ from
    → IsRising (first ∷ all) → AreOfType schema all → ⊥
