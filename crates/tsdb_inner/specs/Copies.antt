-- One series of a compaction: the points that its sources have and marks leave.
use Rattle.std.specs.Prelude.{◌≡◌, ◌-◌, ◌^◌, pos, negsuc, List, ◌++◌, All, Option, Some, map}
use Rattle.std.specs.List.{AllByRecursion as Each}
use Rattle.tsdb_base.specs.Values.{type_of}
use Rattle.tsdb_base.specs.declared.point.Point.{Point}
use Rattle.tsdb_base.specs.declared.point.Range.{Range}
use Rattle.tsdb_streams.specs.Files.{FilePages}
use Rattle.tsdb_streams.specs.KeptPoints.{is_kept}
use Rattle.tsdb_streams.specs.Lanes.{source_left}
use Rattle.tsdb_streams.specs.Streams.{AreTrueSources}
use Rattle.tsdb_streams.specs.declared.source.StreamSource.{StreamSource}
use Rattle.tsdb_flush.specs.Making.{IsPartInMaking}
use Rattle.tsdb_flush.specs.MakingSteps.{ComeBefore}
use Rattle.tsdb_flush.specs.declared.part.PartBuilder.{PartBuilder}
use Rattle.tsdb_flush.specs.Parts.{Filled, if_any}
use Rattle.tsdb_model.specs.declared.command.Schema.{Schema}
use Rattle.tsdb_marks.specs.declared.marks.Mark.{Mark}
use Rattle.tsdb_base.specs.Points.{IsRising}
use Rattle.tsdb_merge.specs.Winners.{IsMergeOf}
use Rattle.tsdb_outside.specs.Files.{NamedFile}

-- all times
abbrev pub all_times : Range
all_times = record { from = negsuc (2 ^ 63 - 1); to = pos (2 ^ 63 - 1) }

-- the points are of the series' type
abbrev pub AreOfType : Schema → List Point → Type 0
AreOfType schema points = Each (λ point. type_of point.value ≡ schema.data_type) points

-- the series was added with these points, if it has any
pub record Adds (schema : Schema) (points : List Point) (old new : PartBuilder) : Type 0 where
  pub ok : (part : List Filled) → IsPartInMaking part old → ComeBefore part schema
      → IsPartInMaking (part ++ if_any schema points) new

-- where a list is told, these are its points
abbrev pub AreToldPoints : Option (List Point) → List Point → Type 0
AreToldPoints left points = (all : List Point) → left ≡ Some all → points ≡ all

module _ {R : Type 0} (file : R → NamedFile) (schema : Schema) (marks : List Mark)
    (sources : List (StreamSource R)) where
  -- where it is told what the sources have, these are the points of the series that marks leave of each
  abbrev pub Survive : FilePages → List (List Point) → Type 0
  Survive pages lists = AreTrueSources file schema.path pages sources
      × (map (source_left file pages (is_kept schema.path all_times marks)) sources ≡ map Some lists)
      × All IsRising lists

  -- the series was added with points in order of time; where all is told, at each time with that of the last source
  pub record Copies (old new : PartBuilder) : Type 0 where
    pub points : List Point
    pub adds : Adds schema points old new
    pub rising : IsRising points
    pub winners : (pages : FilePages) (lists : List (List Point)) → Survive pages lists → IsMergeOf lists points

  -- a point that survives is not of the series' type
  pub record AreDamaged : Type 0 where
    pub ok : (pages : FilePages) (lists : List (List Point)) → Survive pages lists
        → (points : List Point) × IsMergeOf lists points × (AreOfType schema points → ⊥)
