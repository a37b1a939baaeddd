-- What a list of points has of a layer.
use Rattle.std.specs.Prelude.{◌≡◌, ◌↔◌, ℕ, ℤ, List, Contains, Some}
use Rattle.tsdb_base.specs.declared.point.Point.{Point}
use Rattle.tsdb_base.specs.declared.value.Value.{Value}
use Rattle.tsdb_state.specs.Layers.{Layer, survivor}
use Rattle.tsdb_state.specs.Places.{PointPlace}
use Rattle.tsdb_marks.specs.declared.marks.Mark.{Mark}

-- the place of a series at a time
abbrev pub place_at : List ℕ → ℤ → PointPlace
place_at path time = record { path = path; time = time }

-- the list has the points of the series that the marks leave of the layer, and nothing else
pub record AreSurvivors (marks : List Mark) (path : List ℕ) (layer : Layer) (points : List Point) : Type 0 where
  pub has : (time : ℤ) (value : Value) → Contains points (record { time = time; value = value })
      ↔ (survivor marks (place_at path time) layer ≡ Some value)
