-- Layers: contents that were born at a stamp, in the order of their priority, from the lowest to the highest.
use Rattle.std.specs.Prelude.{◌≡◌, ◌⊎◌, ℕ, cond, List, [], ◌∷◌, Option, Some, None}
use Rattle.std.specs.FinMap.{get}
use Rattle.std.specs.Option.{option_or}
use Rattle.tsdb_base.specs.declared.value.Value.{Value}
use Rattle.tsdb_marks.specs.declared.marks.Mark.{Mark}
use Rattle.tsdb_state.specs.Marks.{survives}
use Rattle.tsdb_state.specs.Places.{Content, PointPlace}

-- points that were written together, and the stamp at their freeze
pub record Layer : Type 0 where
  pub born : ℕ
  pub content : Content

-- the value of the layer at the place, where it has one that survives
abbrev pub survivor : List Mark → PointPlace → Layer → Option Value
survivor marks place layer = cond (survives marks place layer.born) (get layer.content place) None

-- the value at the place: that of the highest layer with a survivor there
abbrev pub value_in : List Mark → PointPlace → List Layer → Option Value
value_in marks place [] = None
value_in marks place (layer ∷ higher) = option_or (value_in marks place higher) (survivor marks place layer)

-- one of the layers has this value at the place, whether it survives or not
abbrev pub HasPoint : List Layer → PointPlace → Value → Type 0
HasPoint [] place value = ⊥
HasPoint (layer ∷ layers) place value = (get layer.content place ≡ Some value) ⊎ HasPoint layers place value
