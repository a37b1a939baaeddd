-- The aggregate that a column asks for, if it asks for one.
use Rattle.std.proofs.Common.{◌≡◌, List, Option, None, Some, refl, sym, subst}
use Rattle.tsdb_base.specs.declared.answers.Aggregate.{Aggregate}
use Rattle.tsdb_base.specs.declared.answers.Figure.{Figure}
use Rattle.tsdb_base.specs.declared.point.Point.{Point}
use Rattle.tsdb_pins.specs.Reading.{IsFoldOf, IsColumnValue}

-- the aggregate that is asked for
pub value_of : (aggregate : Option Aggregate) (name : Aggregate) (lists : List (List Point)) (answer : Option Figure) → aggregate ≡ Some name → IsFoldOf name lists answer → IsColumnValue aggregate lists answer
value_of aggregate name lists answer is fold = subst (λ a. IsColumnValue a lists answer) (sym is) fold

pub value_none : (aggregate : Option Aggregate) (lists : List (List Point)) → aggregate ≡ None → IsColumnValue aggregate lists None
value_none aggregate lists is = subst (λ a. IsColumnValue a lists None) (sym is) refl
