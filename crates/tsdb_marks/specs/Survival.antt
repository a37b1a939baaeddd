-- Which points a list of marks leaves.
use Rattle.std.specs.Prelude.{◌≡◌, ℕ, ℤ, ◌<◌, ◌≤ℤ◌, List}
use Rattle.std.specs.List.{All}
use Rattle.tsdb_base.specs.declared.point.Range.{Range}
use Rattle.tsdb_marks.specs.declared.marks.Mark.{Mark}

-- the mark covers what is at this time of the series and was born so
pub record Covers (mark : Mark) (series : List ℕ) (time : ℤ) (born : ℕ) : Type 0 where
  pub path : mark.path ≡ series
  pub from : mark.from ≤ℤ time
  pub to : time ≤ℤ mark.to
  pub newer : born < mark.version.0

-- no mark covers it
abbrev pub Survives : List Mark → List ℕ → ℤ → ℕ → Type 0
Survives marks series time born = All (λ mark. ¬ Covers mark series time born) marks

-- at some time of the range a mark covers it
pub record Meets (marks : List Mark) (series : List ℕ) (range : Range) (born : ℕ) : Type 0 where
  pub time : ℤ
  pub from : range.from ≤ℤ time
  pub to : time ≤ℤ range.to
  pub covered : ¬ Survives marks series time born
