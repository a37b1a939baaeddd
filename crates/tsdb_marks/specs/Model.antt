-- What holds between the marks and their index.
use Rattle.std.specs.Prelude.{◌≡◌, ℕ, ◌+◌, ◌^◌, ◌<◌, ◌≤◌, ◌↔◌, ◌⊎◌, Bool, List}
use Rattle.std.specs.Prelude.{[], ◌∷◌, map, take, length, FitsSigned, vec_len, vec_capacity, nat_eq}
use Rattle.std.specs.Int.{w64}
use Rattle.std.specs.List.{All, AllPairs, filter, list_any}
use Rattle.std.specs.Cmp.Lexicographic.{pointwise}
use Rattle.tsdb_marks.specs.declared.marks.Mark.{Mark}
use Rattle.tsdb_marks.specs.declared.marks.Marks.TheInside.{Inside}
use Rattle.tsdb_marks.specs.Index.{Entries, at}
use Rattle.tsdb_marks.specs.Lists.{Marks}
use Rattle.tsdb_marks.specs.Moments.{moment}
use Rattle.tsdb_marks.specs.Steps.{newest_at}

-- some mark of the series is over the moment, with a version greater than `born`
abbrev pub SomeOver : List Mark → List ℕ → ℕ → ℕ → Type 0
SomeOver [] series at born = ⊥
SomeOver (mark ∷ others) series at born =
    ((mark.path ≡ series) × (moment mark.from ≤ at) × (at ≤ moment mark.to) × (born < mark.version.0))
    ⊎ SomeOver others series at born

-- some mark is over a moment of the range
pub record IsCovered (marks : List Mark) (series : List ℕ) (low high born : ℕ) : Type 0 where
  pub moment : ℕ
  pub from : low ≤ moment
  pub to : moment ≤ high
  pub over : SomeOver marks series moment born

-- no mark is over a moment of the range
abbrev pub IsUncovered : List Mark → List ℕ → ℕ → ℕ → ℕ → Type 0
IsUncovered marks series low high born = (moment : ℕ) → low ≤ moment → moment ≤ high
    → SomeOver marks series moment born → ⊥

-- the times of the mark are of 64 bits
pub record HasTimes (mark : Mark) : Type 0 where
  pub from : FitsSigned w64 mark.from
  pub to : FitsSigned w64 mark.to

-- whether the mark is of the series
abbrev pub is_mark_of : List ℕ → Mark → Bool
is_mark_of series mark = pointwise nat_eq series mark.path

-- whether the mark has one of these versions
abbrev pub has_version : List ℕ → Mark → Bool
has_version versions mark = list_any (λ v. nat_eq v mark.version.0) versions

abbrev pub versions_of : List Mark → List ℕ
versions_of marks = map (λ mark. mark.version.0) marks

-- for versions from the floor on, the index has a greater one at a moment of a series exactly where a mark has; and it
-- has the versions of each series' marks
pub record IsIndexOf (marks : List Mark) (floor : ℕ) (entries : Entries) : Type 0 where
  pub over : (series : List ℕ) (moment born : ℕ) → moment < 2 ^ 64 → floor ≤ born
      → (born < newest_at (at entries series).runs moment) ↔ SomeOver marks series moment born
  pub versions : (series : List ℕ) → (at entries series).versions ≡ versions_of (filter (is_mark_of series) marks)

abbrev pub marks_view : Inside → Marks
marks_view inside = record { marks = inside.marks.items; spare = inside.spare }

-- the first marks, as many as are indexed, are in the index; the floor is 0, or less than each version
pub record AreMarksKept (inside : Inside) : Type 0 where
  pub times : All HasTimes inside.marks.items
  pub rising : AllPairs (λ a b. a.version.0 < b.version.0) inside.marks.items
  pub indexed : inside.indexed ≤ length inside.marks.items
  pub exact : IsIndexOf (take inside.indexed inside.marks.items) inside.floor inside.index.series.entries
  pub newer : (inside.floor ≡ 0)
      ⊎ ((0 < length inside.marks.items) × All (λ mark. inside.floor < mark.version.0) inside.marks.items)
  pub places : vec_len inside.marks + inside.spare ≤ vec_capacity inside.marks
