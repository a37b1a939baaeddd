-- What `Marks` is seen as, and which marks stay.
use Rattle.std.specs.Prelude.{ℕ, Bool, List, [], Option, Some, None, nat_lt, nat_eq}
use Rattle.std.specs.List.{filter, list_any}
use Rattle.std.specs.Cmp.Lexicographic.{pointwise}
use Rattle.tsdb_base.specs.declared.ids.Stamp.{Stamp}
use Rattle.tsdb_marks.specs.declared.marks.Mark.{Mark}

-- the marks in order, and how many more have a place
pub record Marks : Type 0 where
  pub marks : List Mark
  pub spare : ℕ

-- whether the version is greater than this
abbrev pub is_newer_than : ℕ → Mark → Bool
is_newer_than version mark = nat_lt version mark.version.0

-- without the marks whose version is at most this; without all where there is none
abbrev pub purge_list : Option Stamp → List Mark → List Mark
purge_list None marks = []
purge_list (Some version) marks = filter (is_newer_than version.0) marks

-- whether the mark is of one of these series
abbrev pub is_of : List (List ℕ) → Mark → Bool
is_of series mark = list_any (λ path. pointwise nat_eq path mark.path) series
