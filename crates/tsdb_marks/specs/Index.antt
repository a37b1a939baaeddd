-- What the index has of each series.
use Rattle.std.specs.Prelude.{ℕ, List, Bool}
use Rattle.std.specs.Ordering.{nat_cmp, is_eq}
use Rattle.std.specs.Cmp.Lexicographic.{slice_cmp}
use Rattle.std.specs.Map.{lookup}
use Rattle.std.specs.Option.{unwrap_or}
use Rattle.tsdb_marks.specs.Series.{SeriesMarks, no_marks}

-- series in order, each with its marks
abbrev pub Entries : Type 0
Entries = List (List ℕ × SeriesMarks)

-- whether the two are one path
abbrev pub is_path : List ℕ → List ℕ → Bool
is_path path other = is_eq (slice_cmp nat_cmp path other)

-- the marks of a series; none without an entry
abbrev pub at : Entries → List ℕ → SeriesMarks
at entries path = unwrap_or (lookup (is_path path) entries) no_marks
