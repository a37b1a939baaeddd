-- Which places a list of deletion marks leaves. The test says which versions count.
use Rattle.std.specs.Prelude.{ℕ, Bool, true, ◌&&◌, not, int_le, nat_le, nat_lt, List, [], ◌∷◌}
use Rattle.std.specs.List.{filter, list_any}
use Rattle.tsdb_marks.specs.declared.marks.Mark.{Mark}
use Rattle.tsdb_state.specs.Places.{PointPlace, is_path}

-- whether the mark is of the place's series, and over its time
abbrev pub is_over : Mark → PointPlace → Bool
is_over mark place = is_path mark.path place.path && (int_le mark.from place.time && int_le place.time mark.to)

-- whether no mark over the place has a version that passes the test
abbrev pub is_clear : (ℕ → Bool) → List Mark → PointPlace → Bool
is_clear test [] place = true
is_clear test (mark ∷ marks) place = not (is_over mark place && test mark.version.0) && is_clear test marks place

-- whether a point that was born so survives at the place: no mark over it is newer
abbrev pub survives : List Mark → PointPlace → ℕ → Bool
survives marks place born = is_clear (nat_lt born) marks place

-- the marks whose version is at most this
abbrev pub marks_up_to : ℕ → List Mark → List Mark
marks_up_to born marks = filter (λ mark. nat_le mark.version.0 born) marks

-- whether one of the borns is less than the version
abbrev pub is_any_older : List ℕ → Mark → Bool
is_any_older borns mark = list_any (λ born. nat_lt born mark.version.0) borns

-- a purge: the marks that are newer than one of the borns stay
abbrev pub purge : List ℕ → List Mark → List Mark
purge borns marks = filter (is_any_older borns) marks
