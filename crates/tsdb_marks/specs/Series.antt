-- The marks of one series: their versions in order, and which version each moment has.
use Rattle.std.specs.Prelude.{◌≡◌, ℕ, ◌^◌, ◌<◌, ◌≤◌, ◌↔◌, cond, max, List, []}
use Rattle.std.specs.Prelude.{◌∷◌, ◌++◌, map, nat_le, nat_lt, length, Bool, ◌&&◌, ◌==◌}
use Rattle.std.specs.List.{All, filter}
use Rattle.tsdb_marks.specs.declared.run.Step.{Step}
use Rattle.tsdb_marks.specs.declared.series.Series.TheInside.{Inside}
use Rattle.tsdb_marks.specs.Steps.{IsMarkRun, newest_at, newest_of, steps_of}

-- the versions of the marks, and the runs from the oldest on
pub record SeriesMarks : Type 0 where
  pub versions : List ℕ
  pub runs : List (List Step)

abbrev pub no_marks : SeriesMarks
no_marks = record { versions = []; runs = [] }

abbrev pub series_marks_view : Inside → SeriesMarks
series_marks_view inside = record { versions = inside.versions.items; runs = map steps_of inside.runs.items }

pub record IsSeriesKept (inside : Inside) : Type 0 where
  pub runs : All IsMarkRun inside.runs.items

-- the version over the moments of a range, and 0 over others
abbrev pub version_over : ℕ → ℕ → ℕ → ℕ → ℕ
version_over from to version moment = cond (nat_le from moment) (cond (nat_le moment to) version 0) 0

-- with one more mark over a range
pub record AddsMark (old new : SeriesMarks) (from to version : ℕ) : Type 0 where
  pub versions : new.versions ≡ old.versions ++ version ∷ []
  pub moments : (moment : ℕ) → moment < 2 ^ 64
      → newest_at new.runs moment ≡ max (newest_at old.runs moment) (version_over from to version moment)

-- whether there is none
abbrev pub has_none : SeriesMarks → Bool
has_none series = (length series.versions == 0) && (length series.runs == 0)

-- without the versions up to this one, but for those in a run with a newer one
abbrev pub without_old : ℕ → SeriesMarks → SeriesMarks
without_old version series = record {
  versions = filter (nat_lt version) series.versions;
  runs = filter (λ steps. nat_lt version (newest_of steps)) series.runs;
}

-- without the versions up to this one, as far as greater ones are asked for
pub record DropsOld (old new : SeriesMarks) (version : ℕ) : Type 0 where
  pub versions : new.versions ≡ filter (nat_lt version) old.versions
  pub moments : (moment born : ℕ) → version ≤ born
      → (born < newest_at new.runs moment) ↔ (born < newest_at old.runs moment)
