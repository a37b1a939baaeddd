-- What holds while two runs are merged.
use Rattle.std.specs.Prelude.{◌≡◌, ℕ, ◌<◌, max, min, List, Option, None, Some}
use Rattle.std.specs.List.{All}
use Rattle.tsdb_marks.specs.declared.run.Cursor.{Cursor}
use Rattle.tsdb_marks.specs.declared.run.Step.{Step}
use Rattle.tsdb_marks.specs.Cursors.{IsCursorRead, read_at}
use Rattle.tsdb_marks.specs.Steps.{AreStepsRising, newest_of, version_at}

-- the lesser of two moments, of which each may be missing
abbrev pub lesser_moment : Option ℕ → Option ℕ → Option ℕ
lesser_moment None second = second
lesser_moment (Some first) None = Some first
lesser_moment (Some first) (Some second) = Some (min first second)

-- the steps have at each moment the greater of the versions that were read of the two, the last of them this one
pub record IsMerged (first second : Cursor) (steps : List Step) (version newest : ℕ) : Type 0 where
  pub bound : ℕ
  pub first_read : IsCursorRead first bound
  pub second_read : IsCursorRead second bound
  pub rising : AreStepsRising steps
  pub below : All (λ s. s.start < bound) steps
  pub newest_is : newest ≡ newest_of steps
  pub last : version ≡ max first.version second.version
  pub both : (moment : ℕ) → version_at steps moment ≡ max (read_at first moment) (read_at second moment)
