-- How far the steps of a run were read while two runs are merged.
use Rattle.std.specs.Prelude.{◌≡◌, ℕ, suc, ◌+◌, ◌<◌, ◌≤◌, cond, Option}
use Rattle.std.specs.Prelude.{None, Some, take, length, nat_le, slice_get, option_map}
use Rattle.tsdb_marks.specs.declared.run.Cursor.{Cursor}
use Rattle.tsdb_marks.specs.Steps.{AreStepsRising, version_at}

-- where the next step begins
abbrev pub next_start : Cursor → Option ℕ
next_start cursor = option_map (λ s. s.start) (slice_get cursor.steps.now cursor.read)

-- it begins at this moment or behind it
abbrev pub IsFrom : ℕ → Option ℕ → Type 0
IsFrom moment None = Unit {0}
IsFrom moment (Some start) = moment ≤ start

-- the version at a moment by the steps that were read
abbrev pub read_at : Cursor → ℕ → ℕ
read_at cursor moment = version_at (take cursor.read cursor.steps.now) moment

-- the steps before the bound were read, and the cursor has their last version
pub record IsCursorRead (cursor : Cursor) (bound : ℕ) : Type 0 where
  pub rising : AreStepsRising cursor.steps.now
  pub read : cursor.read ≤ length cursor.steps.now
  pub ahead : IsFrom bound (next_start cursor)
  pub version : (moment : ℕ) → bound ≤ suc moment → read_at cursor moment ≡ cursor.version

-- the step at this moment was read too, where there is one
pub record GoesTo (old new : Cursor) (moment : ℕ) : Type 0 where
  pub steps : new.steps.now ≡ old.steps.now
  pub read : IsCursorRead new (moment + 1)
  pub at : (other : ℕ) → read_at new other ≡ cond (nat_le moment other) new.version (read_at old other)
  pub further : old.read ≤ new.read
  pub reaches : next_start old ≡ Some moment → old.read < new.read
