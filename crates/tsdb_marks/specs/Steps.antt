-- Versions over moments as steps: each gives its version to the moments from its start on, up to the next step.
use Rattle.std.specs.Prelude.{◌≡◌, ℕ, ◌<◌, ◌≤◌, cond, max, List, [], ◌∷◌, nat_le, length, get_or}
use Rattle.std.specs.List.{AllPairs}
use Rattle.tsdb_marks.specs.declared.run.Step.{Step}
use Rattle.tsdb_marks.specs.declared.run.Run.{Run}

-- the version at a moment, where there is one before all steps
abbrev pub version_from : ℕ → List Step → ℕ → ℕ
version_from version [] moment = version
version_from version (s ∷ others) moment = version_from (cond (nat_le s.start moment) s.version version) others moment

-- the version at a moment; 0 before all steps
abbrev pub version_at : List Step → ℕ → ℕ
version_at steps moment = version_from 0 steps moment

-- each step begins behind the one before
abbrev pub AreStepsRising : List Step → Type 0
AreStepsRising steps = AllPairs (λ a b. a.start < b.start) steps

-- the greatest version of the steps; 0 of none
abbrev pub newest_of : List Step → ℕ
newest_of [] = 0
newest_of (s ∷ others) = max s.version (newest_of others)

-- the greatest version at a moment in any of several runs; 0 in none
abbrev pub newest_at : List (List Step) → ℕ → ℕ
newest_at [] moment = 0
newest_at (steps ∷ runs) moment = max (version_at steps moment) (newest_at runs moment)

abbrev pub steps_of : Run → List Step
steps_of run = run.steps.items

-- the steps rise, and the newest version is told
pub record IsMarkRun (run : Run) : Type 0 where
  pub rising : AreStepsRising (steps_of run)
  pub newest : run.newest ≡ newest_of (steps_of run)

-- at some moment of the range the version is greater than `born`
pub record IsMet (version : ℕ → ℕ) (low high born : ℕ) : Type 0 where
  pub moment : ℕ
  pub from : low ≤ moment
  pub to : moment ≤ high
  pub newer : born < version moment

-- at no moment of the range it is
abbrev pub IsUnmet : (ℕ → ℕ) → ℕ → ℕ → ℕ → Type 0
IsUnmet version from to born = (moment : ℕ) → from ≤ moment → moment ≤ to → version moment ≤ born

-- so many steps begin at the moment or before it
pub record IsUntil (steps : List Step) (moment count : ℕ) : Type 0 where
  pub bound : count ≤ length steps
  pub front : (k : ℕ) (d : Step) → k < count → (get_or steps k d).start ≤ moment
  pub back : (k : ℕ) (d : Step) → count ≤ k → k < length steps → moment < (get_or steps k d).start
