-- Runs of numbers as the code keeps them, and what the private calls on them cite.
use Rattle.std.specs.Prelude.{◌≡◌, ◌⊎◌, ◌↔◌, ℕ, ◌+◌, ◌<◌, ◌≤◌, List, Option, None, Some, IfSome}
use Rattle.tsdb_redo.specs.NamedNumbers.{IsInRun, Named, run_from}
use Rattle.tsdb_base.specs.Limits.{end_of_numbers}

-- each run ends before the next begins, and all are within the numbers of files
pub record AreRuns (runs : List (ℕ × ℕ)) : Type 0 where
  pub forward : (first last : ℕ) → run_from first runs ≡ Some last → first ≤ last
  pub within : (first last : ℕ) → run_from first runs ≡ Some last → last < end_of_numbers
  pub apart : (first last next end : ℕ) → run_from first runs ≡ Some last → run_from next runs ≡ Some end
      → first < next → last < next

-- the last run that begins at the number or before it
abbrev pub IsLastUpTo : List (ℕ × ℕ) → ℕ → Option (ℕ × ℕ) → Type 0
IsLastUpTo runs number None = (first : ℕ) → first ≤ number → run_from first runs ≡ None
IsLastUpTo runs number (Some run) = (run.0 ≤ number) × (run_from run.0 runs ≡ Some run.1)
    × ((first last : ℕ) → first ≤ number → run_from first runs ≡ Some last → first ≤ run.0)

-- the greatest number that a run has; 0 where there is no run
pub record IsLastInRuns (runs : List (ℕ × ℕ)) (number : ℕ) : Type 0 where
  pub reaches : (other : ℕ) → IsInRun runs other → other ≤ number
  pub has : (number ≡ 0) ⊎ IsInRun runs number

-- where a run begins that ends with this number: where the run before it ends, or at the number itself
abbrev pub IsBeginOfRun : List (ℕ × ℕ) → ℕ → ℕ → Type 0
IsBeginOfRun runs number first = (first ≡ number)
    ⊎ ((first < number) × (last : ℕ) × (last + 1 ≡ number) × (run_from first runs ≡ Some last))

-- where a run ends that begins with this number: where the run behind it ends, or at the number itself
abbrev pub EndsWith : List (ℕ × ℕ) → ℕ → ℕ → Type 0
EndsWith runs number last = (run_from (number + 1) runs ≡ Some last)
    ⊎ ((last ≡ number) × (run_from (number + 1) runs ≡ None))

-- a run has the number too now, and no other number more
abbrev pub HasOneNumberMore : ℕ → List (ℕ × ℕ) → List (ℕ × ℕ) → Type 0
HasOneNumberMore number old new = (other : ℕ) → IsInRun new other ↔ ((number ≡ other) ⊎ IsInRun old other)

-- the newest number is in no run
pub record AreSoundNumbers (named : Named) : Type 0 where
  pub runs : AreRuns named.runs
  pub newest : IfSome named.newest (λ number. (number < end_of_numbers) × (¬ IsInRun named.runs number))
