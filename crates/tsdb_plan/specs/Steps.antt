-- Private steps: two sorted lists of hulls walked side by side, rows from the start of a list, and the best
-- cross plan so far.
use Rattle.std.specs.Prelude.{◌≡◌, ℕ, ◌≤◌, ◌≤ℤ◌, List, Any, Option, MatchOption, length, take}
use Rattle.tsdb_plan.specs.declared.entry.CrossRun.{CrossRun}
use Rattle.tsdb_plan.specs.declared.entry.FileEntry.{FileEntry}
use Rattle.tsdb_plan.specs.declared.entry.Hull.{Hull}
use Rattle.tsdb_plan.specs.CrossPlan.{IsEligible}
use Rattle.tsdb_plan.specs.InnerPlan.{IsInnerRow}

-- for some device of both, the first has a time at or above the least time of the second
abbrev pub Reaches : List Hull → List Hull → Type 0
Reaches late early = Any (λ a. Any (λ b. (a.device ≡ b.device) × (b.from ≤ℤ a.to)) early) late

-- the longest row at the start of the list has this many files
pub record IsLongestRow (files : List FileEntry) (count : ℕ) : Type 0 where
  pub within : count ≤ length files
  pub row : IsInnerRow (take count files)
  pub longest : (n : ℕ) → n ≤ length files → IsInnerRow (take n files) → n ≤ count

-- the eligible run with the longest prefix of at most so many files, if there is one
abbrev pub IsBestUpTo : List FileEntry → List FileEntry → ℕ → Option CrossRun → Type 0
IsBestUpTo sequence unsequence count plan =
    MatchOption plan
    ((other : CrossRun) → IsEligible sequence unsequence other → ¬ (other.prefix ≤ count))
    (λ run. IsEligible sequence unsequence run
    × ((other : CrossRun) → IsEligible sequence unsequence other → other.prefix ≤ count
    → other.prefix ≤ run.prefix))
