-- The inner plan of a list of files, as a relation between the list and the run.
use Rattle.std.specs.Prelude.{ℕ, ◌+◌, ◌≤◌, List, length, slice_range}
use Rattle.tsdb_plan.specs.declared.entry.FileEntry.{FileEntry}
use Rattle.tsdb_plan.specs.declared.entry.Run.{Run}
use Rattle.tsdb_plan.specs.Files.{AreFree, total_bytes}
use Rattle.tsdb_base.specs.Limits.{max_inputs, max_plan_bytes}

-- files that one job may rewrite: none is claimed, there are at most 10 of them, and their bytes are within the limit
pub record IsInnerRow (files : List FileEntry) : Type 0 where
  pub free : AreFree files
  pub few : length files ≤ max_inputs
  pub fits : total_bytes files ≤ max_plan_bytes

-- the files from place `first` to place `end`, without `end`, are such a row
pub record IsRowAt (files : List FileEntry) (first end : ℕ) : Type 0 where
  pub order : first ≤ end
  pub within : end ≤ length files
  pub row : IsInnerRow (slice_range files first end)

-- the run is the longest row from its place, it has at least two files, and no such row begins before it
pub record IsInnerPlan (files : List FileEntry) (run : Run) : Type 0 where
  pub row : IsRowAt files run.first run.end
  pub longest : (end : ℕ) → IsRowAt files run.first end → end ≤ run.end
  pub two : run.first + 2 ≤ run.end
  pub leftmost : (first end : ℕ) → IsRowAt files first end → first + 2 ≤ end → run.first ≤ first

-- no two files side by side are a row
abbrev pub HasNoInnerPlan : List FileEntry → Type 0
HasNoInnerPlan files = (first end : ℕ) → IsRowAt files first end → ¬ (first + 2 ≤ end)
