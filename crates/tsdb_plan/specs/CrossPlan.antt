-- The cross plan of a list of sequence files and a list of unsequence files, as a relation between them and the run.
use Rattle.std.specs.Prelude.{◌≡◌, ℕ, ◌+◌, ◌≤◌, ◌≤ℤ◌, max, List, All, Any, length, take, slice_range}
use Rattle.std.specs.List.{flat_map}
use Rattle.tsdb_plan.specs.declared.entry.CrossRun.{CrossRun}
use Rattle.tsdb_plan.specs.declared.entry.FileEntry.{FileEntry}
use Rattle.tsdb_plan.specs.declared.entry.Hull.{Hull}
use Rattle.tsdb_plan.specs.Files.{AreFree, total_bytes}
use Rattle.tsdb_base.specs.Limits.{max_plan_bytes}
use Rattle.tsdb_plan.specs.Places.{IsFirstPlace, IsPastLast}

-- the hulls of all of the files
abbrev pub hulls_of : List FileEntry → List Hull
hulls_of files = flat_map (λ file. file.hulls) files

-- from the least to the greatest time that the device has in the files
pub record IsHullOf (files : List FileEntry) (hull : Hull) : Type 0 where
  pub starts : Any (λ part. (part.device ≡ hull.device) × (part.from ≡ hull.from)) (hulls_of files)
  pub least : All (λ part. part.device ≡ hull.device → hull.from ≤ℤ part.from) (hulls_of files)
  pub ends : Any (λ part. (part.device ≡ hull.device) × (part.to ≡ hull.to)) (hulls_of files)
  pub greatest : All (λ part. part.device ≡ hull.device → part.to ≤ℤ hull.to) (hulls_of files)

-- for some device of the prefix, the file has a time at or above the start of the device's hull
abbrev pub HasTimeFromStart : List FileEntry → FileEntry → Type 0
HasTimeFromStart prefix file =
    (hull : Hull) × IsHullOf prefix hull × Any (λ part. (part.device ≡ hull.device) × (hull.from ≤ℤ part.to)) file.hulls

-- for some device of the prefix, the file has a time at or below the end of the device's hull
abbrev pub HasTimeUpToEnd : List FileEntry → FileEntry → Type 0
HasTimeUpToEnd prefix file =
    (hull : Hull) × IsHullOf prefix hull × Any (λ part. (part.device ≡ hull.device) × (part.from ≤ℤ hull.to)) file.hulls

-- the first sequence file with a time at or above the start of a hull, or the list's length
abbrev pub IsFirstOf : List FileEntry → List FileEntry → ℕ → Type 0
IsFirstOf prefix sequence first = IsFirstPlace (HasTimeFromStart prefix) sequence first

-- one past the last sequence file with a time at or below the end of a hull, or 0
abbrev pub IsPastOf : List FileEntry → List FileEntry → ℕ → Type 0
IsPastOf prefix sequence past = IsPastLast (HasTimeUpToEnd prefix) sequence past

-- some unsequence files from the start of their list, none of them claimed, with the sequence files that they meet,
-- all within the limit of bytes
pub record IsEligible (sequence unsequence : List FileEntry) (run : CrossRun) : Type 0 where
  pub some : 1 ≤ run.prefix
  pub within : run.prefix ≤ length unsequence
  pub free : AreFree (take run.prefix unsequence)
  pub first : IsFirstOf (take run.prefix unsequence) sequence run.first
  pub end : (past : ℕ) × IsPastOf (take run.prefix unsequence) sequence past × (run.end ≡ max run.first past)
  pub fits : total_bytes (take run.prefix unsequence) + total_bytes (slice_range sequence run.first run.end) ≤ max_plan_bytes

-- the run is eligible, and no eligible one has a longer prefix
pub record IsCrossPlan (sequence unsequence : List FileEntry) (run : CrossRun) : Type 0 where
  pub eligible : IsEligible sequence unsequence run
  pub longest : (other : CrossRun) → IsEligible sequence unsequence other → other.prefix ≤ run.prefix

-- no run is eligible
abbrev pub HasNoCrossPlan : List FileEntry → List FileEntry → Type 0
HasNoCrossPlan sequence unsequence = (run : CrossRun) → ¬ IsEligible sequence unsequence run
