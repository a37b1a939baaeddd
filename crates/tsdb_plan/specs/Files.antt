-- Lists of files: their bytes, their claims, and the order of their hulls.
use Rattle.std.specs.Prelude.{◌≡◌, ℕ, false, List, All, AllPairs, sum_by}
use Rattle.std.specs.Ordering.{nat_cmp}
use Rattle.std.specs.declared.cmp.Ordering.TheVariants.{Less}
use Rattle.std.specs.Cmp.Lexicographic.{slice_cmp}
use Rattle.tsdb_plan.specs.declared.entry.FileEntry.{FileEntry}
use Rattle.tsdb_plan.specs.declared.entry.Hull.{Hull}

-- one hull for each device, in order of device bytes
abbrev pub AreHullsRising : List Hull → Type 0
AreHullsRising hulls = AllPairs (λ a b. slice_cmp nat_cmp a.device b.device ≡ Less) hulls

-- the hulls of each file are in order
abbrev pub HaveRisingHulls : List FileEntry → Type 0
HaveRisingHulls files = All (λ file. AreHullsRising file.hulls) files

-- no job has claimed any of the files
abbrev pub AreFree : List FileEntry → Type 0
AreFree files = All (λ file. file.claimed ≡ false) files

-- the bytes of the files together
abbrev pub total_bytes : List FileEntry → ℕ
total_bytes files = sum_by (λ file. file.size) files
