-- Files as a store has them.
use Rattle.std.specs.Prelude.{◌≢◌, ℕ, IfSome, List, Option}
use Rattle.std.specs.List.{AllByRecursion as Each}
use Rattle.tsdb_base.specs.Lists.{EachPair}
use Rattle.tsdb_outside.specs.Disk.{DiskState}
use Rattle.tsdb_outside.specs.Files.{IsFileNumber, StoredFile}

abbrev pub DifferInNumber : StoredFile → StoredFile → Type 0
DifferInNumber a b = a.number ≢ b.number

-- the file's number is one that a file may have
abbrev pub HasFileNumber : StoredFile → Type 0
HasFileNumber file = IsFileNumber file.number

-- Their numbers differ, and each is one that a file may have.
pub record AreStored (files : List StoredFile) : Type 0 where
  pub differ : EachPair DifferInNumber files
  pub each : Each HasFileNumber files

-- where the files at rest are told, and are stored as files are, this holds of them
abbrev pub WhereFilesTold : Option (List StoredFile) → (List StoredFile → Type 0) → Type 0
WhereFilesTold at_rest Holds = IfSome at_rest (λ stored. AreStored stored → Holds stored)

-- where it is also told what reads of the disk give, this holds of the log in slot A and of the files
abbrev pub WhereStoreTold : DiskState → Option (List StoredFile) → (List ℕ → List StoredFile → Type 0) → Type 0
WhereStoreTold disk at_rest Holds = IfSome disk.seen (λ image. WhereFilesTold at_rest (Holds image.a))
