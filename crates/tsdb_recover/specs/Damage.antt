-- Where a store is damaged: its log, or else the first listed file that is missing or is the file of no tree.
use Rattle.std.specs.Prelude.{◌≡◌, ℕ, List, ◌∷◌, ◌++◌, Option, None, Some}
use Rattle.std.specs.List.{AllByRecursion as Each}
use Rattle.tsdb_pages.specs.File.{IsFile}
use Rattle.tsdb_pages.specs.Trees.{IsMade, IsTree}
use Rattle.tsdb_pages.specs.declared.tree.Tree.{Tree}
use Rattle.tsdb_recover.specs.declared.fault.OpenFault.{OpenFault}
use Rattle.tsdb_recover.specs.declared.fault.OpenFault.TheVariants as fault
use Rattle.tsdb_recover.specs.declared.fault.Part.{Part}
use Rattle.tsdb_recover.specs.declared.fault.Part.TheVariants as part
use Rattle.tsdb_state.specs.Damage as log
use Rattle.tsdb_state.specs.Replays.{IsReplayOf}
use Rattle.tsdb_state.specs.Stores.{BytesByNumber, Recorded, store_steps}
use Rattle.tsdb_state.specs.State.{File, StoreState}
use Rattle.tsfile_reader.specs.Blame.{IsBlamed, IsNoFile}

-- the file is there, and is the file of a tree
pub record IsTreeFile (files : BytesByNumber) (file : File) : Type 0 where
  pub bytes : List ℕ
  pub tree : Tree
  pub there : files file.number ≡ Some bytes
  pub is_tree : IsTree tree
  pub is_made : IsMade tree
  pub is_file : IsFile tree bytes

-- the file is missing, and the place is 0; or no tree has it, and its first bad part is at the place
abbrev pub IsBadAt : Option (List ℕ) → ℕ → Type 0
IsBadAt None at = at ≡ 0
IsBadAt (Some bytes) at = IsNoFile bytes × IsBlamed bytes at

-- a listed file is bad, and those before it in the order of the lists are not
pub record IsDamagedFile (files : BytesByNumber) (store : StoreState) (number at : ℕ) : Type 0 where
  pub before : List File
  pub file : File
  pub after : List File
  pub split : store.sequence ++ store.unsequence ≡ before ++ file ∷ after
  pub whole : Each (IsTreeFile files) before
  pub is : file.number ≡ number
  pub bad : IsBadAt (files number) at

-- the part is such a file
abbrev pub IsFileDamaged : BytesByNumber → StoreState → Part → ℕ → Type 0
IsFileDamaged files store part.Log at = ⊥
IsFileDamaged files store (part.File number) at = IsDamagedFile files store number.0 at

-- The store with this log and these files is damaged in this part at this place.
abbrev pub IsDamagedIn : BytesByNumber → List ℕ → Part → ℕ → Type 0
IsDamagedIn files bytes part.Log at = log.IsDamaged store_steps at bytes
IsDamagedIn files bytes (part.File number) at = (recorded : Recorded) × IsReplayOf store_steps bytes recorded
    × IsDamagedFile files recorded.store number.0 at

-- where the fault is damage of a part at a place, this holds of the two
abbrev pub WhereDamaged : OpenFault → (Part → ℕ → Type 0) → Type 0
WhereDamaged why Holds = (part : Part) (at : ℕ) → why ≡ fault.Damaged part at → Holds part at

-- a fault that may be answered of a store that is damaged in this part at this place: these alone, or no place
abbrev pub AnswersDamageIn : Part → ℕ → OpenFault → Type 0
AnswersDamageIn part at fault.Failed = Unit {0}
AnswersDamageIn part at (fault.Damaged other place) = (other ≡ part) × (place ≡ at)
AnswersDamageIn part at fault.Memory = Unit {0}
