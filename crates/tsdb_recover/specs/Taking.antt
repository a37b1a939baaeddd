-- How far the files of a store are taken up, and which are at rest meanwhile.
use Rattle.std.specs.Prelude.{◌≡◌, ◌⊎◌, ℕ, ◌+◌, ◌<◌, ◌≤◌, List, [], ◌++◌, length, map, Option, None, Some}
use Rattle.std.specs.Prelude.{Contains, IfErr, IfOk, IfSome, IsErrOf, OnOk, Result}
use Rattle.std.specs.List.{AllByRecursion as Each}
use Rattle.std.specs.Option.{IsSomeAnd}
use Rattle.tsdb_recover.specs.Adopting.{AreDescribed, HasAdoptedAll, IsAdoptingOf, adopting_files, next_in, opening_of}
use Rattle.tsdb_recover.specs.Adopting.{wanted_file}
use Rattle.tsdb_recover.specs.declared.adopting.Adopting.{Adopting}
use Rattle.tsdb_base.specs.declared.ids.FileNumber.{FileNumber}
use Rattle.tsdb_base.specs.declared.ids.Space.TheVariants.{Sequence}
use Rattle.tsdb_fileset.specs.StateOfFiles.{TellTheirBytes, listed}
use Rattle.tsdb_state.specs.StoredEngine.{IsKeptWhole, kept_bytes}
use Rattle.tsdb_fileset.specs.Files.{KeptFiles, kept_file}
use Rattle.tsdb_fileset.specs.Places.{KeptFile}
use Rattle.tsdb_base.specs.Causes.{Rose}
use Rattle.tsdb_outside.specs.Files.{StoredFile, stored_file_numbers}
use Rattle.tsdb_outside.specs.Limits.{FitsSlot}
use Rattle.tsdb_recover.specs.declared.fault.OpenFault.{OpenFault}
use Rattle.tsdb_recover.specs.declared.fault.OpenFault.TheVariants as fault
use Rattle.tsdb_recover.specs.declared.fault.Part.{Part}
use Rattle.tsdb_recover.specs.Damage.{IsFileDamaged, IsTreeFile}
use Rattle.tsdb_state.specs.Stores.{Recorded}
use Rattle.tsdb_recover.specs.StoredFiles.{AreStored}
use Rattle.tsdb_base.specs.Limits.{end_of_numbers}
use Rattle.tsdb_state.specs.State.{StoreState, ToldContents}
use Rattle.tsdb_state.specs.StoreOrder.{StoreInOrder}

-- each file has a length that a file may have
abbrev pub HaveLengths : List StoredFile → Type 0
HaveLengths files = Each (λ (file : StoredFile). FitsSlot (length file.bytes)) files

-- what is at rest of a file: nothing while it is kept
abbrev pub rests_of : Option KeptFile → Option (List ℕ) → Option (List ℕ)
rests_of None bytes = bytes
rests_of (Some file) bytes = None

-- of the stored files those are at rest that are not kept
pub record IsRest (stored : List StoredFile) (files : KeptFiles) (rest : List StoredFile) : Type 0 where
  pub are_stored : AreStored rest
  pub each : (number : ℕ) → kept_bytes rest number ≡ rests_of (kept_file number files) (kept_bytes stored number)

-- the same where what is at rest is told
abbrev pub IsRestIn : List StoredFile → KeptFiles → Option (List StoredFile) → Type 0
IsRestIn stored files None = ⊥
IsRestIn stored files (Some rest) = IsRest stored files rest

-- The kept files tell what is stored, are files of trees, and say their points where those are told. No unsequence file
-- is kept before all sequence files are.
pub record AreTakenUp (stored : List StoredFile) (store : StoreState) (files : KeptFiles) : Type 0 where
  pub told : TellTheirBytes files stored
  pub whole : Each (IsTreeFile (kept_bytes stored)) (map listed files.sequence ++ map listed files.unsequence)
  pub order : (next_in Sequence files store ≡ None) ⊎ (files.unsequence ≡ [])
  pub described : (told : ToldContents) → StoreInOrder told store
      → Each (IsKeptWhole stored told) (store.sequence ++ store.unsequence) → AreDescribed told files

-- some of the files are taken up, and all others are at rest
pub record IsTakingUp (stored : List StoredFile) (store : StoreState) (files : KeptFiles)
    (rest : Option (List StoredFile))
    : Type 0 where
  pub taken : AreTakenUp stored store files
  pub others : IsRestIn stored files rest

-- how many files are kept
abbrev pub kept_count : KeptFiles → ℕ
kept_count files = length files.sequence + length files.unsequence

-- the file of the number is taken up next
abbrev pub IsNextFile : ℕ → KeptFiles → StoreState → Type 0
IsNextFile number files store = IsSomeAnd (wanted_file files store) (λ wanted. wanted.1.number ≡ number)

module _ {F S R P : Type 0} where
  -- the log goes on to say what is listed, and the files are of the same store
  pub record KeepsAdopting (old new : Adopting F S R P) : Type 0 where
    pub opening : opening_of new ≡ opening_of old
    pub adopting : (recorded : Recorded) → IsAdoptingOf old recorded → IsAdoptingOf new recorded
    pub store : (adopting_files new).store ≡ (adopting_files old).store

  -- more files are taken up
  abbrev pub HasTakenMore : Adopting F S R P → Adopting F S R P → Option (List StoredFile) → Option (List StoredFile)
      → Type 0
  HasTakenMore old new rest now = (stored : List StoredFile) (recorded : Recorded) → IsAdoptingOf old recorded
      → IsTakingUp stored recorded.store (adopting_files old) rest
      → IsTakingUp stored recorded.store (adopting_files new) now

-- What became of files at rest, of which those of these numbers that are not kept are gone. None but these are.
pub record AreGone (numbers : List ℕ) (files : KeptFiles) (old new : List StoredFile) : Type 0 where
  pub stored : AreStored new
  pub gone : (number : ℕ) → Contains numbers number → kept_file number files ≡ None → kept_bytes new number ≡ None
  pub others : (number : ℕ) → (kept_bytes new number ≡ kept_bytes old number)
      ⊎ ((kept_bytes new number ≡ None) × (kept_file number files ≡ None))

-- the same where what is at rest is told, and stored as files are
abbrev pub AreGoneIn : List ℕ → KeptFiles → Option (List StoredFile) → Option (List StoredFile) → Type 0
AreGoneIn numbers files None new = Unit {0}
AreGoneIn numbers files (Some old) None = ⊥
AreGoneIn numbers files (Some old) (Some new) = AreStored old → AreGone numbers files old new

-- the number is the greatest of these, and there is none where there are none
abbrev pub IsGreatestNumber : Option FileNumber → List ℕ → Type 0
IsGreatestNumber None numbers = numbers ≡ []
IsGreatestNumber (Some greatest) numbers =
    Contains numbers greatest.0 × ((number : ℕ) → Contains numbers number → number ≤ greatest.0)

-- no damage is answered
abbrev pub NoDamage : OpenFault → Type 0
NoDamage fault.Failed = Unit {0}
NoDamage (fault.Damaged part at) = ⊥
NoDamage fault.Memory = Unit {0}

-- the count of the files never falls, and the call returns `Failed` only where it has risen
pub record HasOpenCause {T : Type 0} (before now : ℕ) (result : Result T OpenFault) : Type 0 where
  pub later : before ≤ now
  pub failed : IsErrOf result fault.Failed → Rose before now

-- Of these stored files all that are listed are taken up, and no other is left. The last number is the greatest in the
-- store.
pub record AreAllTaken (stored : List StoredFile) (store : StoreState) (files : KeptFiles) (last : Option FileNumber)
    (rest : Option (List StoredFile))
    : Type 0 where
  pub taken : AreTakenUp stored store files
  pub greatest : IsGreatestNumber last (stored_file_numbers stored)
  pub none : rest ≡ Some []

module _ {F S R P : Type 0} where
  -- Taking up has failed. More files are taken up, and all others are at rest; or all listed ones are taken up, none of
  -- them damaged, and of the others some are gone.
  pub record HasLeft (old new : Adopting F S R P) (rest now : Option (List StoredFile)) (answer : OpenFault)
      : Type 0 where
    pub before : Option (List StoredFile)
    pub taken : HasTakenMore old new rest before
    pub gone : (now ≡ before) ⊎ (HasAdoptedAll new × AreGoneIn [] (adopting_files new) before now × NoDamage answer)

  -- All listed files were taken up and all others removed, or a fault came. Before it these were at rest.
  pub record HasTakenUp (old new : Adopting F S R P) (rest now : Option (List StoredFile))
      (result : Result (Option FileNumber) OpenFault)
      : Type 0 where
    pub goes_on : KeepsAdopting old new
    pub all : OnOk result (HasAdoptedAll new)
    pub number : IfOk result (λ last. IfSome last (λ number. number.0 < end_of_numbers))
    pub taken : IfOk result (λ last. IfSome rest (λ stored. (recorded : Recorded) → IsAdoptingOf old recorded
        → AreStored stored → AreAllTaken stored recorded.store (adopting_files new) last now))
    pub left : IfErr result (HasLeft old new rest now)
    pub damaged : (part : Part) (at : ℕ) → IsErrOf result (fault.Damaged part at)
        → IfSome rest (λ stored. (recorded : Recorded) → IsAdoptingOf old recorded → AreStored stored
        → IsFileDamaged (kept_bytes stored) recorded.store part at)
