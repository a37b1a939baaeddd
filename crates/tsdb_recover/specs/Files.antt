-- What the opening of a store finds of one file.
use Rattle.std.specs.Prelude.{◌≡◌, ◌⊎◌, ℕ, ◌^◌, ◌<◌, ◌≤◌, List, [], ◌∷◌, ◌++◌, length, Contains, Result, IsErrOf}
use Rattle.tsdb_base.specs.declared.ids.FileNumber.{FileNumber}
use Rattle.tsdb_base.specs.Causes.{Rose}
use Rattle.tsdb_outside.specs.Files.{StoredFile, stored_file_numbers}
use Rattle.tsdb_recover.specs.declared.fault.OpenFault.{OpenFault}
use Rattle.tsdb_recover.specs.declared.fault.OpenFault.TheVariants as fault
use Rattle.tsdb_recover.specs.declared.fault.Part.TheVariants as part
use Rattle.tsfile_reader.specs.Blame.{IsBlamed, IsNoFile}
use Rattle.tsfile_reader.specs.declared.fault.ReadFault.{ReadFault}
use Rattle.tsfile_reader.specs.declared.fault.ReadFault.TheVariants as read

-- no file has the number; the place is 0 then
abbrev pub IsMissingFile : List StoredFile → ℕ → ℕ → Type 0
IsMissingFile files number at = (¬ Contains (stored_file_numbers files) number) × (at ≡ 0)

-- the file of the number is that of no tree, and its first bad part is at the place
pub record IsBadFile (files : List StoredFile) (number at : ℕ) : Type 0 where
  pub file : StoredFile
  pub there : Contains files file
  pub number_is : file.number ≡ number
  pub none : IsNoFile file.bytes
  pub blamed : IsBlamed file.bytes at

-- the file of the number is damaged at the place
abbrev pub IsDamagedAmong : List StoredFile → ℕ → ℕ → Type 0
IsDamagedAmong files number at = IsMissingFile files number at ⊎ IsBadFile files number at

-- A file was taken out and put back behind the others, of which there are fewer than 2^63.
pub record IsPutBehind (old new : List StoredFile) : Type 0 where
  pub before : List StoredFile
  pub file : StoredFile
  pub after : List StoredFile
  pub old_is : old ≡ before ++ file ∷ after
  pub new_is : length old < 2 ^ 63 → new ≡ (before ++ after) ++ file ∷ []

-- the same files are at rest, one of them perhaps behind the others now
abbrev pub AreAtRestAgain : List StoredFile → List StoredFile → Type 0
AreAtRestAgain old new = (new ≡ old) ⊎ IsPutBehind old new

-- the fault of a file that could not be read
abbrev pub of_read : FileNumber → ReadFault → OpenFault
of_read number read.Failed = fault.Failed
of_read number (read.Damaged at) = fault.Damaged (part.File number) at
of_read number read.Memory = fault.Memory

-- the counts of the files and of a port never fall, and the call returns `Failed` only where one of them has risen
pub record HasFilesCause {T : Type 0} (files files_now port port_now : ℕ) (result : Result T OpenFault) : Type 0 where
  pub later : files ≤ files_now
  pub port_later : port ≤ port_now
  pub failed : IsErrOf result fault.Failed → Rose files files_now ⊎ Rose port port_now
