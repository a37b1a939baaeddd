-- Inputs of a job: listed files, each with a right to read it.
use Rattle.std.specs.Prelude.{◌≡◌, ℕ, List, [], ◌∷◌, ◌++◌, map, Some}
use Rattle.std.specs.List.{AllByRecursion as Each}
use Rattle.tsdb_base.specs.declared.ids.FileNumber.{FileNumber}
use Rattle.tsdb_base.specs.declared.ids.Stamp.{Stamp}
use Rattle.tsdb_compactions.specs.Jobs.{input_file}
use Rattle.tsdb_compactions.specs.declared.job.Input.{Input}
use Rattle.tsdb_fileset.specs.StateOfFiles.{listed}
use Rattle.tsdb_fileset.specs.Files.{KeptFiles, kept_file}
use Rattle.tsdb_fileset.specs.Rights.{IsRightTo}
use Rattle.tsdb_outside.specs.Files.{NamedFile}
use Rattle.tsdb_pin.specs.Changes.{TakesRights}
use Rattle.tsdb_plan.specs.declared.entry.FileEntry.{FileEntry}
use Rattle.tsdb_state.specs.State.{File}

module _ {F S R P : Type 0} where
  -- the numbers of the files of inputs
  abbrev pub input_numbers : List (Input F S R P) → List ℕ
  input_numbers inputs = map (λ (input : Input F S R P). input.number.0) inputs

module _ {F S R P : Type 0} (name : R → NamedFile) where
  -- the right is one to read the file that is kept under the number of the input
  abbrev pub IsHeld : KeptFiles → Input F S R P → Type 0
  IsHeld files input = IsRightTo name (kept_file input.number.0 files) (Some input.right)

  abbrev pub AreHeld : KeptFiles → List (Input F S R P) → Type 0
  AreHeld files inputs = Each (IsHeld files) inputs

  -- These inputs came behind the others, with the rights that they have.
  pub record TakesInputs (old new : KeptFiles) (before after more : List (Input F S R P)) : Type 0 where
    pub are : after ≡ before ++ more
    pub rights : TakesRights (input_numbers more) old new
    pub held : AreHeld old more

  -- some inputs came behind the others
  abbrev pub TakesSomeInputs : KeptFiles → KeptFiles → List (Input F S R P) → List (Input F S R P) → Type 0
  TakesSomeInputs old new before after = (more : List (Input F S R P)) × TakesInputs old new before after more

  -- inputs that are these files came behind the others
  abbrev pub TakesFiles : List File → KeptFiles → KeptFiles → List (Input F S R P) → List (Input F S R P) → Type 0
  TakesFiles files old new before after =
      (more : List (Input F S R P)) × TakesInputs old new before after more × (map input_file more ≡ files)

  -- inputs that are the listed files of these entries
  abbrev pub TakesEntries : List FileEntry → KeptFiles → KeptFiles → List (Input F S R P) → List (Input F S R P)
      → Type 0
  TakesEntries entries old new before after = TakesFiles (map listed entries) old new before after

  -- an input that is this file
  abbrev pub IsOneTaken : FileNumber → Stamp → KeptFiles → KeptFiles → List (Input F S R P) → List (Input F S R P)
      → Type 0
  IsOneTaken number born old new before after =
      TakesFiles (record { number = number.0; born = born.0 } ∷ []) old new before after
