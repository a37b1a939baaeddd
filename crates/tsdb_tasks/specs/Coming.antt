-- What becomes of the files of a flush that has ended, among those that a core keeps.
use Rattle.std.specs.Prelude.{◌≡◌, ◌⊎◌, ℕ, List, ◌++◌, map, None, Some}
use Rattle.std.specs.List.{AllByRecursion as Each}
use Rattle.tsdb_tasks.specs.Files.{NewFile, NewFiles, all_of, file_number, built_numbers}
use Rattle.tsdb_fileset.specs.Files.{KeptFiles, kept_file}
use Rattle.tsdb_fileset.specs.Places.{place_of_number}
use Rattle.tsdb_fileset.specs.declared.files.Outgoing.{Outgoing}
use Rattle.tsdb_base.specs.Lists.{Among, if_some}

-- Each file is kept by its token. A number that was drawn for the job and has no file has no place any more, and all
-- other numbers have what they had.
pub record HaveCome (drawn : List ℕ) (files : NewFiles) (old new : KeptFiles) : Type 0 where
  pub kept : Each (λ file. kept_file (file_number file) new ≡ Some file.token) (all_of files)
  pub gone : Each (λ number. Among number (built_numbers files) ⊎ (place_of_number number new.places ≡ None)) drawn
  pub others : (number : ℕ) → (Among number drawn → ⊥)
      → place_of_number number new.places ≡ place_of_number number old.places

abbrev pub outgoing_of : NewFile → Outgoing
outgoing_of file = record { number = file.entry.number; born = file.entry.born }

-- the files stand last in their lists, the one of the sequence part in the sequence list
pub record StandLast (files : NewFiles) (old new : KeptFiles) : Type 0 where
  pub sequence : new.sequence ≡ old.sequence ++ map (λ file. file.entry) (if_some files.sequence)
  pub unsequence : new.unsequence ≡ old.unsequence ++ map (λ file. file.entry) (if_some files.unsequence)
  pub outgoing : new.outgoing ≡ old.outgoing

-- the files are behind the others that are on their way out, and the lists stay
pub record AreSentOut (files : NewFiles) (old new : KeptFiles) : Type 0 where
  pub sequence : new.sequence ≡ old.sequence
  pub unsequence : new.unsequence ≡ old.unsequence
  pub outgoing : new.outgoing ≡ old.outgoing ++ map outgoing_of (all_of files)
