-- What the steps of taking up a file do. Only private calls speak of it.
use Rattle.std.specs.Prelude.{◌≡◌, ℕ, None}
use Rattle.tsdb_base.specs.declared.ids.Space.{Space}
use Rattle.tsdb_fileset.specs.Files.{IsOpen, KeepsLists, KeptFiles, kept_file}
use Rattle.tsdb_fileset.specs.Places.{OnlyMakesPlaces}
use Rattle.tsdb_fileset.specs.Room.{HasRoom}
use Rattle.tsdb_redo.specs.Lists.{file_of}
use Rattle.tsdb_redo.specs.declared.lists.ListedFile.{ListedFile}
use Rattle.tsdb_state.specs.State.{File}

-- a listed file with its space, as the state has it
abbrev pub state_file : Space × ListedFile → Space × File
state_file next = (next.0, file_of next.1)

-- no file comes and none goes
pub record KeepsFileLists (old new : KeptFiles) : Type 0 where
  pub lists : KeepsLists old new
  pub places : OnlyMakesPlaces old.places new.places

-- there is a place for a file of the number that is not there yet, in its list too
pub record HasPlaceFor (space : Space) (number : ℕ) (old new : KeptFiles) : Type 0 where
  pub made : kept_file number old ≡ None → IsOpen number new
  pub room : HasRoom space new.spare
