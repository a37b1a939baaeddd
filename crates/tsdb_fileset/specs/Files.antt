-- The files that a core keeps, as contracts see them.
use Rattle.std.specs.Prelude.{◌≡◌, ℕ, Bool, List, [], ◌∷◌, ◌++◌, length, map, Option, None, Some}
use Rattle.std.specs.List.{list_any}
use Rattle.std.specs.Option.{option_map, unwrap_or}
use Rattle.tsdb_base.specs.declared.ids.Space.{Space}
use Rattle.tsdb_base.specs.declared.ids.Space.TheVariants.{Sequence, Unsequence}
use Rattle.tsdb_fileset.specs.declared.files.Outgoing.{Outgoing}
use Rattle.tsdb_fileset.specs.declared.room.Spare.{Spare}
use Rattle.tsdb_fileset.specs.Places.{KeptFile, Places, file_at, place_of_number}
use Rattle.tsdb_fileset.specs.Room.{no_room}
use Rattle.tsdb_base.specs.Lists.{count, if_some}
use Rattle.tsdb_flush.specs.Places.{is_path}
use Rattle.tsdb_outside.specs.Files.{Store}
use Rattle.tsdb_plan.specs.declared.entry.FileEntry.{FileEntry}

-- the store that the files are of, the places, the two lists, the files on their way out, and the places promised to
-- jobs that are out
pub record KeptFiles : Type 0 where
  pub store : Store
  pub places : Places
  pub sequence : List FileEntry
  pub unsequence : List FileEntry
  pub outgoing : List Outgoing
  pub spare : Spare

-- nothing is kept of the store
abbrev pub none_kept : Store → KeptFiles
none_kept store =
    record { store = store; places = []; sequence = []; unsequence = []; outgoing = []; spare = no_room }

-- the file that is kept under the number
abbrev pub kept_file : ℕ → KeptFiles → Option KeptFile
kept_file number files = file_at (place_of_number number files.places)

-- the paths of the series of the kept file with this number
abbrev pub paths_at : ℕ → KeptFiles → List (List ℕ)
paths_at number files = unwrap_or (option_map (λ file. file.series) (kept_file number files)) []

-- whether the kept file of the number has the series
abbrev pub has_path : List ℕ → KeptFiles → ℕ → Bool
has_path path files number = list_any (is_path path) (paths_at number files)

-- there is a place for the number, and its file is not there yet
abbrev pub IsOpen : ℕ → KeptFiles → Type 0
IsOpen number files = place_of_number number files.places ≡ Some None

-- the entries of a list
abbrev pub entries_in : Space → KeptFiles → List FileEntry
entries_in Sequence files = files.sequence
entries_in Unsequence files = files.unsequence

abbrev pub entry_numbers : List FileEntry → List ℕ
entry_numbers entries = map (λ entry. entry.number.0) entries

abbrev pub outgoing_numbers : List Outgoing → List ℕ
outgoing_numbers files = map (λ file. file.number.0) files

-- the numbers of all files: of the sequence list, of the unsequence list, and of those on their way out
abbrev pub all_numbers : KeptFiles → List ℕ
all_numbers files = (entry_numbers files.sequence ++ entry_numbers files.unsequence) ++ outgoing_numbers files.outgoing

-- the stamps at which the points of the listed files were frozen
abbrev pub listed_borns : KeptFiles → List ℕ
listed_borns files = map (λ entry. entry.born.0) (files.sequence ++ files.unsequence)

-- a listed or outgoing file is kept, and a kept file is in a list or outgoing, at one place
abbrev pub AreKept : KeptFiles → Type 0
AreKept files = (number : ℕ) → count number (all_numbers files) ≡ length (if_some (kept_file number files))

-- the store, the two lists and the outgoing files stay
pub record KeepsLists (old new : KeptFiles) : Type 0 where
  pub store : new.store ≡ old.store
  pub sequence : new.sequence ≡ old.sequence
  pub unsequence : new.unsequence ≡ old.unsequence
  pub outgoing : new.outgoing ≡ old.outgoing

-- the entry goes to the end of the list of the space
abbrev pub Appends : Space → FileEntry → KeptFiles → KeptFiles → Type 0
Appends Sequence entry old new = (new.sequence ≡ old.sequence ++ entry ∷ []) × (new.unsequence ≡ old.unsequence)
Appends Unsequence entry old new = (new.sequence ≡ old.sequence) × (new.unsequence ≡ old.unsequence ++ entry ∷ [])
