-- The two lists of files as the code keeps them, and what its calls make of them.
use Rattle.std.specs.Prelude.{◌≡◌, ◌⊎◌, ℕ, ◌<◌, ◌≤◌, List, [], ◌++◌, length, map, vec_capacity, vec_len}
use Rattle.std.specs.List.{AllByRecursion as Each}
use Rattle.tsdb_base.specs.declared.ids.FileNumber.{FileNumber}
use Rattle.tsdb_base.specs.declared.ids.Space.{Space}
use Rattle.tsdb_base.specs.declared.ids.Stamp.{Stamp}
use Rattle.tsdb_memory.specs.Least.{IsLeastOf}
use Rattle.tsdb_redo.specs.declared.lists.FileLists.{FileLists}
use Rattle.tsdb_redo.specs.declared.lists.ListedFile.{ListedFile}
use Rattle.tsdb_redo.specs.declared.replacing.Replacing.{Replacing}
use Rattle.tsdb_state.specs.NewStore.{new_store}
use Rattle.tsdb_state.specs.Records.{HasInputs, Replacement, StandAt, files_at, inputs_of, number_list, numbers_of}
use Rattle.tsdb_state.specs.Records.{replace_in}
use Rattle.tsdb_state.specs.State.{File, StoreState}

-- a listed file, as the state has it
abbrev pub file_of : ListedFile → File
file_of file = record { number = file.number.0; born = file.born.0 }

abbrev pub listed_files : List ListedFile → List File
listed_files files = map file_of files

-- the borns of files
abbrev pub borns_of_files : List File → List ℕ
borns_of_files files = map (λ file. file.born) files

-- the lists are those of the state, and the least of their borns is known
pub record AreListsOf (lists : FileLists) (state : StoreState) : Type 0 where
  pub sequence : listed_files lists.sequence.items ≡ state.sequence
  pub unsequence : listed_files lists.unsequence.items ≡ state.unsequence
  pub least : IsLeastOf lists.least (borns_of_files (state.sequence ++ state.unsequence))

-- a state with these lists, and nothing else
abbrev pub state_of : FileLists → StoreState
state_of lists = record new_store {
  sequence = listed_files lists.sequence.items;
  unsequence = listed_files lists.unsequence.items;
}

-- the files stay in their lists
pub record KeepsRecordedLists (old new : FileLists) : Type 0 where
  pub sequence : new.sequence.items ≡ old.sequence.items
  pub unsequence : new.unsequence.items ≡ old.unsequence.items
  pub least : new.least ≡ old.least

-- each list has room for one file more
pub record HaveRoom (lists : FileLists) : Type 0 where
  pub sequence : vec_len lists.sequence < vec_capacity lists.sequence
  pub unsequence : vec_len lists.unsequence < vec_capacity lists.unsequence

-- what the record of replaced files says
abbrev pub replacement_of : Replacing → Replacement
replacement_of item = record {
  born = item.born.0;
  space = item.space;
  place = item.place;
  output = item.output.0;
  sequence = number_list item.sequence;
  unsequence = number_list item.unsequence;
}

-- two or more sequence files alone, or one or more unsequence files
abbrev pub AreEnough : List ℕ → List ℕ → Type 0
AreEnough sequence unsequence = ((unsequence ≡ []) × (2 ≤ length sequence)) ⊎ (1 ≤ length unsequence)

-- the inputs stand in their lists as the record says, and none of them is younger than the output
abbrev pub CanReplaceIn : Space → Replacement → StoreState → Type 0
CanReplaceIn space item state =
    HasInputs space item state × Each (λ file. file.born ≤ item.born) (inputs_of space item state)

-- the files have these numbers, and none of them is younger than this
abbrev pub AreInputs : List ListedFile → List FileNumber → Stamp → Type 0
AreInputs files numbers born = (numbers_of (listed_files files) ≡ number_list numbers)
    × Each (λ file. file.born ≤ born.0) (listed_files files)

-- these numbers stand side by side in the list from the place on, and none of their files is younger than this
abbrev pub AreOldInputs : ℕ → List ℕ → ℕ → List File → Type 0
AreOldInputs place numbers born files =
    StandAt place numbers files × Each (λ file. file.born ≤ born) (files_at place numbers files)

-- the lists are those after the replacement
pub record HasReplacedLists (space : Space) (item : Replacement) (old new : FileLists) : Type 0 where
  pub sequence : listed_files new.sequence.items ≡ (replace_in space item (state_of old)).sequence
  pub unsequence : listed_files new.unsequence.items ≡ (replace_in space item (state_of old)).unsequence
