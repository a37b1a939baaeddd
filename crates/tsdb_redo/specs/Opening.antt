-- Which state of replay an opening shows, and what a record does to it.
use Rattle.std.specs.Prelude.{ℕ, ◌+◌, ◌↔◌, List, [], ◌∷◌, length, max, Option, None, Some}
use Rattle.tsdb_base.specs.declared.ids.FileNumber.{FileNumber}
use Rattle.tsdb_base.specs.declared.ids.Space.{Space}
use Rattle.tsdb_base.specs.declared.ids.Space.TheVariants.{Sequence, Unsequence}
use Rattle.tsdb_base.specs.Lists.{Among}
use Rattle.tsdb_memory.specs.StateOfMemory.{IsMemoryOf}
use Rattle.tsdb_redo.specs.Lists.{AreListsOf}
use Rattle.tsdb_redo.specs.NamedNumbers.{IsNamed}
use Rattle.tsdb_redo.specs.declared.opening.Opening.{Opening}
use Rattle.tsdb_state.specs.Stores.{Recorded}
use Rattle.tsdb_state.specs.State.{File, StoreState}

-- Memory is that of the state, the lists of files are those of the state, and the named numbers are those that its
-- records have named.
pub record IsOpeningOf (opening : Opening) (recorded : Recorded) : Type 0 where
  pub memory : IsMemoryOf opening.memory recorded.store
  pub files : AreListsOf opening.files recorded.store
  pub named : (number : ℕ) → IsNamed opening.named number ↔ Among number recorded.named

-- the greatest of these numbers, 0 where there is none
abbrev pub greatest : List ℕ → ℕ
greatest [] = 0
greatest (number ∷ numbers) = max number (greatest numbers)

-- with the greatest number in the store, where there is one
abbrev pub with_stored : Option FileNumber → List ℕ → List ℕ
with_stored None numbers = numbers
with_stored (Some stored) numbers = stored.0 ∷ numbers

-- the number that the next file gets: one more than the greatest that a record has named or that is in the store
abbrev pub next_number : Option FileNumber → List ℕ → ℕ
next_number stored named = greatest (with_stored stored named) + 1

-- the list of a space
abbrev pub list_of : Space → StoreState → List File
list_of Sequence state = state.sequence
list_of Unsequence state = state.unsequence

-- how many files an opening lists
abbrev pub listed_in : Opening → ℕ
listed_in opening = length opening.files.sequence.items + length opening.files.unsequence.items
