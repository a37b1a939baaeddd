-- Finding the entry of one series by its names: its leaf in the root, and the entry in the leaf.
use Rattle.std.specs.Prelude.{◌≡◌, ℕ, List, ◌∷◌, ◌++◌, All, Contains, Option, None, Some}
use Rattle.tsdb_index.specs.declared.index.IndexEntry.{IndexEntry}
use Rattle.tsdb_index.specs.declared.pointer.Pointer.{Pointer}
use Rattle.tsdb_index.specs.Entries.{names_of}
use Rattle.tsdb_fields.specs.Order.{AreNamesBefore}
use Rattle.tsdb_index.specs.Parts.{next_names, pointer_names}

-- the entry that has the names, or none where no entry has them
abbrev pub IsEntryFor : List ℕ × List ℕ → List IndexEntry → Option IndexEntry → Type 0
IsEntryFor names entries None = (entry : IndexEntry) → Contains entries entry → names_of entry ≡ names → ⊥
IsEntryFor names entries (Some found) = Contains entries found × (names_of found ≡ names)

-- all leaves begin behind the names
abbrev pub AreBehind : List ℕ × List ℕ → List Pointer → Type 0
AreBehind names pointers = All (λ pointer. AreNamesBefore names (pointer_names pointer)) pointers

-- The pointer at the leaf that has the names, if any has them: the last one whose names do not come behind these.
pub record IsLeafFor (names : List ℕ × List ℕ) (pointers : List Pointer) (pointer : Pointer) (behind : List Pointer)
    : Type 0 where
  pub before : List Pointer
  pub split : pointers ≡ before ++ pointer ∷ behind
  pub from : AreNamesBefore names (pointer_names pointer) → ⊥
  pub to : All (AreNamesBefore names) (next_names behind)
