-- The slots of a real journal, each over its file.
use Rattle.std.specs.Prelude.{◌≡◌, ◌⊎◌, ℕ, ◌+◌, ◌-◌, ◌^◌, min, Bool, IsTrue, length, IfSome}
use Rattle.tsdb_outside.specs.Limits.{FitsSlot}
use Rattle.tsdb_outside.specs.declared.disk.Slot.{Slot}
use Rattle.tsdb_outside.specs.declared.disk.Slot.TheVariants.{A, B}
use Rattle.fs_outside.specs.declared.journal.FileSlot.{FileSlot}
use Rattle.fs_outside.specs.declared.journal.FsJournal.{FsJournal}
use Rattle.fs_outside.specs.FileState.{FileState, FileFails}

-- one slot of the journal
abbrev pub journal_slot : {F G : Type 0} → Slot → FsJournal F G → FileSlot F
journal_slot A j = j.a
journal_slot B j = j.b

-- the file of a slot
abbrev pub file_of_slot : {F G : Type 0} → Slot → FsJournal F G → F
file_of_slot slot j = (journal_slot slot j).file

-- what the file of a slot means
abbrev pub file_state : {F G : Type 0} → (F → FileState) → Slot → FsJournal F G → FileState
file_state state slot j = state (journal_slot slot j).file

-- a sync of the slot has failed
abbrev pub sync_failed : {F G : Type 0} → Slot → FsJournal F G → Bool
sync_failed slot j = (journal_slot slot j).sync_failed

-- the other slot is as it was
abbrev pub SameElsewhere : {F G : Type 0} → Slot → FsJournal F G → FsJournal F G → Type 0
SameElsewhere A old new = new.b ≡ old.b
SameElsewhere B old new = new.a ≡ old.a

-- how often both slots have failed
abbrev pub journal_faults : {F G : Type 0} → FsJournal F G → ℕ
journal_faults j = min (j.a.faults + j.b.faults) (2 ^ 64 - 1)

-- the length of a slot is refused where its file fails or is too long
abbrev pub LengthFails : FileState → FileState → Type 0
LengthFails old new = FileFails old new ⊎ IfSome old.seen (λ bytes. ¬ FitsSlot (length bytes))

-- a write fails where a sync of the slot has failed, where the slot would be too long, and where its file fails
abbrev pub WriteFails : Bool → ℕ → FileState → FileState → Type 0
WriteFails failed end old new = IsTrue failed ⊎ ¬ FitsSlot end ⊎ FileFails old new

-- a sync fails where one of the slot has failed, and where its file fails
abbrev pub SyncFails : Bool → FileState → FileState → Type 0
SyncFails failed old new = IsTrue failed ⊎ FileFails old new
