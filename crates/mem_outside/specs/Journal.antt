-- What the journal in memory means, and what its counted calls do.
use Rattle.std.specs.Prelude.{◌≡◌, ◌⊎◌, ℕ, Bool, true, false, List}
use Rattle.tsdb_outside.specs.Disk.{Image, DiskState}
use Rattle.tsdb_outside.specs.declared.disk.Slot.{Slot}
use Rattle.mem_outside.specs.declared.record.Call.{Call}
use Rattle.mem_outside.specs.declared.record.RecordedDisk.{RecordedDisk}
use Rattle.mem_outside.specs.declared.journal.MemJournal.{MemJournal}
use Rattle.mem_outside.specs.declared.calls.Calls.{Calls}
use Rattle.mem_outside.specs.Calls.{with_call, with_fault, without_faults}
use Rattle.mem_outside.specs.Record.{SlotState}
use Rattle.mem_outside.specs.RecordedDisk.{disk_first, disk_calls, disk_state, RecordsCall, SameRecord}

-- the slots with the record of their calls
abbrev pub journal_disk : MemJournal → RecordedDisk
journal_disk j = j.disk

-- what the slots had at first
abbrev pub journal_first : MemJournal → Image
journal_first j = disk_first j.disk

-- the counted calls since then
abbrev pub journal_calls : MemJournal → List Call
journal_calls j = disk_calls j.disk

-- what it means
abbrev pub journal_state : MemJournal → DiskState
journal_state j = disk_state j.disk

-- the numbers of the calls that fail, and how many were made
abbrev pub journal_numbers : MemJournal → Calls
journal_numbers j = j.numbers

-- how often it has failed
abbrev pub journal_faults : MemJournal → ℕ
journal_faults j = j.numbers.faults

-- the same journal, before the first fault
abbrev pub with_no_faults : MemJournal → MemJournal
with_no_faults j = record j { numbers = without_faults j.numbers }

-- The record grows by a call with this effect on its slot, and these are the numbers then.
pub record Makes (slot : Slot) (effect : SlotState → SlotState) (numbers : Calls) (old new : MemJournal) : Type 0 where
  pub call : RecordsCall slot effect (journal_disk old) (journal_disk new)
  pub counts : journal_numbers new ≡ numbers

-- There is no room for the call: the record stays, and that is one fault more.
pub record HasNoRoom (numbers : Calls) (old new : MemJournal) : Type 0 where
  pub same : SameRecord (journal_disk old) (journal_disk new)
  pub counts : journal_numbers new ≡ with_fault numbers

-- the call is recorded as one that succeeded
abbrev pub Succeeds : Slot → (Bool → SlotState → SlotState) → MemJournal → MemJournal → Type 0
Succeeds slot effect old new = Makes slot (effect true) (with_call (journal_numbers old)) old new

-- the call fails by its number: it is recorded as one that failed, or there is no room for that
abbrev pub FailsByNumber : Slot → (Bool → SlotState → SlotState) → MemJournal → MemJournal → Type 0
FailsByNumber slot effect old new =
    Makes slot (effect false) (with_fault (with_call (journal_numbers old))) old new
    ⊎ HasNoRoom (with_fault (with_call (journal_numbers old))) old new

-- the call fails only since there is no room for it
abbrev pub FailsWithoutRoom : MemJournal → MemJournal → Type 0
FailsWithoutRoom old new = HasNoRoom (with_call (journal_numbers old)) old new
