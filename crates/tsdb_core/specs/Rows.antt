-- What a row leaves: the working pair is frozen before it, exactly where it does not fit.
use Rattle.std.specs.Prelude.{◌≡◌, ◌≢◌, ◌⊎◌, ℕ, ◌+◌, List, Option, Some, length, map}
use Rattle.tsdb_base.specs.declared.answers.Answer.{Answer}
use Rattle.tsdb_base.specs.declared.answers.Answer.TheVariants.{Done, NoPath, WrongType, Exists, Device, Memory, Full}
use Rattle.tsdb_core.specs.Commands.{IsCoreCommand}
use Rattle.tsdb_core.specs.Core.{IsSeen, limit_of, logged_of, working_of}
use Rattle.tsdb_core.specs.declared.engine.Core.{Core}
use Rattle.tsdb_frames.specs.Frames.{disk_of, slot_of}
use Rattle.tsdb_state.specs.StoredEngine.{LeadsTo, LeavesOneOf}
use Rattle.tsdb_log.specs.declared.record.CellRecord.{CellRecord}
use Rattle.tsdb_log.specs.declared.record.LogRecord.TheVariants.{Freeze, Insert}
use Rattle.tsdb_memory.specs.Changes.{HasFrozen, HasInserted, MemoryAfter}
use Rattle.tsdb_memory.specs.Commands.{CanPut, NeedsNothing}
use Rattle.tsdb_memory.specs.LogState.{Outside, log_of, memory_of}
use Rattle.tsdb_model.specs.History.{state_after}
use Rattle.tsdb_model.specs.State as plain
use Rattle.tsdb_model.specs.declared.command.Command.TheVariants as command
use Rattle.tsdb_model.specs.declared.command.Row.{Row}
use Rattle.tsdb_model.specs.declared.reply.Reply.TheVariants.{Plain}
use Rattle.tsdb_memory.specs.StateOfMemory.{series_entry}
use Rattle.tsdb_outside.specs.Moments.{LeavesOnly}
use Rattle.tsdb_outside.specs.declared.disk.Disk as disk
use Rattle.tsdb_outside.specs.declared.faults.Counted as counted
use Rattle.tsdb_state.specs.Stores.{IsStateOf}
use Rattle.tsdb_memory.specs.Fits.{FitsPair}
use Rattle.tsdb_state.specs.Commands.{AreCells}
use Rattle.tsdb_base.specs.Limits.{max_frozen}
use Rattle.tsdb_state.specs.Records.{CanFreeze}
use Rattle.tsdb_state.specs.State.{EngineState}

module _ {J F S R P : Type 0} {means : disk.Ghosts J} {counts : counted.Ghosts J} where
  -- the row fits the working pair of the core
  abbrev pub FitsCore : Row → Core J F S R P means counts → Type 0
  FitsCore row core = FitsPair (limit_of core) row (working_of core)

  -- it does not fit, and so many pairs are frozen that a flush has to come first
  abbrev pub NeedsFlush : Row → Core J F S R P means counts → Type 0
  NeedsFlush row core = (¬ FitsCore row core) × (length (memory_of (logged_of core)).frozen ≡ max_frozen)

  -- the working pair of each state can be frozen
  abbrev pub CanFreezeNow : Core J F S R P means counts → Type 0
  CanFreezeNow core = (outside : Outside) (state : EngineState) → IsSeen core outside state → CanFreeze state.store

  -- the working pair was frozen, since the row does not fit it
  pub record IsFrozenFor (row : Row) (old new : Core J F S R P means counts) (answer : Answer) : Type 0 where
    pub full : ¬ FitsCore row old
    pub can : CanFreezeNow old
    pub freeze : IsCoreCommand old new Freeze NeedsNothing answer
    pub memory : MemoryAfter HasFrozen (memory_of (logged_of old)) (memory_of (logged_of new)) answer

  -- a row finds the core as it is, where it fits, or with its working pair frozen
  abbrev pub HasRowPlace : Row → Core J F S R P means counts → Core J F S R P means counts → Type 0
  HasRowPlace row old between = (FitsCore row old × (between ≡ old)) ⊎ IsFrozenFor row old between Done

  -- its record was written, or tried, with the cells of the row, which can be put into each state that is shown then
  pub record IsRowPut (device : List ℕ) (row : Row) (old new : Core J F S R P means counts) (answer : Answer)
      : Type 0 where
    pub between : Core J F S R P means counts
    pub place : HasRowPlace row old between
    pub cells : List CellRecord
    pub are : AreCells (map series_entry (memory_of (logged_of between)).series) device row.cells cells
    pub can : (outside : Outside) (state : EngineState) → IsSeen between outside state
        → CanPut row.time cells state
    pub put : IsCoreCommand between new (Insert row.time cells) NeedsNothing answer
    pub memory : MemoryAfter (HasInserted device row.time cells) (memory_of (logged_of between))
        (memory_of (logged_of new)) answer

  -- What a row leaves, by its answer.
  abbrev pub IsRowCommand : List ℕ → Row → Core J F S R P means counts → Core J F S R P means counts → Answer → Type 0
  IsRowCommand device row old new Done = IsRowPut device row old new Done
  IsRowCommand device row old new NoPath = new ≡ old
  IsRowCommand device row old new WrongType = new ≡ old
  IsRowCommand device row old new Exists = new ≡ old
  IsRowCommand device row old new Device = IsRowPut device row old new Device ⊎ IsFrozenFor row old new Device
  IsRowCommand device row old new Memory =
      (new ≡ old) ⊎ (IsRowPut device row old new Memory ⊎ IsFrozenFor row old new Memory)
  IsRowCommand device row old new (Full counter) = new ≡ old

  -- The series stay, and one change more is counted exactly where the row is done, whatever store it is.
  pub record CountsRow (old new : Core J F S R P means counts) (answer : Answer) : Type 0 where
    pub series : (memory_of (logged_of new)).series ≡ (memory_of (logged_of old)).series
    pub done : answer ≡ Done → (memory_of (logged_of new)).stamp ≡ (memory_of (logged_of old)).stamp + 1
    pub not_done : answer ≢ Done → (memory_of (logged_of new)).stamp ≡ (memory_of (logged_of old)).stamp

  -- At each moment of the call a stop leaves the state, or that of the record that was in doubt, or the one after the
  -- row.
  abbrev pub LeavesRow : List ℕ → Row → Core J F S R P means counts → Core J F S R P means counts → Type 0
  LeavesRow device row old new = (outside : Outside) (state : EngineState) (at : plain.State)
      (next : Option plain.State) → IsSeen old outside state → IsStateOf outside.told state.store at
      → LeadsTo outside.told state.store state.doubt next
      → LeavesOnly (disk_of (log_of (logged_of old))) (disk_of (log_of (logged_of new)))
      (λ image. LeavesOneOf outside.kept (slot_of (log_of (logged_of old))) at next image
      ⊎ LeavesOneOf outside.kept (slot_of (log_of (logged_of old))) at
      (Some (state_after at (command.Insert device row) (Plain Done))) image)
