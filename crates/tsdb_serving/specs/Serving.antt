-- Which state of the plain model a core is in beside the files of its run and its loans, and what a command that it
-- serves makes of it.
use Rattle.std.specs.Prelude.{◌≡◌, ◌≢◌, ◌⊎◌, ℕ, ◌≤◌, ◌<◌, false, List, ◌++◌, ◌∷◌, Option, None, Some}
use Rattle.std.specs.List.{AllByRecursion as Each}
use Rattle.tsdb_core.specs.Core.{IsSeen, logged_of, next_of}
use Rattle.tsdb_core.specs.declared.engine.Core.{Core}
use Rattle.tsdb_frames.specs.Calls.{KeepsToSlot}
use Rattle.tsdb_frames.specs.Frames.{disk_of, slot_of}
use Rattle.tsdb_frames.specs.declared.frames.Frames.{Frames}
use Rattle.tsdb_state.specs.StoredEngine.{LeadsTo, LeavesOneOf}
use Rattle.tsdb_base.specs.Lists.{EachPair, IsWithOne}
use Rattle.tsdb_memory.specs.LogState.{Outside, log_of, memory_of}
use Rattle.tsdb_base.specs.declared.answers.Answer.TheVariants.{Done, Device, Full}
use Rattle.tsdb_model.specs.Apply.{reply_of}
use Rattle.tsdb_model.specs.History.{DrawsNumbers, IsAllowed, IsChange, state_after}
use Rattle.tsdb_model.specs.State as plain
use Rattle.tsdb_model.specs.declared.command.Command.{Command}
use Rattle.tsdb_model.specs.declared.reply.Reply.{Reply}
use Rattle.tsdb_model.specs.declared.reply.Reply.TheVariants.{Plain}
use Rattle.tsdb_outside.specs.Disk.{Image, DiskState}
use Rattle.tsdb_outside.specs.Files.{Store, StoredFile}
use Rattle.tsdb_outside.specs.Moments.{LeavesOnly}
use Rattle.tsdb_outside.specs.declared.disk.Disk as disk
use Rattle.tsdb_outside.specs.declared.disk.Slot.{Slot}
use Rattle.tsdb_outside.specs.declared.faults.Counted as counted
use Rattle.tsdb_serving.specs.Loans.{AreLent}
use Rattle.tsdb_serving.specs.declared.loan.Loan.{Loan}
use Rattle.tsdb_state.specs.Stores.{BytesByNumber, HoldsKept, IsStateOf}
use Rattle.tsdb_base.specs.Limits.{end_of_numbers}
use Rattle.tsdb_state.specs.State.{EngineState}

-- whoever holds the second files holds the first
abbrev pub AreHeldWith : List StoredFile → List StoredFile → Type 0
AreHeldWith kept more = (files : BytesByNumber) → HoldsKept more files → HoldsKept kept files

-- no file is put
abbrev pub NoNumber : ℕ → Type 0
NoNumber number = ⊥

-- The state in doubt after a command: none, the one that was, that before the command where what is in doubt changes no
-- state, or the one after it.
abbrev pub MayDoubt : Option plain.State → plain.State → plain.State → Option plain.State → Type 0
MayDoubt next at after doubt =
    (doubt ≡ None) ⊎ ((doubt ≡ next) ⊎ ((doubt ≡ Some at) ⊎ (doubt ≡ Some after)))

-- a change is in doubt: its device failed, and the map accepts it
pub record IsInDoubtOf (at : plain.State) (command : Command) (reply : Reply) (doubt : Option plain.State) : Type 0 where
  pub change : IsChange command
  pub failed : reply ≡ Plain Device
  pub accepted : reply_of at.world command ≡ Plain Done
  pub leads : doubt ≡ Some (state_after at command (Plain Done))

-- What is in doubt after a reply: nothing; what was; where files may be flushed, a record that changes no state; or this
-- change.
abbrev pub LeavesDoubt : Option plain.State → plain.State → Command → Reply → Option plain.State → Type 0
LeavesDoubt next at command reply doubt = (doubt ≡ None) ⊎ ((doubt ≡ next)
    ⊎ ((DrawsNumbers command × (doubt ≡ Some at)) ⊎ IsInDoubtOf at command reply doubt))

-- the record of a change may have been written: it was done, or its device failed and the map accepts it
abbrev pub MayBeWritten : plain.State → Command → Reply → Type 0
MayBeWritten at command reply =
    (reply ≡ Plain Done) ⊎ ((reply ≡ Plain Device) × (reply_of at.world command ≡ Plain Done))

-- With these files, what a stop left in the slot stands for the state, or for the one in doubt, or for that after the
-- command.
abbrev pub LeavesEither : List StoredFile → Slot → plain.State → Option plain.State → plain.State → Image → Type 0
LeavesEither files slot at next after image =
    LeavesOneOf files slot at next image ⊎ LeavesOneOf files slot at (Some after) image

module _ {J F S R P : Type 0} {means : disk.Ghosts J} {counts : counted.Ghosts J} where
  -- the log
  abbrev pub log_under : Core J F S R P means counts → Frames J means counts
  log_under core = log_of (logged_of core)

  -- what a stop may leave of the log's journal
  abbrev pub disk_under : Core J F S R P means counts → DiskState
  disk_under core = disk_of (log_under core)

  -- the slot of the log
  abbrev pub slot_under : Core J F S R P means counts → Slot
  slot_under core = slot_of (log_under core)

  -- The log keeps to its slot, and numbers for files are drawn in their order.
  pub record StaysInPlace (old new : Core J F S R P means counts) : Type 0 where
    pub slot : KeepsToSlot (log_under old) (log_under new)
    pub next : next_of old ≤ next_of new

  -- `full` is answered only where the stamp can rise no further, or with a number that was reached by those of files.
  abbrev pub HasFullCause : Core J F S R P means counts → Reply → Type 0
  HasFullCause core reply = (counter : ℕ) → reply ≡ Plain (Full counter)
      → ((memory_of (logged_of core)).stamp ≡ end_of_numbers) ⊎ (counter ≤ next_of core)

  -- The core is in the state with these loans, and the record in doubt, if there is one, leads to the next one. The files
  -- that it keeps are held wherever these are.
  pub record IsServing (loans : List (Loan F S R P)) (core : Core J F S R P means counts) (files : List StoredFile)
      (at : plain.State) (next : Option plain.State)
      : Type 0 where
    pub outside : Outside
    pub state : EngineState
    pub seen : IsSeen core outside state
    pub lent : AreLent loans state.flushes state.compactions state.pins
    pub stands : IsStateOf outside.told state.store at
    pub doubt : LeadsTo outside.told state.store state.doubt next
    pub held : AreHeldWith outside.kept files

  -- The store does not tell what its files hold, or the core is in a state of the plain model, whatever is out.
  abbrev pub IsSure : Store → Core J F S R P means counts → Type 0
  IsSure store core = (store.tells ≡ false) ⊎ ((loans : List (Loan F S R P)) × (files : List StoredFile)
      × (at : plain.State) × (next : Option plain.State) × IsServing loans core files at next)

  -- A command leads to the state `after` where it takes effect, and has led to `now`; these loans are left. Files of
  -- these numbers, which differ, were put meanwhile. At each moment a stop left the state before it, or the one in doubt,
  -- or the one after it.
  pub record IsServedBy (Put : ℕ → Type 0) (left : List (Loan F S R P)) (old new : Core J F S R P means counts)
      (files : List StoredFile) (at : plain.State) (next : Option plain.State) (after now : plain.State)
      : Type 0 where
    pub put : List StoredFile
    pub numbers : Each (λ (file : StoredFile). Put file.number) put
    pub differ : EachPair (λ (a b : StoredFile). a.number ≢ b.number) put
    pub doubt : Option plain.State
    pub may : MayDoubt next at after doubt
    pub serving : IsServing left new (files ++ put) now doubt
    pub moments : LeavesOnly (disk_under old) (disk_under new)
        (LeavesEither (files ++ put) (slot_under old) at next after)

  -- a number that was drawn meanwhile
  pub record IsDrawn (old new : Core J F S R P means counts) (number : ℕ) : Type 0 where
    pub from : next_of old ≤ number
    pub to : number < next_of new

  -- the files that were put have numbers that were drawn for them
  abbrev pub IsServed : List (Loan F S R P) → Core J F S R P means counts → Core J F S R P means counts
      → List StoredFile → plain.State → Option plain.State → plain.State → plain.State → Type 0
  IsServed left old new files at next after now = IsServedBy (IsDrawn old new) left old new files at next after now

  -- Whatever state the core was in, it is in it still with what was out, and a stop at any moment left it, or the one in
  -- doubt.
  abbrev pub KeepsServing : Core J F S R P means counts → Core J F S R P means counts → Type 0
  KeepsServing old new = (loans : List (Loan F S R P)) (files : List StoredFile) (at : plain.State)
      (next : Option plain.State) → IsServing loans old files at next → IsServed loans old new files at next at at

  -- Where nothing is written: whatever state the core was in, it is in it still with what was out, as before;
  abbrev pub KeepsState : Core J F S R P means counts → Core J F S R P means counts → Type 0
  KeepsState old new = (loans : List (Loan F S R P)) (files : List StoredFile) (at : plain.State)
      (next : Option plain.State) → IsServing loans old files at next → IsServing loans new files at next

  -- this loan is out beside it;
  abbrev pub ServesWith : Loan F S R P → Core J F S R P means counts → Core J F S R P means counts → Type 0
  ServesWith one old new = (loans : List (Loan F S R P)) (files : List StoredFile) (at : plain.State)
      (next : Option plain.State) → IsServing loans old files at next → IsServing (one ∷ loans) new files at next

  -- or this loan, wherever it stood, is out no longer.
  abbrev pub KeepsWithout : Loan F S R P → Core J F S R P means counts → Core J F S R P means counts → Type 0
  KeepsWithout one old new = (others loans : List (Loan F S R P)) (files : List StoredFile) (at : plain.State)
      (next : Option plain.State) → IsWithOne one others loans → IsServing loans old files at next
      → IsServing others new files at next

  -- Where files of these numbers may have been put: it is in the state still, and a stop at any moment left it, or the one
  -- in doubt; and this loan, wherever it stood, is out no longer.
  abbrev pub ServesWithout : (ℕ → Type 0) → Loan F S R P → Core J F S R P means counts → Core J F S R P means counts
      → Type 0
  ServesWithout Put one old new = (others loans : List (Loan F S R P)) (files : List StoredFile) (at : plain.State)
      (next : Option plain.State) → IsWithOne one others loans → IsServing loans old files at next
      → IsServedBy Put others old new files at next at at

  -- What a command leaves, where files of these numbers were put: its reply is one that the map allows at this place, and
  -- the core is in the state after it. Once a change is done, nothing is in doubt; where its record cannot have been
  -- written, a stop at any moment left the state, or the one in doubt.
  pub record IsAnsweredBy (Put : ℕ → Type 0) (left : List (Loan F S R P)) (old new : Core J F S R P means counts)
      (files : List StoredFile) (at : plain.State) (next : Option plain.State) (command : Command) (reply : Reply)
      : Type 0 where
    pub allowed : IsAllowed at command reply
    pub served : IsServedBy Put left old new files at next (state_after at command (Plain Done))
        (state_after at command reply)
    pub settled : IsChange command → reply ≡ Plain Done → served.doubt ≡ None
    pub doubtful : LeavesDoubt next at command reply served.doubt
    pub unwritten : IsChange command → ¬ MayBeWritten at command reply
        → IsServedBy Put left old new files at next at at

  -- It leaves this of each state that the core may be in, with all that is out. The files that were put have numbers that
  -- were drawn for them.
  abbrev pub ServesCommand : Core J F S R P means counts → Core J F S R P means counts → Command → Reply → Type 0
  ServesCommand old new command reply = (loans : List (Loan F S R P)) (files : List StoredFile) (at : plain.State)
      (next : Option plain.State) → IsServing loans old files at next
      → IsAnsweredBy (IsDrawn old new) loans old new files at next command reply
