-- What the commands of a script leave, one behind another, on one core.
use Rattle.std.specs.Prelude.{◌≡◌, ◌≢◌, ◌⊎◌, Bool, true, List, [], ◌++◌, Option, None, Some, ⊤}
use Rattle.std.specs.List.{AllByRecursion as Each}
use Rattle.tsdb_base.specs.declared.answers.Answer.TheVariants as answer
use Rattle.tsdb_base.specs.declared.ids.Space.TheVariants.{Sequence}
use Rattle.tsdb_querying.specs.Beginnings.{IsCrossRuns, IsInnerRuns}
use Rattle.tsdb_querying.specs.Core.{next_of, working_of}
use Rattle.tsdb_querying.specs.Listings.{TellsStore}
use Rattle.tsdb_querying.specs.CoreType.{Core}
use Rattle.tsdb_querying.specs.Loan.{Loan}
use Rattle.tsdb_history.specs.History.{IsHistory, IsInLineOrder}
use Rattle.tsdb_history.specs.Prefixes.{EndsDone, EndsFlushed, EndsListed, IsInDoubt, StandsAfterPrefix}
use Rattle.tsdb_history.specs.Reach.{AreFullWithin}
use Rattle.tsdb_history.specs.declared.told.Told.{Told}
use Rattle.tsdb_base.specs.Lists.{EachPair}
use Rattle.tsdb_model.specs.History.{Entry, IsLegal, state_after}
use Rattle.tsdb_model.specs.State as plain
use Rattle.tsdb_model.specs.declared.command.Command.{Command}
use Rattle.tsdb_model.specs.declared.command.Command.TheVariants.{Create, Insert, Delete, Select, Flush, CompactInner}
use Rattle.tsdb_model.specs.declared.command.Command.TheVariants.{CompactCross, ShowFiles}
use Rattle.tsdb_model.specs.declared.reply.Listing.{Listing}
use Rattle.tsdb_model.specs.declared.reply.Reply.TheVariants.{Plain}
use Rattle.tsdb_outside.specs.Disk.{Image, in_slot}
use Rattle.tsdb_outside.specs.Files.{StoredFile}
use Rattle.tsdb_outside.specs.Moments.{LeavesOnly}
use Rattle.tsdb_outside.specs.declared.disk.Disk as disk
use Rattle.tsdb_outside.specs.declared.disk.Slot.{Slot}
use Rattle.tsdb_outside.specs.declared.faults.Counted as counted
use Rattle.tsdb_state.specs.Stores.{BytesByNumber, HoldsKept, StoreStandsFor}
use Rattle.tsdb_rewriting.specs.Rewriting.{IsCompacted}
use Rattle.tsdb_memory.specs.Fits.{HasNoPairPoint}
use Rattle.tsdb_script.specs.declared.numbered.Numbered.{Numbered}
use Rattle.tsdb_querying.specs.Flushing.{frozen_under}
use Rattle.tsdb_querying.specs.Serving.{IsDrawn, IsServing, disk_under, slot_under}

-- What may be in doubt after these entries: nothing, a record that changes no state, or one change.
abbrev pub MayDoubtAfter : List Entry → plain.State → Option plain.State → Type 0
MayDoubtAfter entries after doubt = (doubt ≡ None) ⊎ ((doubt ≡ Some after)
    ⊎ ((command : Command) × IsInDoubt entries after command
    × (doubt ≡ Some (state_after after command (Plain answer.Done)))))

-- with whatever files hold these, what a stop left in the slot stands for the state after a prefix of the entries
abbrev pub LeavesPrefix : List StoredFile → Slot → plain.State → List Entry → Image → Type 0
LeavesPrefix kept slot start entries image =
    (files : BytesByNumber) → HoldsKept kept files
    → StandsAfterPrefix (StoreStandsFor files (in_slot slot image)) start entries

module _ {J F S R P : Type 0} {means : disk.Ghosts J} {counts : counted.Ghosts J} where
  -- All points are in files: no pair is frozen, and the working pair has no point.
  abbrev pub HasFlushed : Core J F S R P means counts → Type 0
  HasFlushed core = (frozen_under core ≡ []) × HasNoPairPoint (working_of core)

  -- What a compaction that was done leaves: the files of a plan, where there is one, are one file, or none.
  abbrev pub HasCompacted : Command → Core J F S R P means counts → Core J F S R P means counts → Type 0
  HasCompacted (CompactInner space) old new = IsCompacted (IsInnerRuns space old) space old new
  HasCompacted CompactCross old new = IsCompacted (IsCrossRuns old) Sequence old new
  HasCompacted (Create schema) old new = ⊤
  HasCompacted (Insert device row) old new = ⊤
  HasCompacted (Delete series range) old new = ⊤
  HasCompacted (Select device items range) old new = ⊤
  HasCompacted Flush old new = ⊤
  HasCompacted ShowFiles old new = ⊤

  -- These entries were answered from the start, beside the files that were there, and these loans are out. The files that
  -- were put have different numbers, which were drawn meanwhile. A stop at any moment left the state after a prefix of
  -- the entries.
  pub record HasAnswered (loans : List (Loan F S R P)) (old new : Core J F S R P means counts) (files : List StoredFile)
      (start : plain.State) (entries : List Entry)
      : Type 0 where
    pub after : plain.State
    pub legal : IsLegal start entries after
    pub reached : AreFullWithin (next_of new) start entries
    pub put : List StoredFile
    pub numbers : Each (λ (file : StoredFile). IsDrawn old new file.number) put
    pub differ : EachPair (λ (a b : StoredFile). a.number ≢ b.number) put
    pub doubt : Option plain.State
    pub may : MayDoubtAfter entries after doubt
    pub serving : IsServing loans new (files ++ put) after doubt
    pub moments : LeavesOnly (disk_under old) (disk_under new)
        (LeavesPrefix (files ++ put) (slot_under old) start entries)

  -- So these entries were served, one whole command behind another: after a change that was done last nothing is in
  -- doubt, a listing that was answered last is that of the core, and after a flush that was done last all points are in
  -- files.
  pub record HasServed (loans : List (Loan F S R P)) (old new : Core J F S R P means counts) (files : List StoredFile)
      (start : plain.State) (entries : List Entry)
      : Type 0 where
    pub answered : HasAnswered loans old new files start entries
    pub settled : EndsDone entries → answered.doubt ≡ None
    pub listed : (listing : Listing) → EndsListed entries listing → TellsStore new listing
    pub flushed : EndsFlushed entries → HasFlushed new

  -- The commands of a script were executed, in the order of its lines. Where the store tells what its files hold, they
  -- were served from each state that the core may have been in, with all that is out.
  pub record HasExecuted (script : List Numbered) (history : List Told) (tells : Bool)
      (old new : Core J F S R P means counts)
      : Type 0 where
    pub entries : List Entry
    pub history_of : IsHistory script history entries
    pub in_line_order : IsInLineOrder script history
    pub served : tells ≡ true → (loans : List (Loan F S R P)) (files : List StoredFile) (start : plain.State)
        → IsServing loans old files start None → HasServed loans old new files start entries
