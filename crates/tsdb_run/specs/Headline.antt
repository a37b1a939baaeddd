-- The headline: every reply is the one that a last-write-wins map per series returns at that command's place in the
-- printed order, which keeps each session's order, whatever is flushed in between; and whenever the machine stops,
-- within any write too, the next run finds the map after a prefix of that order that has every acknowledged command.
use Rattle.std.specs.Prelude.{◌≡◌, ◌⊎◌, ℕ, ◌+◌, ◌*◌, ◌<◌, List, [], ◌++◌, count_by, length, map, Option, Some, IfSome}
use Rattle.std.specs.Io.KnownBytes.{Appends, Keeps as KeepsBytes}
use Rattle.std.specs.List.{AllByRecursion as Each}
use Rattle.tsdb_base.specs.Causes.{Rose}
use Rattle.tsdb_history.specs.History.{IsHistory, IsInLineOrder, told_device}
use Rattle.tsdb_history.specs.Prefixes.{EndsDone, EndsFlushed, EndsListed, StandsAfter, StandsAfterPrefix}
use Rattle.tsdb_history.specs.Reach.{AreFullWithin, max_drawn}
use Rattle.tsdb_history.specs.declared.told.Told.{Told}
use Rattle.tsdb_model.specs.Commands.{AreDifferent}
use Rattle.tsdb_model.specs.History.{Entry, IsLegal}
use Rattle.tsdb_model.specs.State as plain
use Rattle.tsdb_model.specs.declared.reply.Listing.{Listing}
use Rattle.tsdb_outside.specs.Disk.{Image, DiskState}
use Rattle.tsdb_outside.specs.Files.{StoredFile}
use Rattle.tsdb_outside.specs.Moments.{IsUntouched, LeavesOnly}
use Rattle.tsdb_outside.specs.declared.disk.Slot.TheVariants.{A}
use Rattle.tsdb_run.specs.Output.{AppendsPrefix, output_text}
use Rattle.tsdb_run.specs.Store.{Contents, HasAllInFiles, HasNoStrays, IsPlaceDamaged, IsLeftAlone, IsListed}
use Rattle.tsdb_run.specs.Store.{IsNextNumberOfPlace, IsSoundPlace, SlotsStandFor, Stores}
use Rattle.tsdb_run.specs.declared.status.Status.{Status}
use Rattle.tsdb_run.specs.declared.status.Status.TheVariants.{Done, Memory, Words, Script, Source, Sink, Device}
use Rattle.tsdb_run.specs.declared.status.Status.TheVariants.{Damaged}
use Rattle.tsdb_script.specs.Reading.{IsScript, IsFirstBadLine}
use Rattle.tsdb_script.specs.declared.numbered.Numbered.{Numbered}
use Rattle.tsdb_run.specs.Words.{AreWords, Asked}

-- What a run was given, and what it left.
pub record WholeRun : Type 1 where
  -- the words of the command line
  pub words : List (List ℕ)
  -- what was left of the source, where the source tells that
  pub left : Option (List ℕ)
  -- the place before and after, and how often something of it had failed then
  pub old : Contents
  pub new : Contents
  pub faults_before : ℕ
  pub faults_after : ℕ
  -- the directory whose store was taken up last
  pub directory : Option (List ℕ)
  -- the replies
  pub history : List Told
  -- what the sink held and holds, where it tells that
  pub held : Option (List ℕ)
  pub holds : Option (List ℕ)

-- each of these files has a number above those of the others
abbrev pub AreNewer : List StoredFile → List StoredFile → Type 0
AreNewer files others =
    Each (λ (file : StoredFile). Each (λ (other : StoredFile). other.number < file.number) others) files

-- More faults of the place were counted in the run than commands were answered `device`.
abbrev pub HasUnanswered : WholeRun → Type 0
HasUnanswered run = Rose (run.faults_before + count_by told_device run.history) run.faults_after

-- Nothing is in doubt at the end: each fault was answered, or the last of the entries that is no query is a change that
-- was done.
abbrev pub EndsSettled : Type 0 → List Entry → Type 0
EndsSettled unanswered entries = (¬ unanswered) ⊎ EndsDone entries

-- The entries took place on a sound store with these files, from a start. `unanswered` says that more faults of the place
-- were counted than commands were answered `device`.
pub record HasRun (files : List StoredFile) (start : plain.State) (entries : List Entry) (old : DiskState) (new : Contents)
    (unanswered : Type 0) : Type 0 where
  pub after : plain.State
  -- each reply is allowed in the state at its place
  pub legal : IsLegal start entries after
  -- the files that were put; a number is used once
  pub put : List StoredFile
  pub newer : AreNewer put files
  pub once : AreDifferent (map (λ (file : StoredFile). file.number) put)
  -- a stop at any moment left what stands for the state after a prefix of the entries
  pub moments : LeavesOnly old new.disk (λ image. StandsAfterPrefix (SlotsStandFor (files ++ put) image) start entries)
  -- the files that are stored then, none but those of the run
  pub stored : List StoredFile
  pub at_rest : Stores new stored (files ++ put)
  -- what is left stands with them for the state after all entries
  pub holds : (image : Image) → new.disk.may_leave image → StandsAfter (SlotsStandFor stored image) after entries
  -- where nothing is in doubt it is a sound store, on which the next run begins,
  pub sound : EndsSettled unanswered entries → IsSoundPlace new after
  -- whatever a stop leaves of it stands for that state alone,
  pub alone : EndsSettled unanswered entries → (image : Image) → new.disk.may_leave image
      → SlotsStandFor stored image after
  -- a listing that is the last reply is that of this store,
  pub listed : EndsSettled unanswered entries → (listing : Listing) → EndsListed entries listing → IsListed new listing
  -- and a flush that was done last has left all points in files
  pub flushed : EndsSettled unanswered entries → EndsFlushed entries → HasAllInFiles new

-- A reply is `full` only where the stamp at its place can rise no further, or with a counter up to the number that the
-- commands of the script can have drawn, from the next number of the store on.
abbrev pub HaveReach : Contents → List Numbered → List Entry → Type 0
HaveReach old script entries = (start : plain.State) (sound : IsSoundPlace old start) (next : ℕ)
    → IsNextNumberOfPlace old sound.files next → AreFullWithin (next + max_drawn * length script) start entries

-- the store of the directory that the words name was taken up last
abbrev pub IsTakenUp : List (List ℕ) → Option (List ℕ) → Type 0
IsTakenUp words directory = (asked : Asked) × AreWords words asked × (directory ≡ Some asked.directory)

-- The script was executed on the store of the directory that the words name.
pub record IsExecuted (run : WholeRun) (puts : List ℕ → Type 0) : Type 0 where
  pub taken_up : IsTakenUp run.words run.directory
  pub script : List Numbered
  pub read : IfSome run.left (λ bytes. IsScript bytes script)
  -- each session's commands have their replies, once and in order
  pub entries : List Entry
  pub history_of : IsHistory script run.history entries
  -- from a state for which the store stood
  pub served : (start : plain.State) (sound : IsSoundPlace run.old start)
      → HasRun sound.files start entries run.old.disk run.new (HasUnanswered run)
  -- a stop at any moment left in slot B what it might have left there before the run
  pub aside : LeavesOnly run.old.disk run.new.disk (IsUntouched A run.old.disk)
  -- where nothing of the place has failed, no file is left that the log does not list
  pub swept : (start : plain.State) → IsSoundPlace run.old start → run.faults_after ≡ 0 → HasNoStrays run.new
  -- and none is `full` before a counter is at its end, or the numbers of files can have come so far in this run
  pub within : HaveReach run.old script entries
  pub printed : puts (output_text script run.history)

-- Where commands were executed, they took place in the order of the lines of the script in these bytes.
abbrev pub KeepsLineOrder : List ℕ → List Told → Type 0
KeepsLineOrder bytes history =
    (script : List Numbered) → IsScript bytes script → (history ≡ []) ⊎ IsInLineOrder script history

-- No command was executed, nothing was written, and the store was left alone.
pub record IsWithoutCommands (run : WholeRun) : Type 0 where
  pub none : run.history ≡ []
  pub sink : KeepsBytes run.held run.holds
  pub left_alone : IsLeftAlone run.old run.new
  -- so a sound store is left sound, in the state that it was in
  pub sound : (at : plain.State) → IsSoundPlace run.old at → IsSoundPlace run.new at

-- What holds of a run that ended so. Done: the script was executed and exactly its output written. Where the sink failed,
-- or memory ran out as the output was written, a prefix of the output was. With every other status nothing was written.
abbrev pub Headline : Status → WholeRun → Type 0
Headline Done run = IsExecuted run (Appends run.held run.holds)
Headline Sink run = IsExecuted run (AppendsPrefix run.held run.holds)
Headline Memory run = IsExecuted run (AppendsPrefix run.held run.holds) ⊎ IsWithoutCommands run
Headline Words run = IsWithoutCommands run
Headline (Script line kind) run = IfSome run.left (λ bytes. IsFirstBadLine bytes line kind) × IsWithoutCommands run
Headline Source run = IsWithoutCommands run
Headline Device run = IsWithoutCommands run
Headline (Damaged part at) run = IsPlaceDamaged run.old part at × IsWithoutCommands run
