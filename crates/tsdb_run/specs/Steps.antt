-- What the steps of a run ensure. No public clause cites them.
use Rattle.std.specs.Prelude.{◌≡◌, ◌==◌, ℕ, ◌+◌, ◌*◌, ◌<◌, length, List, [], ◌∷◌, ◌++◌, Option, Result, OnOk, if◌then◌else◌, Some, None}
use Rattle.std.specs.Prelude.{IfSome}
use Rattle.std.specs.List.{AllByRecursion as Each, list_any}
use Rattle.std.specs.Io.KnownBytes.{Appends}
use Rattle.tsdb_recover.specs.Core.{files_of, next_of}
use Rattle.tsdb_recover.specs.CoreType.{Core}
use Rattle.tsdb_history.specs.History.{IsHistory, IsInLineOrder}
use Rattle.tsdb_history.specs.Reach.{AreFullWithin, max_drawn}
use Rattle.tsdb_history.specs.declared.told.Told.{Told}
use Rattle.tsdb_model.specs.History.{Entry}
use Rattle.tsdb_model.specs.State as plain
use Rattle.tsdb_outside.specs.Causes.{HasStoreCause, RisesOnlyByFailed}
use Rattle.tsdb_outside.specs.Files.{StoredFile}
use Rattle.tsdb_outside.specs.Moments.{IsUntouched, LeavesOnly}
use Rattle.tsdb_outside.specs.declared.disk.Disk as disk
use Rattle.tsdb_outside.specs.declared.disk.Slot.TheVariants.{A}
use Rattle.tsdb_outside.specs.declared.faults.Counted as counted
use Rattle.tsdb_outside.specs.declared.faults.StoreFault.{StoreFault}
use Rattle.tsdb_print.specs.Text.{reply_text}
use Rattle.tsdb_recover.specs.declared.fault.OpenFault.{OpenFault}
use Rattle.tsdb_recover.specs.declared.fault.OpenFault.TheVariants as fault
use Rattle.tsdb_run.specs.Causes.{AreGoodWords}
use Rattle.tsdb_run.specs.Headline.{HasRun, HaveReach, WholeRun}
use Rattle.tsdb_run.specs.Input.{TakesScript}
use Rattle.tsdb_run.specs.Output.{AppendsPrefix}
use Rattle.tsdb_run.specs.Store.{Contents, HasNoStrays, IsPlaceDamaged, IsLeftAlone, IsSoundPlace}
use Rattle.tsdb_run.specs.declared.status.Status.{Status}
use Rattle.tsdb_run.specs.declared.status.Status.TheVariants.{Done, Memory, Words, Script, Source, Sink, Device}
use Rattle.tsdb_run.specs.declared.status.Status.TheVariants.{Damaged}
use Rattle.tsdb_script.specs.Reading.{IsFirstBadLine, IsScript}
use Rattle.tsdb_script.specs.declared.fault.ScriptFault.{ScriptFault}
use Rattle.tsdb_script.specs.declared.fault.ScriptFault.TheVariants as script_fault
use Rattle.tsdb_script.specs.declared.numbered.Numbered.{Numbered}
use Rattle.tsdb_history.specs.Serving.{IsServing, disk_under}

-- the run of these words and this source, with what it left
abbrev pub whole_run : List (List ℕ) → Option (List ℕ) → Contents → Contents → ℕ → ℕ → Option (List ℕ) → List Told
    → Option (List ℕ) → Option (List ℕ) → WholeRun
whole_run words left old new faults_before faults_after directory history held holds = record {
  words = words;
  left = left;
  old = old;
  new = new;
  faults_before = faults_before;
  faults_after = faults_after;
  directory = directory;
  history = history;
  held = held;
  holds = holds;
}

-- These are replies to the commands of the script, in the order of its lines.
pub record IsAnswered (script : List Numbered) (history : List Told) : Type 0 where
  pub entries : List Entry
  pub history_of : IsHistory script history entries
  pub in_line_order : IsInLineOrder script history

-- The script was executed on the store of a place. `unanswered` says that more of its faults were counted than commands
-- were answered `device`; so many faults were counted at the end.
pub record IsRunOn (script : List Numbered) (history : List Told) (old new : Contents) (unanswered : Type 0) (faults : ℕ)
    : Type 0 where
  pub entries : List Entry
  pub history_of : IsHistory script history entries
  pub in_line_order : IsInLineOrder script history
  pub served : (start : plain.State) (sound : IsSoundPlace old start)
      → HasRun sound.files start entries old.disk new unanswered
  pub aside : LeavesOnly old.disk new.disk (IsUntouched A old.disk)
  pub swept : (start : plain.State) → IsSoundPlace old start → faults ≡ 0 → HasNoStrays new
  pub within : HaveReach old script entries

module _ {J F S R P : Type 0} {means : disk.Ghosts J} {counts : counted.Ghosts J} where
  -- the next number is above those of these files
  abbrev pub IsNewerThan : List StoredFile → Core J F S R P means counts → Type 0
  IsNewerThan files core = Each (λ (file : StoredFile). file.number < next_of core) files

  -- The script was executed on a core, which was closed, with no other file at rest. `unanswered` says that more faults
  -- were counted meanwhile than commands were answered `device`; so many faults were counted at the end.
  pub record IsServedFrom (script : List Numbered) (history : List Told) (at_rest : Option (List StoredFile))
      (core : Core J F S R P means counts) (new : Contents) (unanswered : Type 0) (faults : ℕ) : Type 0 where
    pub entries : List Entry
    pub history_of : IsHistory script history entries
    pub in_line_order : IsInLineOrder script history
    pub served : at_rest ≡ Some [] → (files : List StoredFile) (start : plain.State)
        → IsServing [] core files start None → IsNewerThan files core
        → HasRun files start entries (disk_under core) new unanswered
    pub aside : LeavesOnly (disk_under core) new.disk (IsUntouched A (disk_under core))
    pub swept : at_rest ≡ Some [] → (files : List StoredFile) (start : plain.State) → IsServing [] core files start None
        → (files_of core).outgoing ≡ [] → faults ≡ 0 → HasNoStrays new
    pub within : at_rest ≡ Some [] → (files : List StoredFile) (start : plain.State)
        → IsServing [] core files start None → AreFullWithin (next_of core + max_drawn * length script) start entries

-- sessions with one more, if it is not there
abbrev pub with_session : List ℕ → ℕ → List ℕ
with_session sessions session =
    if list_any (λ other. other == session) sessions then sessions else sessions ++ session ∷ []

-- the text of a reply, if it is to the session
abbrev pub reply_text_of : ℕ → Numbered → Told → List ℕ
reply_text_of session numbered told = if told.session == session then reply_text numbered.command told.reply else []

-- A call put the text: all of it where it succeeded, and a prefix of it in any case. Its faults have a cause, and the
-- count of faults rises in no other answer than `Failed`.
pub record PutsText {T : Type 0} (old new : Option (List ℕ)) (text : List ℕ)
    (before now : ℕ) (result : Result T StoreFault) : Type 0 where
  pub whole : OnOk result (Appends old new text)
  pub prefix : AppendsPrefix old new text
  pub cause : HasStoreCause before now result
  pub no_fault : RisesOnlyByFailed before now result

-- the status of a run that wrote a text, or a prefix of it
abbrev pub IsOutputWritten : Status → Option (List ℕ) → Option (List ℕ) → List ℕ → Type 0
IsOutputWritten Done old new text = Appends old new text
IsOutputWritten Sink old new text = AppendsPrefix old new text
IsOutputWritten Memory old new text = AppendsPrefix old new text
IsOutputWritten Words old new text = ⊥
IsOutputWritten (Script line kind) old new text = ⊥
IsOutputWritten Source old new text = ⊥
IsOutputWritten Device old new text = ⊥
IsOutputWritten (Damaged part at) old new text = ⊥

-- these are the commands of a script that was read to the end of its source
abbrev pub IsScriptReadFrom : Option (List ℕ) → Option (List ℕ) → List Numbered → Type 0
IsScriptReadFrom left new commands = (bytes : List ℕ) × TakesScript left new bytes × IsScript bytes commands

-- why a script was not read, as the status of a run
abbrev pub script_status : ScriptFault → Status
script_status (script_fault.Bad line kind) = Script line kind
script_status script_fault.Memory = Memory

-- the statuses of a run that ended before the store was taken up
abbrev pub EndsInput : List (List ℕ) → Option (List ℕ) → Status → Type 0
EndsInput words left Done = ⊥
EndsInput words left Memory = AreGoodWords words
EndsInput words left Words = ¬ AreGoodWords words
EndsInput words left (Script line kind) = AreGoodWords words × IfSome left (λ bytes. IsFirstBadLine bytes line kind)
EndsInput words left Source = AreGoodWords words
EndsInput words left Sink = ⊥
EndsInput words left Device = ⊥
EndsInput words left (Damaged part at) = ⊥

-- the statuses of a run that read its script
abbrev pub IsServedStatus : Status → Type 0
IsServedStatus Done = Unit {0}
IsServedStatus Memory = Unit {0}
IsServedStatus Words = ⊥
IsServedStatus (Script line kind) = ⊥
IsServedStatus Source = ⊥
IsServedStatus Sink = Unit {0}
IsServedStatus Device = Unit {0}
IsServedStatus (Damaged part at) = Unit {0}

-- why a store was not opened, as the status of a run
abbrev pub opening_status : OpenFault → Status
opening_status fault.Failed = Device
opening_status (fault.Damaged part at) = Damaged part at
opening_status fault.Memory = Memory

-- the statuses of a run whose store was not opened
abbrev pub IsOpeningStatus : Contents → Status → Type 0
IsOpeningStatus place Done = ⊥
IsOpeningStatus place Memory = Unit {0}
IsOpeningStatus place Words = ⊥
IsOpeningStatus place (Script line kind) = ⊥
IsOpeningStatus place Source = ⊥
IsOpeningStatus place Sink = ⊥
IsOpeningStatus place Device = Unit {0}
IsOpeningStatus place (Damaged part at) = IsPlaceDamaged place part at

-- The store of a place was not opened, for this reason, and was left alone.
pub record IsOpeningRefused (old new : Contents) (status : Status) : Type 0 where
  pub why : IsOpeningStatus old status
  pub left_alone : IsLeftAlone old new
