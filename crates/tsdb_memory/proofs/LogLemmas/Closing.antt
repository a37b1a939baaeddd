-- What a closing leaves.
use Rattle.std.proofs.Common.{◌≡◌, ◌⊎◌, inl, inr, ℕ, List, map, Option, None, Result, Ok, Err, refl, subst, sym}
use Rattle.std.specs.Prelude.{◌≤◌, OnErr, OnOk}
use Rattle.std.specs.Option.{option_map}
use Rattle.tsdb_frames.specs.Calls.{KeepsToSlot, LeavesAside}
use Rattle.tsdb_frames.specs.Frames.{IsLog, disk_of, faults_of, journal_of, slot_of}
use Rattle.tsdb_frames.specs.Log.{HasRecordsOrOneMore, IsLogOn, IsSettled}
use Rattle.tsdb_frames.specs.declared.frames.Frames.{Frames}
use Rattle.tsdb_state.proofs.ImageLemmas.Leaving.{bytes_stand, settled_is_sound}
use Rattle.tsdb_state.proofs.ImageLemmas.Storing.{settled_stored}
use Rattle.tsdb_state.specs.StoredEngine.{LeadsTo, LeavesOneOf}
use Rattle.tsdb_log.specs.Spelling.{spelling}
use Rattle.tsdb_log.specs.declared.record.LogRecord.{LogRecord}
use Rattle.tsdb_memory.specs.Closing.{IsClosed, LeavesRecords}
use Rattle.tsdb_memory.specs.LogState.{IsSoundLogged, Outside, log_of}
use Rattle.tsdb_memory.specs.declared.logged_memory.LoggedMemory.{LoggedMemory}
use Rattle.tsdb_model.specs.State as plain
use Rattle.tsdb_base.specs.Causes.{Rose}
use Rattle.tsdb_outside.specs.Causes.{HasCause}
use Rattle.tsdb_outside.specs.Disk.{DiskState, in_slot}
use Rattle.tsdb_outside.specs.Moments.{LeavesOnly}
use Rattle.tsdb_outside.specs.declared.disk.Disk as disk
use Rattle.tsdb_outside.specs.declared.disk.Slot.{Slot}
use Rattle.tsdb_outside.specs.declared.faults.Counted as counted
use Rattle.tsdb_outside.specs.declared.faults.Failed.{Failed}
use Rattle.tsdb_state.specs.Stores as store
use Rattle.tsdb_state.specs.State.{EngineState}
use Rattle.tsdb_state.specs.Steps.{settled}

module _ {J : Type 0} {means : disk.Ghosts J} {counts : counted.Ghosts J} (logged : LoggedMemory J means counts)
    (outside : Outside) (state : EngineState) (at : plain.State) (sound : IsSoundLogged logged outside state)
    (stands : store.IsStateOf outside.told state.store at) where
  pub closing_moments : (next : Option plain.State) (new : DiskState) → LeadsTo outside.told state.store state.doubt next
      → LeavesOnly (disk_of (log_of logged)) new (λ image. HasRecordsOrOneMore (map spelling outside.items)
      (option_map spelling state.doubt) (in_slot (slot_of (log_of logged)) image))
      → LeavesOnly (disk_of (log_of logged)) new (LeavesOneOf outside.kept (slot_of (log_of logged)) at next)
  closing_moments next new leads moments = record {
    passes = moments.passes;
    each = λ image left files holds. bytes_stand outside.items outside.kept outside.told outside.known state
        sound.stored files holds at next (in_slot (slot_of (log_of logged)) image) stands leads
        (moments.each image left);
  }

  -- the slot is settled, and its log has the acknowledged records
  pub closed_sound : (journal : J) (log : Frames J means counts) (files : store.BytesByNumber)
      → IsLog log (map spelling outside.items) None → slot_of log ≡ slot_of (log_of logged) → journal ≡ log.journal
      → IsSettled (slot_of log) (means.state journal) → store.HoldsKept outside.kept files
      → store.IsSound (slot_of (log_of logged)) (means.state journal) files at
  closed_sound journal log files stands_log same is settled_slot holds =
      subst (λ slot. store.IsSound slot (means.state journal) files at) same
      (settled_is_sound outside.items outside.kept outside.told outside.known (settled state)
      (settled_stored outside.items outside.kept outside.told outside.known state sound.stored)
      (means.state journal) (means.lawful journal) at (slot_of log) log.gate files refl stands
      (subst (λ (j : J). IsLogOn (means.state j) log.slot log.gate
      (map spelling outside.items) None) (sym is) stands_log.stands) settled_slot holds)

-- what a log without doubt leaves of its slot
closed_records : {J : Type 0} {means : disk.Ghosts J} {counts : counted.Ghosts J} (slot : Slot) (journal : J)
    (log : Frames J means counts) (items : List LogRecord) → IsLog log (map spelling items) None → slot_of log ≡ slot
    → journal ≡ log.journal → LeavesRecords slot (means.state journal) items
closed_records {J} {means} slot journal log items stands same is =
    subst (λ (s : Slot). LeavesRecords s (means.state journal) items) same
    (subst (λ (j : J). LeavesRecords (slot_of log) (means.state j) items) (sym is) stands.stands.left)

-- a settling, and then the end
pub closed : {J : Type 0} {means : disk.Ghosts J} {counts : counted.Ghosts J} (logged : LoggedMemory J means counts)
    (log : Frames J means counts) (journal : J) (outcome : Result (Unit {0}) Failed)
    → OnOk outcome ((acknowledged : List (List ℕ)) (in_doubt : Option (List ℕ))
    → IsLog (log_of logged) acknowledged in_doubt → IsLog log acknowledged None)
    → OnErr outcome ((acknowledged : List (List ℕ)) (in_doubt : Option (List ℕ))
    → IsLog (log_of logged) acknowledged in_doubt → IsLog log acknowledged in_doubt)
    → ((acknowledged : List (List ℕ)) (in_doubt : Option (List ℕ)) → IsLog (log_of logged) acknowledged in_doubt
    → LeavesOnly (disk_of (log_of logged)) (disk_of log)
    (λ image. HasRecordsOrOneMore acknowledged in_doubt (in_slot (slot_of (log_of logged)) image)))
    → KeepsToSlot (log_of logged) log → HasCause (faults_of (log_of logged)) (faults_of log) outcome
    → journal ≡ journal_of log
    → ((acknowledged : List (List ℕ)) → IsLog log acknowledged None → IsSettled (slot_of log) (means.state journal))
    → IsClosed logged (means.state journal) (counts.faults journal)
closed {J} {means} {counts} logged log journal outcome settled_log failed_log moments slot cause is settled_slot = record {
  moments = λ outside state at next sound stands leads. closing_moments logged outside state at sound stands next
      (means.state journal) leads
      (subst (λ (j : J). LeavesOnly (disk_of (log_of logged)) (means.state j)
      (λ image. HasRecordsOrOneMore (map spelling outside.items) (option_map spelling state.doubt)
      (in_slot (slot_of (log_of logged)) image))) (sym is)
      (moments (map spelling outside.items) (option_map spelling state.doubt) sound.log.log));
  sound = λ not_risen outside state at files sound stands holds. is_sound outside state at files sound stands holds
      (stands_still outside state sound (inl not_risen));
  undoubted = λ outside state at files none sound stands holds. is_sound outside state at files sound stands holds
      (stands_still outside state sound (inr none));
  records = λ outside state sound sure. closed_records (slot_of (log_of logged)) journal log outside.items
      (stands_still outside state sound sure) slot.same is;
  aside = subst (λ (j : J). LeavesAside (log_of logged) (means.state j)) (sym is) slot.aside;
  later = subst (λ (j : J). counts.faults (log_of logged).journal ≤ counts.faults j) (sym is) cause.later;
}
  where
    -- the log goes on with its records, and nothing is in doubt
    by : (outcome : Result (Unit {0}) Failed)
        → OnOk outcome ((acknowledged : List (List ℕ)) (in_doubt : Option (List ℕ))
        → IsLog (log_of logged) acknowledged in_doubt → IsLog log acknowledged None)
        → OnErr outcome ((acknowledged : List (List ℕ)) (in_doubt : Option (List ℕ))
        → IsLog (log_of logged) acknowledged in_doubt → IsLog log acknowledged in_doubt)
        → HasCause (faults_of (log_of logged)) (faults_of log) outcome
        → (acknowledged : List (List ℕ)) (in_doubt : Option LogRecord)
        → IsLog (log_of logged) acknowledged (option_map spelling in_doubt)
        → (¬ Rose (faults_of (log_of logged)) (counts.faults journal)) ⊎ (in_doubt ≡ None)
        → IsLog log acknowledged None
    by (Ok done) settled_log failed_log cause acknowledged in_doubt was sure =
        settled_log acknowledged (option_map spelling in_doubt) was
    by (Err fault) settled_log failed_log cause acknowledged in_doubt was (inl not_risen) =
        absurd (not_risen (subst (λ (j : J). Rose (counts.faults (log_of logged).journal) (counts.faults j)) (sym is)
        cause.failed))
    by (Err fault) settled_log failed_log cause acknowledged in_doubt was (inr none) =
        failed_log acknowledged None (subst (λ d. IsLog (log_of logged) acknowledged (option_map spelling d)) none was)

    stands_still : (outside : Outside) (state : EngineState) → IsSoundLogged logged outside state
        → (¬ Rose (faults_of (log_of logged)) (counts.faults journal)) ⊎ (state.doubt ≡ None)
        → IsLog log (map spelling outside.items) None
    stands_still outside state sound sure =
        by outcome settled_log failed_log cause (map spelling outside.items) state.doubt sound.log.log sure

    is_sound : (outside : Outside) (state : EngineState) (at : plain.State) (files : store.BytesByNumber)
        → IsSoundLogged logged outside state → store.IsStateOf outside.told state.store at
        → store.HoldsKept outside.kept files → IsLog log (map spelling outside.items) None
        → store.IsSound (slot_of (log_of logged)) (means.state journal) files at
    is_sound outside state at files sound stands holds log_is = closed_sound logged outside state at sound stands journal
        log files log_is slot.same is (settled_slot (map spelling outside.items) log_is) holds
