-- What a store shows that was opened.
use Rattle.std.specs.Prelude.{◌≡◌, ℕ, ◌+◌, List, [], ◌++◌, false, map, nat_eq, IfSome, Option, None, Some}
use Rattle.std.specs.List.{All, AllByRecursion as Each, filter, list_any}
use Rattle.tsdb_recover.specs.Adopting.{HaveNoClaims}
use Rattle.tsdb_core.specs.Core.{IsSeen, files_of, is_sequence_claimed, next_of}
use Rattle.tsdb_core.specs.declared.engine.Core.{Core}
use Rattle.tsdb_frames.specs.Frames.{IsLog}
use Rattle.tsdb_frames.specs.declared.frames.Frames.{Frames}
use Rattle.tsdb_state.specs.StoredEngine.{IsKeptWhole, kept_bytes}
use Rattle.tsdb_log.specs.Spelling.{IsRecord, spelling}
use Rattle.tsdb_log.specs.declared.record.LogRecord.{LogRecord}
use Rattle.tsdb_memory.specs.LogState.{Outside}
use Rattle.tsdb_model.specs.State as plain
use Rattle.tsdb_redo.specs.Opening.{IsOpeningOf, greatest}
use Rattle.tsdb_redo.specs.declared.opening.Opening.{Opening}
use Rattle.tsdb_outside.specs.Files.{StoredFile, stored_file_numbers}
use Rattle.tsdb_outside.specs.declared.disk.Disk as disk
use Rattle.tsdb_outside.specs.declared.faults.Counted as counted
use Rattle.tsdb_recover.specs.Damage.{IsTreeFile}
use Rattle.tsdb_recover.specs.StoredFiles.{AreStored}
use Rattle.tsdb_state.specs.Replays.{IsReplayOf, Replays}
use Rattle.tsdb_state.specs.Stores.{IsStateOf, Recorded, store_steps}
use Rattle.tsdb_state.specs.NewStore.{opened}
use Rattle.tsdb_state.specs.Records.{numbers_of}
use Rattle.tsdb_state.specs.State.{StoreState, ToldContents}
use Rattle.tsdb_state.specs.StoreOrder.{StoreInOrder}

-- those of these stored files that the store lists, with their bytes
abbrev pub listed_among : List StoredFile → StoreState → List StoredFile
listed_among stored store =
    filter (λ (file : StoredFile). list_any (nat_eq file.number) (numbers_of (store.sequence ++ store.unsequence)))
    stored

module _ {J F S R P : Type 0} {means : disk.Ghosts J} {counts : counted.Ghosts J} where
  -- no job has claimed the sequence list or a listed file
  pub record IsUnclaimed (core : Core J F S R P means counts) : Type 0 where
    pub list : is_sequence_claimed core ≡ false
    pub files : HaveNoClaims (files_of core)

  -- The core shows the replay of the log, in order, with those of these stored files that it lists and no other, and it
  -- is in the state of the plain model.
  pub record IsRecovered (core : Core J F S R P means counts) (bytes : List ℕ) (stored : List StoredFile)
      (at : plain.State)
      : Type 0 where
    pub recorded : Recorded
    pub replayed : IsReplayOf store_steps bytes recorded
    pub outside : Outside
    pub kept : outside.kept ≡ listed_among stored recorded.store
    pub seen : IsSeen core outside (opened (next_of core) recorded.store)
    pub stands : IsStateOf outside.told recorded.store at

-- one more than the greatest number that a record has named or that a stored file has
abbrev pub IsNextNumber : ℕ → List StoredFile → List ℕ → Type 0
IsNextNumber next stored named = next ≡ greatest (stored_file_numbers stored ++ named) + 1

-- records of a log have led to the state, which the opening shows
pub record IsReplay (opening : Opening) (items : List LogRecord) (recorded : Recorded) : Type 0 where
  pub shown : IsOpeningOf opening recorded
  pub replayed : Replays store_steps store_steps.new_store items recorded

-- where the files at rest are told, and are stored as files are, this holds of them, and of records and their state that
-- the opening is a replay of
abbrev pub WhereReplayed : Opening → Option (List StoredFile)
    → (List LogRecord → Recorded → List StoredFile → Type 0) → Type 0
WhereReplayed opening at_rest Holds = IfSome at_rest (λ stored. (items : List LogRecord) (recorded : Recorded)
    → IsReplay opening items recorded → AreStored stored → Holds items recorded stored)

-- the core with the listed ones of these files shows the state, once what they hold is told
pub record IsShown {J F S R P : Type 0} {means : disk.Ghosts J} {counts : counted.Ghosts J}
    (core : Core J F S R P means counts) (stored : List StoredFile) (told : ToldContents) (store : StoreState)
    : Type 0 where
  pub outside : Outside
  pub kept : outside.kept ≡ listed_among stored store
  pub told_is : outside.told ≡ told
  pub seen : IsSeen core outside (opened (next_of core) store)

module _ {J F S R P : Type 0} {means : disk.Ghosts J} {counts : counted.Ghosts J} where
  -- The files of a replayed log are opened: the core shows the state wherever the log has its records and the listed
  -- files are whole. All listed files are those of trees, and no other is left.
  pub record HasOpened (core : Core J F S R P means counts) (log : Frames J means counts) (stored : List StoredFile)
      (rest : Option (List StoredFile)) (items : List LogRecord) (recorded : Recorded)
      : Type 0 where
    pub seen : (told : ToldContents) → IsLog log (map spelling items) None → All IsRecord items
        → StoreInOrder told recorded.store
        → Each (IsKeptWhole stored told) (recorded.store.sequence ++ recorded.store.unsequence)
        → IsShown core stored told recorded.store
    pub next : IsNextNumber (next_of core) stored recorded.named
    pub none : rest ≡ Some []
    pub whole : Each (IsTreeFile (kept_bytes stored)) (recorded.store.sequence ++ recorded.store.unsequence)
