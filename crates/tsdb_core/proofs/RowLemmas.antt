-- A row: what its private calls leave, put together.
use Rattle.std.proofs.Common.{◌≡◌, ◌≢◌, ◌⊎◌, ℕ, zero, suc, ◌+◌, ℤ, inl, inr, List, length, ap, refl, sym, subst, ◌∙◌}
use Rattle.std.proofs.Common.{arith}
use Rattle.std.proofs.Common.{Bool, false}
use Rattle.std.proofs.lemmas.Bool.{false≢true}
use Rattle.std.specs.Prelude.{◌<◌, ◌≤◌, ◌↔◌, IsTrue}
use Rattle.std.proofs.lemmas.Slice.Zip.{AllZip-long}
use Rattle.tsdb_memory.proofs.Following.{row_answers}
use Rattle.tsdb_memory.specs.MapAnswers.{IsInsertAnswer}
use Rattle.tsdb_base.specs.declared.answers.Answer.{Answer}
use Rattle.tsdb_base.specs.declared.answers.Answer.TheVariants as answer
use Rattle.tsdb_core.proofs.Seen.{core_command}
use Rattle.tsdb_core.proofs.Worlds.{freeze_keeps, order_seen, row_step}
use Rattle.tsdb_core.specs.Commands.{IsCoreCommand, KeepsFiles}
use Rattle.tsdb_core.specs.Core.{HasStateCounts, IsSeen, limit_of, logged_of, working_of}
use Rattle.tsdb_core.specs.RowSteps.{AreReadCells, CanFreezeFor, IsUnchangedAnswer}
use Rattle.tsdb_core.specs.Rows.{CountsRow, FitsCore, HasRowPlace, IsFrozenFor, IsRowPut, IsRowCommand, NeedsFlush}
use Rattle.tsdb_core.specs.Worlds.{CoreFollowsMap, IsWorldOf, CoreKeepsWorld}
use Rattle.tsdb_core.specs.declared.engine.Core.{Core}
use Rattle.tsdb_frames.specs.Frames.{faults_of}
use Rattle.tsdb_log.specs.declared.record.CellRecord.{CellRecord}
use Rattle.tsdb_log.specs.declared.record.LogRecord.{LogRecord}
use Rattle.tsdb_log.specs.declared.record.LogRecord.TheVariants.{Freeze, Insert}
use Rattle.tsdb_memory.specs.Answers.{IsAccepted, IsFreezeAnswer}
use Rattle.tsdb_memory.specs.Changes.{HasFrozen, HasInserted, MemoryAfter}
use Rattle.tsdb_memory.specs.Commands.{CanPut, CanStop, NeedsNothing, HasCommandEffect}
use Rattle.tsdb_memory.specs.LogState.{Outside, log_of, memory_of}
use Rattle.tsdb_memory.specs.declared.logged_memory.LoggedMemory.{LoggedMemory}
use Rattle.tsdb_model.specs.Apply.{after_reply}
use Rattle.tsdb_model.specs.World.{World}
use Rattle.tsdb_model.specs.declared.command.Command.TheVariants as command
use Rattle.tsdb_model.specs.declared.command.Row.{Row}
use Rattle.tsdb_model.specs.declared.command.Schema.{Schema}
use Rattle.tsdb_model.specs.declared.reply.Reply.TheVariants.{Plain}
use Rattle.tsdb_memory.specs.Rows.{ChangesRoom}
use Rattle.tsdb_memory.specs.StateOfMemory.{IsFrozenOf, IsMemoryOf}
use Rattle.tsdb_memory.specs.Store.{MemoryState}
use Rattle.tsdb_base.specs.Causes.{Rose}
use Rattle.tsdb_outside.specs.declared.disk.Disk as disk
use Rattle.tsdb_outside.specs.declared.faults.Counted as counted
use Rattle.tsdb_memory.specs.Model.{IsSoundMemory}
use Rattle.tsdb_memtable.specs.Pairs.{HasRisingSeries}
use Rattle.tsdb_memory.proofs.RowLemmas.Counts.{empty_pair, has_counts}
use Rattle.tsdb_memory.proofs.RowLemmas.Putting.{put_within}
use Rattle.tsdb_memory.specs.Fits.{FitsPair, HasCounts, HasNoPairPoint}
use Rattle.tsdb_base.specs.Limits.{end_of_numbers, max_frozen, max_pair_points}
use Rattle.tsdb_state.specs.Records.{CanFreeze}
use Rattle.tsdb_state.specs.State.{EngineState, StoreState}

-- a pair with a point can be frozen, where at most one is frozen
pub can_freeze : (memory : MemoryState) (state : StoreState) → IsMemoryOf memory state
    → HasCounts memory.working state.working → ¬ HasNoPairPoint memory.working → length memory.frozen < max_frozen
    → CanFreeze state
can_freeze memory state shown counts some room = record {
  some = λ empty. some ((empty_pair memory.working state.working counts).1 empty);
  room =
      let same = AllZip-long (IsFrozenOf memory.series) memory.frozen state.frozen shown.frozen in
      omega (arith, same, room);
}

rose_later : (before between now : ℕ) → before ≤ between → Rose between now → Rose before now
rose_later before between now later rose = omega (arith, later, rose)

untouched_world : (device : List ℕ) (row : Row) (result : Answer) → IsUnchangedAnswer result → (world : World)
    → after_reply world (command.Insert device row) (Plain result) ≡ world
untouched_world device row answer.Done is world = absurd is
untouched_world device row answer.NoPath is world = refl
untouched_world device row answer.WrongType is world = refl
untouched_world device row answer.Exists is world = absurd is
untouched_world device row answer.Device is world = absurd is
untouched_world device row answer.Memory is world = refl
untouched_world device row (answer.Full counter) is world = refl

pub tried_answer : (store : MemoryState) (device : List ℕ) (row : Row) (cells : List CellRecord) (result : Answer)
    → AreReadCells store.series device row.cells cells → store.stamp < end_of_numbers → IsFreezeAnswer result
    → IsInsertAnswer store device row.cells result
tried_answer store device row cells answer.Done read stamp is = ((cells, read.are), stamp)
tried_answer store device row cells answer.NoPath read stamp is = absurd is
tried_answer store device row cells answer.WrongType read stamp is = absurd is
tried_answer store device row cells answer.Exists read stamp is = absurd is
tried_answer store device row cells answer.Device read stamp is = ((cells, read.are), stamp)
tried_answer store device row cells answer.Memory read stamp is = tt
tried_answer store device row cells (answer.Full counter) read stamp is = absurd is

-- the other of two ways
pub other_way : {A B : Type 0} → ¬ A → A ⊎ B → B
other_way not (inl a) = absurd (not a)
other_way not (inr b) = b

-- of at most two, not two
pub at_most_one : (n : ℕ) → n ≤ max_frozen → (n ≡ max_frozen → ⊥) → n < max_frozen
at_most_one zero most two = omega arith
at_most_one (suc zero) most two = omega arith
at_most_one (suc (suc zero)) most two = absurd (two refl)
at_most_one (suc (suc (suc n))) most two = absurd (omega (arith, most))

-- the counts of each state's working pair, of a memory under another name
pub counts_told : (told memory : MemoryState) → told ≡ memory → IsSoundMemory told → HasRisingSeries told.working
    → (state : StoreState) → IsMemoryOf memory state → HasCounts memory.working state.working
counts_told told memory same sound rising =
    subst (λ (m : MemoryState). (state : StoreState) → IsMemoryOf m state → HasCounts m.working state.working) same
    (λ state shown. has_counts told state sound rising shown)

-- what was tested of a memory under another name
pub not_fit : (least limit : ℕ) (row : Row) (tested memory : MemoryState) (result : Bool) → result ≡ false → least ≡ limit
    → tested ≡ memory → (IsTrue result ↔ FitsPair least row tested.working) → ¬ FitsPair limit row memory.working
not_fit least limit row tested memory result is same_limit same tests fit =
    false≢true (sym is ∙ tests.1 (subst (λ n. FitsPair n row tested.working) (sym same_limit)
    (subst (λ (m : MemoryState). FitsPair limit row m.working) (sym same) fit)))

pub counts_of : (tested memory : MemoryState) → tested ≡ memory
    → ((state : StoreState) → IsMemoryOf tested state → HasCounts tested.working state.working)
    → (state : StoreState) → IsMemoryOf memory state → HasCounts memory.working state.working
counts_of tested memory same counts =
    subst (λ (m : MemoryState). (state : StoreState) → IsMemoryOf m state → HasCounts m.working state.working) same counts

module _ {J F S R P : Type 0} {means : disk.Ghosts J} {counts : counted.Ghosts J} where
  pub freeze_command : (old : Core J F S R P means counts) (logged : LoggedMemory J means counts) (result : Answer)
      → HasCommandEffect old.logged logged Freeze CanStop result
      → ((outside : Outside) (state : EngineState) → IsSeen old outside state → CanFreeze state.store)
      → IsCoreCommand old (record old { logged = logged }) Freeze NeedsNothing result
  freeze_command old logged result command can = core_command old logged Freeze NeedsNothing CanStop result
      (record { sequence = λ store. refl; unsequence = λ store. refl })
      (λ outside state seen any. can outside state seen) command

  pub put_command : (old : Core J F S R P means counts) (logged : LoggedMemory J means counts) (time : ℤ)
      (cells : List CellRecord) (result : Answer) → HasCommandEffect old.logged logged (Insert time cells) (CanPut time cells) result
      → ((outside : Outside) (state : EngineState) → IsSeen old outside state → CanPut time cells state)
      → IsCoreCommand old (record old { logged = logged }) (Insert time cells) NeedsNothing result
  put_command old logged time cells result command can =
      core_command old logged (Insert time cells) NeedsNothing (CanPut time cells) result
      (record { sequence = λ store. refl; unsequence = λ store. refl })
      (λ outside state seen any. can outside state seen) command

  -- the cells of a row that fits can be put into each state that is shown
  pub row_can : (core : Core J F S R P means counts) (device : List ℕ) (row : Row) (cells : List CellRecord)
      → AreReadCells (memory_of (logged_of core)).series device row.cells cells → FitsCore row core → HasStateCounts core
      → limit_of core ≤ max_pair_points → (memory_of (logged_of core)).stamp < end_of_numbers
      → (outside : Outside) (state : EngineState) → IsSeen core outside state → CanPut row.time cells state
  row_can core device row cells read fit counts_are most stamp outside state seen =
      put_within (memory_of (logged_of core)) state.store device row cells seen.sound.memory read.are read.differ read.there
      (subst (λ n. n < end_of_numbers) (sym seen.sound.memory.stamp) stamp) (limit_of core)
      (counts_are state.store seen.sound.memory) most fit

  -- the row's record, behind the freeze where there was one
  pub put_of : (old between : Core J F S R P means counts) (logged : LoggedMemory J means counts) (device : List ℕ) (row : Row)
      (cells : List CellRecord) (result : Answer) → HasRowPlace row old between → FitsCore row between → HasStateCounts between
      → limit_of between ≤ max_pair_points
      → (memory_of (logged_of between)).series ≡ (memory_of (logged_of old)).series
      → (memory_of (logged_of between)).stamp ≡ (memory_of (logged_of old)).stamp
      → AreReadCells (memory_of (logged_of old)).series device row.cells cells
      → (memory_of (logged_of old)).stamp < end_of_numbers
      → (time : ℤ) → time ≡ row.time → HasCommandEffect between.logged logged (Insert time cells) (CanPut time cells) result
      → MemoryAfter (HasInserted device time cells) (memory_of (logged_of between)) (memory_of logged) result
      → IsRowPut device row old (record between { logged = logged }) result
  put_of old between logged device row cells result place fit counted most series stamp read below time same command
      made =
      let here = subst (λ (s : List Schema). AreReadCells s device row.cells cells) (sym series) read in
      let can = row_can between device row cells here fit counted most
      (subst (λ n. n < end_of_numbers) (sym stamp) below) in
      record {
        between = between;
        place = place;
        cells = cells;
        are = here.are;
        can = can;
        put = put_command between logged row.time cells result
            (subst (λ t. HasCommandEffect between.logged logged (Insert t cells) (CanPut t cells) result) same command) can;
        memory = subst (λ (t : ℤ). MemoryAfter (HasInserted device t cells) (memory_of (logged_of between))
            (memory_of logged) result) same made;
      }

  -- files and jobs stay over two commands
  pub kept_both : (old between new : Core J F S R P means counts) → KeepsFiles old between → KeepsFiles between new
      → KeepsFiles old new
  kept_both old between new first second = record {
    files = second.files ∙ first.files;
    next = second.next ∙ first.next;
    limit = second.limit ∙ first.limit;
    flushed = second.flushed ∙ first.flushed;
    claimed = second.claimed ∙ first.claimed;
    jobs = λ flushes compactions jobs. second.jobs flushes compactions (first.jobs flushes compactions jobs);
    loans = λ flushes compactions lent loans. second.loans flushes compactions lent
        (first.loans flushes compactions lent loans);
  }

  pub kept_itself : (old new : Core J F S R P means counts) → new ≡ old → KeepsFiles old new
  kept_itself old new same = subst (λ core. KeepsFiles old core) (sym same) (record {
    files = refl;
    next = refl;
    limit = refl;
    flushed = refl;
    claimed = refl;
    jobs = λ flushes compactions jobs. jobs;
    loans = λ flushes compactions lent loans. loans;
  })

  pub keeps_itself : (old new : Core J F S R P means counts) → new ≡ old → CoreKeepsWorld old new
  keeps_itself old new same world is = subst (λ core. IsWorldOf core world) (sym same) is

  -- what the freeze before a row leaves
  record Left (old new : Core J F S R P means counts) : Type 0 where
    pub kept : KeepsFiles old new
    pub later : faults_of (log_of (logged_of old)) ≤ faults_of (log_of (logged_of new))

  left_itself : (old new : Core J F S R P means counts) → new ≡ old → Left old new
  left_itself old new same = record {
    kept = kept_itself old new same;
    later = subst (λ (core : Core J F S R P means counts). faults_of (log_of (logged_of old))
        ≤ faults_of (log_of (logged_of core))) (sym same) (omega arith);
  }

  left_by : (old new : Core J F S R P means counts) (item : LogRecord)
      (result : Answer) → IsCoreCommand old new item NeedsNothing result → Left old new
  left_by old new item result command = record { kept = command.kept; later = command.later }

  left_both : (old between new : Core J F S R P means counts) → Left old between → Left between new → Left old new
  left_both old between new first second = record {
    kept = kept_both old between new first.kept second.kept;
    later =
        let one = first.later in
        let two = second.later in
        omega (arith, one, two);
  }

  left_place : (row : Row) (old between : Core J F S R P means counts) → HasRowPlace row old between → Left old between
  left_place row old between (inl same) = left_itself old between same.1
  left_place row old between (inr frozen) = left_by old between Freeze answer.Done frozen.freeze

  left_put : (device : List ℕ) (row : Row) (old new : Core J F S R P means counts) (result : Answer)
      → IsRowPut device row old new result → Left old new
  left_put device row old new result put = left_both old put.between new (left_place row old put.between put.place)
      (left_by put.between new (Insert row.time put.cells) result put.put)

  row_left : (device : List ℕ) (row : Row) (old new : Core J F S R P means counts) (result : Answer)
      → IsRowCommand device row old new result → Left old new
  row_left device row old new answer.Done put = left_put device row old new answer.Done put
  row_left device row old new answer.NoPath same = left_itself old new same
  row_left device row old new answer.WrongType same = left_itself old new same
  row_left device row old new answer.Exists same = left_itself old new same
  row_left device row old new answer.Device (inl put) = left_put device row old new answer.Device put
  row_left device row old new answer.Device (inr frozen) = left_by old new Freeze answer.Device frozen.freeze
  row_left device row old new answer.Memory (inl same) = left_itself old new same
  row_left device row old new answer.Memory (inr (inl put)) = left_put device row old new answer.Memory put
  row_left device row old new answer.Memory (inr (inr frozen)) = left_by old new Freeze answer.Memory frozen.freeze
  row_left device row old new (answer.Full counter) same = left_itself old new same

  pub row_kept : (device : List ℕ) (row : Row) (old new : Core J F S R P means counts) (result : Answer)
      → IsRowCommand device row old new result → KeepsFiles old new
  row_kept device row old new result is = (row_left device row old new result is).kept

  pub row_later : (device : List ℕ) (row : Row) (old new : Core J F S R P means counts) (result : Answer)
      → IsRowCommand device row old new result
      → faults_of (log_of (logged_of old)) ≤ faults_of (log_of (logged_of new))
  row_later device row old new result is = (row_left device row old new result is).later

  place_later : (row : Row) (old between : Core J F S R P means counts) → HasRowPlace row old between
      → faults_of (log_of (logged_of old)) ≤ faults_of (log_of (logged_of between))
  place_later row old between place = (left_place row old between place).later

  put_cause : (device : List ℕ) (row : Row) (old new : Core J F S R P means counts)
      → IsRowPut device row old new answer.Device
      → Rose (faults_of (log_of (logged_of old))) (faults_of (log_of (logged_of new)))
  put_cause device row old new put = rose_later (faults_of (log_of (logged_of old)))
      (faults_of (log_of (logged_of put.between))) (faults_of (log_of (logged_of new)))
      (place_later row old put.between put.place) (put.put.cause refl)

  row_device : (device : List ℕ) (row : Row) (old new : Core J F S R P means counts)
      → IsRowPut device row old new answer.Device ⊎ IsFrozenFor row old new answer.Device
      → Rose (faults_of (log_of (logged_of old))) (faults_of (log_of (logged_of new)))
  row_device device row old new (inl put) = put_cause device row old new put
  row_device device row old new (inr frozen) = frozen.freeze.cause refl

  pub row_cause : (device : List ℕ) (row : Row) (old new : Core J F S R P means counts) (result : Answer)
      → IsRowCommand device row old new result → result ≡ answer.Device
      → Rose (faults_of (log_of (logged_of old))) (faults_of (log_of (logged_of new)))
  row_cause device row old new result is failed =
      row_device device row old new (subst (IsRowCommand device row old new) failed is)

  -- the series and the stamp after a row

  counts_itself : (core : Core J F S R P means counts) (result : Answer) → result ≢ answer.Done
      → CountsRow core core result
  counts_itself core result not = record { series = refl; done = λ is. absurd (not is); not_done = λ is. refl }

  -- nothing but room has changed
  counts_room : (old new : Core J F S R P means counts) (result : Answer) → result ≢ answer.Done
      → ChangesRoom (memory_of (logged_of old)) (memory_of (logged_of new)) → CountsRow old new result
  counts_room old new result not room = record {
    series = room.series;
    done = λ is. absurd (not is);
    not_done = λ is. room.stamp;
  }

  -- the series and the stamp are as before the freeze
  record StaysAs (old new : Core J F S R P means counts) : Type 0 where
    pub series : (memory_of (logged_of new)).series ≡ (memory_of (logged_of old)).series
    pub stamp : (memory_of (logged_of new)).stamp ≡ (memory_of (logged_of old)).stamp

  place_stays : (row : Row) (old between : Core J F S R P means counts) → HasRowPlace row old between
      → StaysAs old between
  place_stays row old between (inl same) = record {
    series = ap (λ (core : Core J F S R P means counts). (memory_of (logged_of core)).series) same.1;
    stamp = ap (λ (core : Core J F S R P means counts). (memory_of (logged_of core)).stamp) same.1;
  }
  place_stays row old between (inr frozen) = record { series = frozen.memory.series; stamp = frozen.memory.stamp }

  counts_over : (old between new : Core J F S R P means counts) (result : Answer) → StaysAs old between
      → CountsRow between new result → CountsRow old new result
  counts_over old between new result stays counts = record {
    series = counts.series ∙ stays.series;
    done = λ is. counts.done is ∙ ap (λ n. n + 1) stays.stamp;
    not_done = λ is. counts.not_done is ∙ stays.stamp;
  }

  put_done_counts : (device : List ℕ) (row : Row) (old new : Core J F S R P means counts)
      → IsRowPut device row old new answer.Done → CountsRow old new answer.Done
  put_done_counts device row old new put = counts_over old put.between new answer.Done
      (place_stays row old put.between put.place)
      (record { series = put.memory.series; done = λ is. put.memory.stamp; not_done = λ not. absurd (not refl) })

  pub row_counts : (device : List ℕ) (row : Row) (old new : Core J F S R P means counts) (result : Answer)
      → IsRowCommand device row old new result → CountsRow old new result
  row_counts device row old new answer.Done put = put_done_counts device row old new put
  row_counts device row old new answer.NoPath same = subst (λ core. CountsRow old core answer.NoPath) (sym same)
      (counts_itself old answer.NoPath (λ is. cc))
  row_counts device row old new answer.WrongType same = subst (λ core. CountsRow old core answer.WrongType) (sym same)
      (counts_itself old answer.WrongType (λ is. cc))
  row_counts device row old new answer.Exists same = subst (λ core. CountsRow old core answer.Exists) (sym same)
      (counts_itself old answer.Exists (λ is. cc))
  row_counts device row old new answer.Device (inl put) = counts_over old put.between new answer.Device
      (place_stays row old put.between put.place)
      (counts_room put.between new answer.Device (λ is. cc) put.memory)
  row_counts device row old new answer.Device (inr frozen) = counts_room old new answer.Device (λ is. cc) frozen.memory
  row_counts device row old new answer.Memory (inl same) = subst (λ core. CountsRow old core answer.Memory) (sym same)
      (counts_itself old answer.Memory (λ is. cc))
  row_counts device row old new answer.Memory (inr (inl put)) = counts_over old put.between new answer.Memory
      (place_stays row old put.between put.place)
      (counts_room put.between new answer.Memory (λ is. cc) put.memory)
  row_counts device row old new answer.Memory (inr (inr frozen)) =
      counts_room old new answer.Memory (λ is. cc) frozen.memory
  row_counts device row old new (answer.Full counter) same =
      subst (λ core. CountsRow old core (answer.Full counter)) (sym same)
      (counts_itself old (answer.Full counter) (λ is. cc))

  pub untouched_counts : (core : Core J F S R P means counts) (result : Answer) → IsUnchangedAnswer result
      → CountsRow core core result
  untouched_counts core result is = counts_itself core result
      (λ done. subst IsUnchangedAnswer done is)

  -- the world

  module _ (old : Core J F S R P means counts) (row : Row) (can : CanFreezeFor row old) where
    frozen_world : (new : Core J F S R P means counts) (result : Answer) → IsFrozenFor row old new result
        → CoreKeepsWorld old new
    frozen_world new result frozen = freeze_keeps old new result frozen.freeze
        (λ outside state seen. can outside state seen frozen.full)

    place_world : (between : Core J F S R P means counts) → HasRowPlace row old between → CoreKeepsWorld old between
    place_world between (inl same) = keeps_itself old between same.1
    place_world between (inr frozen) = frozen_world between answer.Done frozen

    put_world : (device : List ℕ) (new : Core J F S R P means counts) (result : Answer)
        → IsRowPut device row old new result → (world : World) → IsWorldOf old world
        → IsWorldOf new (after_reply world (command.Insert device row) (Plain result))
    put_world device new result put world is = row_step put.between new device row put.cells result put.put put.are
        put.can world (place_world put.between put.place world is)

    pub row_world : (device : List ℕ) (new : Core J F S R P means counts) (result : Answer)
        → IsRowCommand device row old new result → (world : World) → IsWorldOf old world
        → IsWorldOf new (after_reply world (command.Insert device row) (Plain result))
    row_world device new answer.Done put = put_world device new answer.Done put
    row_world device new answer.NoPath same = keeps_itself old new same
    row_world device new answer.WrongType same = keeps_itself old new same
    row_world device new answer.Exists same = keeps_itself old new same
    row_world device new answer.Device (inl put) = put_world device new answer.Device put
    row_world device new answer.Device (inr frozen) = frozen_world new answer.Device frozen
    row_world device new answer.Memory (inl same) = keeps_itself old new same
    row_world device new answer.Memory (inr (inl put)) = put_world device new answer.Memory put
    row_world device new answer.Memory (inr (inr frozen)) = frozen_world new answer.Memory frozen
    row_world device new (answer.Full counter) same = keeps_itself old new same

  -- a row to which nothing is done

  pub untouched_row : (device : List ℕ) (row : Row) (core : Core J F S R P means counts) (result : Answer)
      → IsUnchangedAnswer result → IsRowCommand device row core core result
  untouched_row device row core answer.Done is = absurd is
  untouched_row device row core answer.NoPath is = refl
  untouched_row device row core answer.WrongType is = refl
  untouched_row device row core answer.Exists is = absurd is
  untouched_row device row core answer.Device is = absurd is
  untouched_row device row core answer.Memory is = inl refl
  untouched_row device row core (answer.Full counter) is = refl

  -- what an insert answers follows the map
  pub row_follows : (device : List ℕ) (row : Row) (old new : Core J F S R P means counts) (result : Answer)
      → IsInsertAnswer (memory_of (logged_of old)) device row.cells result
      → ((world : World) → IsWorldOf old world
      → IsWorldOf new (after_reply world (command.Insert device row) (Plain result)))
      → CoreFollowsMap old new (command.Insert device row) result
  row_follows device row old new result is world_is = record {
    answers = λ world one. row_answers one.outside.told (memory_of (logged_of old)) one.state.store
        one.seen.sound.memory (order_seen old one.outside one.state one.seen) world one.stands device row result is;
    world = world_is;
  }

  pub untouched_follows : (device : List ℕ) (row : Row) (core : Core J F S R P means counts) (result : Answer)
      → IsInsertAnswer (memory_of (logged_of core)) device row.cells result → IsUnchangedAnswer result
      → CoreFollowsMap core core (command.Insert device row) result
  untouched_follows device row core result is untouched = row_follows device row core core result is
      (λ world one. subst (IsWorldOf core) (sym (untouched_world device row result untouched world)) one)

  -- a row whose pair could not be frozen
  pub frozen_row : (device : List ℕ) (row : Row) (old new : Core J F S R P means counts) (result : Answer)
      → IsFreezeAnswer result → result ≢ answer.Done → IsFrozenFor row old new result
      → IsRowCommand device row old new result
  frozen_row device row old new answer.Done is failed frozen = absurd (failed refl)
  frozen_row device row old new answer.NoPath is failed frozen = absurd is
  frozen_row device row old new answer.WrongType is failed frozen = absurd is
  frozen_row device row old new answer.Exists is failed frozen = absurd is
  frozen_row device row old new answer.Device is failed frozen = inr frozen
  frozen_row device row old new answer.Memory is failed frozen = inr (inr frozen)
  frozen_row device row old new (answer.Full counter) is failed frozen = absurd is

  -- a row whose record was tried; its stamp is not at the end
  pub put_row : (device : List ℕ) (row : Row) (old new : Core J F S R P means counts) (stamp : ℕ) (result : Answer)
      → IsAccepted stamp result → stamp < end_of_numbers → IsRowPut device row old new result
      → IsRowCommand device row old new result × IsFreezeAnswer result
  put_row device row old new stamp answer.Done is below put = (put, tt)
  put_row device row old new stamp answer.NoPath is below put = absurd is
  put_row device row old new stamp answer.WrongType is below put = absurd is
  put_row device row old new stamp answer.Exists is below put = absurd is
  put_row device row old new stamp answer.Device is below put = (inl put, tt)
  put_row device row old new stamp answer.Memory is below put = (inr (inl put), tt)
  put_row device row old new stamp (answer.Full counter) is below put =
      let at_end = is.0 in
      absurd (omega (arith, at_end, below))

  -- where the row does not fit, as was tested of what is in memory, the pair can be frozen
  pub can_freeze_for : (old : Core J F S R P means counts) (row : Row) (tested : MemoryState)
      → tested ≡ memory_of (logged_of old)
      → ((state : StoreState) → IsMemoryOf tested state → HasCounts tested.working state.working)
      → length tested.frozen ≤ max_frozen → ¬ NeedsFlush row old → CanFreezeFor row old
  can_freeze_for old row tested same counted two not outside state seen full =
      can_freeze (memory_of (logged_of old)) state.store seen.sound.memory
      (counts_of tested (memory_of (logged_of old)) same counted state.store seen.sound.memory)
      (λ none. full (inl none))
      (at_most_one (length (memory_of (logged_of old)).frozen)
      (subst (λ (m : MemoryState). length m.frozen ≤ max_frozen) same two) (λ are. not (full, are)))

  pub frozen_for : (old : Core J F S R P means counts) (logged : LoggedMemory J means counts) (row : Row) (result : Answer)
      → ¬ FitsCore row old → CanFreezeFor row old → HasCommandEffect old.logged logged Freeze CanStop result
      → MemoryAfter HasFrozen (memory_of (logged_of old)) (memory_of logged) result
      → IsFrozenFor row old (record old { logged = logged }) result
  frozen_for old logged row result full can command made = record {
    full = full;
    can = λ outside state seen. can outside state seen full;
    freeze = freeze_command old logged result command (λ outside state seen. can outside state seen full);
    memory = made;
  }

  -- a working pair that is not idle can be frozen
  pub can_freeze_now : (core : Core J F S R P means counts) (idle : Bool) → idle ≡ false
      → (IsTrue idle ↔ HasNoPairPoint (working_of core)) → HasStateCounts core
      → HasNoPairPoint (working_of core) ⊎ (length (memory_of (logged_of core)).frozen < max_frozen)
      → (outside : Outside) (state : EngineState) → IsSeen core outside state → CanFreeze state.store
  can_freeze_now core idle is tests counted room outside state seen =
      let some : ¬ HasNoPairPoint (working_of core) = λ none. false≢true (sym is ∙ tests.1 none) in
      can_freeze (memory_of (logged_of core)) state.store seen.sound.memory (counted state.store seen.sound.memory) some
      (other_way some room)
