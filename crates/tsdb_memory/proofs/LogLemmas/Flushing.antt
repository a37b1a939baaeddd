-- The commit of a flush: what its append makes of a sound state.
use Rattle.std.proofs.Common.{◌≡◌, ◌⊎◌, inl, inr, List, [], ◌∷◌, ◌++◌, Option, Some, None, Result, Ok, Err, ap, refl, sym, subst}
use Rattle.tsdb_base.specs.declared.ids.FileNumber.{FileNumber}
use Rattle.tsdb_base.specs.declared.ids.Stamp.{Stamp}
use Rattle.tsdb_frames.specs.Frames.{disk_of, slot_of}
use Rattle.tsdb_state.proofs.ImageLemmas.Leaving.{append_moments}
use Rattle.tsdb_state.proofs.ImageLemmas.Storing.{built_numbers, commit_flush_stored, end_flush_stored, flush_failed, no_longer, settled_stored}
use Rattle.tsdb_state.specs.StoredEngine.{built_files}
use Rattle.tsdb_log.specs.Spelling.{IsRecord}
use Rattle.tsdb_log.specs.declared.record.LogRecord.{LogRecord}
use Rattle.tsdb_log.specs.declared.record.LogRecord.TheVariants.{Flushed}
use Rattle.tsdb_memory.specs.Appends.{HasItems, IsAppended}
use Rattle.tsdb_memory.specs.Flushes.{CanCommit}
use Rattle.tsdb_memory.specs.LogState.{HasLog, IsFaulted, IsSoundLogged, IsStoredIn, LeavesStates, Outside, log_of, memory_of, with_record}
use Rattle.tsdb_memory.specs.declared.logged_memory.LoggedMemory.{LoggedMemory}
use Rattle.tsdb_memory.specs.Least.{IsLeastOf}
use Rattle.tsdb_memory.specs.StateOfMemory.{IsMemoryOf, file_borns}
use Rattle.tsdb_outside.specs.Moments.{LeavesFirstThen}
use Rattle.tsdb_outside.specs.declared.disk.Disk as disk
use Rattle.tsdb_outside.specs.declared.faults.Counted as counted
use Rattle.tsdb_outside.specs.declared.faults.Failed.{Failed}
use Rattle.tsdb_base.specs.Lists.{count}
use Rattle.tsdb_state.specs.Jobs.{drawn_by}
use Rattle.tsdb_state.specs.Records.{after, numbers_of}
use Rattle.tsdb_state.specs.State.{EngineState, FlushState, StoreState}
use Rattle.tsdb_state.specs.Steps.{EndsFlush, committed_flush, ended_flush, failed, flush_record}

module _ {J : Type 0} {means : disk.Ghosts J} {counts : counted.Ghosts J} (old new : LoggedMemory J means counts)
    (sequence unsequence : FileNumber) (listed : Option Stamp) (good : IsRecord (Flushed sequence unsequence))
    (outside : Outside) (state : EngineState) (flush : FlushState) (others : List FlushState)
    (sound : IsSoundLogged old outside state) (can : CanCommit sequence unsequence listed outside state flush others) where
  abbrev item : LogRecord
  item = Flushed sequence unsequence

  -- the files are on their way out
  abbrev gone : EngineState
  gone = ended_flush flush others (built_files flush) state

  is_good : IsRecord (flush_record flush)
  is_good = subst IsRecord (sym can.numbers) good

  doubted : IsStoredIn outside (failed (flush_record flush) gone)
  doubted = flush_failed outside.items outside.kept outside.told outside.known state sound.stored flush others
      can.commits is_good can.kept

  pub flush_moments : (outcome : Result (Unit {0}) Failed) → IsAppended old new item outcome
      → LeavesStates old new outside state (flush_record flush)
  flush_moments outcome append at after_it next stands leads leads_after =
      append_moments outside.items outside.kept outside.told outside.known state gone (flush_record flush) at after_it
      next (slot_of (log_of old)) (disk_of (log_of old)) (disk_of (log_of new)) sound.stored doubted refl stands leads
      leads_after
      (subst Moments (sym can.numbers) (append.moments outside.items state.doubt sound.log))
    where
      Moments : LogRecord → Type 0
      Moments i = LeavesFirstThen (disk_of (log_of old)) (disk_of (log_of new)) (HasItems old outside.items state.doubt)
          (HasItems old outside.items (Some i))

  pub flush_done : IsAppended old new item (Ok tt)
      → ((shown : StoreState) → IsMemoryOf (memory_of old) shown → IsLeastOf listed (file_borns (after item shown))
      → IsMemoryOf (memory_of new) (after item shown))
      → IsSoundLogged new (with_record (flush_record flush) outside) (committed_flush flush others state)
  flush_done append effect = record {
    memory = subst (λ (i : LogRecord). IsMemoryOf (memory_of new) (after i state.store)) (sym can.numbers)
        (effect state.store sound.memory
        (subst (λ (i : LogRecord). IsLeastOf listed (file_borns (after i state.store))) can.numbers can.least));
    log = subst (λ (i : LogRecord). HasLog new (outside.items ++ i ∷ []) None) (sym can.numbers)
        (append.added outside.items state.doubt sound.log);
    stored = commit_flush_stored outside.items outside.kept outside.told outside.known state sound.stored flush others
        can.commits is_good can.kept;
  }

  pub flush_faulted : (fault : Failed) → IsAppended old new item (Err fault)
      → memory_of new ≡ memory_of old → IsFaulted new outside gone (flush_record flush)
  flush_faulted fault append same =
      by (append.failed outside.items state.doubt sound.log)
    where
      as_before : IsMemoryOf (memory_of new) state.store
      as_before = subst (λ store. IsMemoryOf store state.store) (sym same) sound.memory

      ended : IsStoredIn outside gone
      ended = end_flush_stored outside.items outside.kept outside.told outside.known state sound.stored flush others
          (built_files flush) ends can.kept
        where
          ends : EndsFlush flush others (built_files flush) state
          ends = record {
            out = can.commits.out;
            files = λ number. no_longer (count number (numbers_of (built_files flush))) (count number (drawn_by flush))
                (ap (count number) (built_numbers flush.born (drawn_by flush)));
          }

      by : HasLog new outside.items None ⊎ (HasLog new outside.items state.doubt ⊎ HasLog new outside.items (Some item))
          → IsFaulted new outside gone (flush_record flush)
      by (inl none) = inl (record {
        memory = as_before;
        log = none;
        stored = settled_stored outside.items outside.kept outside.told outside.known gone ended;
      })
      by (inr (inl same_doubt)) = inr (inl (record { memory = as_before; log = same_doubt; stored = ended }))
      by (inr (inr this)) = inr (inr (record {
        memory = as_before;
        log = subst (λ (i : LogRecord). HasLog new outside.items (Some i)) (sym can.numbers) this;
        stored = doubted;
      }))
