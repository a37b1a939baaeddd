-- A command from its beginning to its end: memory was taken, its record was appended or not, and it took effect or not.
use Rattle.std.proofs.Common.{◌≡◌, ℕ, ℤ, List, [], ◌∷◌, ◌++◌, None, Ok, Err, sym, subst, arith}
use Rattle.std.specs.Prelude.{◌<◌, ◌≤◌, IsSome}
use Rattle.tsdb_base.specs.declared.answers.Answer.TheVariants as answer
use Rattle.tsdb_base.specs.declared.point.Range.{Range}
use Rattle.tsdb_state.proofs.ImageLemmas.Storing.{create_failed, create_stored, delete_failed, delete_stored, freeze_failed, freeze_stored}
use Rattle.tsdb_state.proofs.ImageLemmas.Storing.{insert_failed, insert_stored}
use Rattle.tsdb_log.specs.Spelling.{IsRecord}
use Rattle.tsdb_log.specs.declared.record.CellRecord.{CellRecord}
use Rattle.tsdb_log.specs.declared.record.LogRecord.{LogRecord}
use Rattle.tsdb_log.specs.declared.record.LogRecord.TheVariants.{Delete, Freeze, Insert}
use Rattle.tsdb_memory.proofs.LogLemmas.Series.{can_create, can_delete}
use Rattle.tsdb_memory.proofs.LogLemmas.Steps.{appended_from, both_kept, faulted, no_memory, written}
use Rattle.tsdb_memory.specs.Answers.{answer_by}
use Rattle.tsdb_memory.specs.Appends.{HasStopped, IsAppended}
use Rattle.tsdb_memory.specs.Commands.{CanPut, CanStop, HasCommandEffect, IsPrepared, create_record}
use Rattle.tsdb_memory.specs.LogState.{HasLog, IsSoundLogged, IsStoredIn, Outside, memory_of, framed_room, with_record}
use Rattle.tsdb_memory.specs.declared.logged_memory.LoggedMemory.{LoggedMemory}
use Rattle.tsdb_model.specs.Commands.{IsSchema}
use Rattle.tsdb_model.specs.declared.command.Schema.{Schema}
use Rattle.tsdb_memory.specs.StateOfMemory.{IsMemoryOf, number_of}
use Rattle.tsdb_memory.specs.Store.{MemoryState}
use Rattle.tsdb_outside.specs.declared.disk.Disk as disk
use Rattle.tsdb_outside.specs.declared.faults.Counted as counted
use Rattle.tsdb_outside.specs.declared.faults.StoreFault.{StoreFault}
use Rattle.tsdb_outside.specs.declared.faults.StoreFault.TheVariants as store
use Rattle.tsdb_base.specs.Limits.{end_of_numbers}
use Rattle.tsdb_state.specs.Records.{after}
use Rattle.tsdb_state.specs.State.{EngineState, StoreState}
use Rattle.tsdb_state.specs.Steps.{failed, wrote}

module _ {J : Type 0} {means : disk.Ghosts J} {counts : counted.Ghosts J} where
  -- the record leads from each sound state that has what it needs to a stored one, and may be in doubt
  pub record CanLog (old : LoggedMemory J means counts) (item : LogRecord) (Needs : EngineState → Type 0) : Type 0 where
    pub stored : (outside : Outside) (state : EngineState) → IsSoundLogged old outside state → Needs state
        → IsStoredIn (with_record item outside) (wrote item state)
    pub doubtful : (outside : Outside) (state : EngineState) → IsSoundLogged old outside state → Needs state
        → IsStoredIn outside (failed item state)

  pub logs_create : (old : LoggedMemory J means counts) (schema : Schema) (Needs : EngineState → Type 0)
      → IsSchema schema → number_of (memory_of old).series schema.path ≡ None → (memory_of old).stamp < end_of_numbers
      → IsRecord (create_record schema) → CanLog old (create_record schema) Needs
  logs_create old schema Needs formed free stamp good = record {
    stored = λ outside state sound needs. create_stored outside.items outside.kept outside.told outside.known state
        sound.stored schema (can_create (memory_of old) state.store schema sound.memory formed free stamp) good;
    doubtful = λ outside state sound needs. create_failed outside.items outside.kept outside.told outside.known state
        sound.stored schema (can_create (memory_of old) state.store schema sound.memory formed free stamp) good;
  }

  pub logs_delete : (old : LoggedMemory J means counts) (path : List ℕ) (range : Range)
      (Needs : EngineState → Type 0) → IsSome (number_of (memory_of old).series path)
      → (memory_of old).stamp < end_of_numbers → IsRecord (Delete path range) → CanLog old (Delete path range) Needs
  logs_delete old path range Needs there stamp good = record {
    stored = λ outside state sound needs. delete_stored outside.items outside.kept outside.told outside.known state
        sound.stored path range (can_delete (memory_of old) state.store path sound.memory there stamp) good;
    doubtful = λ outside state sound needs. delete_failed outside.items outside.kept outside.told outside.known state
        sound.stored path range (can_delete (memory_of old) state.store path sound.memory there stamp) good;
  }

  pub logs_insert : (old : LoggedMemory J means counts) (time : ℤ) (cells : List CellRecord) → IsRecord (Insert time cells)
      → CanLog old (Insert time cells) (CanPut time cells)
  logs_insert old time cells good = record {
    stored = λ outside state sound needs. insert_stored outside.items outside.kept outside.told outside.known state
        sound.stored time cells needs.0 needs.1 good;
    doubtful = λ outside state sound needs. insert_failed outside.items outside.kept outside.told outside.known state
        sound.stored time cells needs.0 needs.1 good;
  }

  pub logs_freeze : (old : LoggedMemory J means counts) → IsRecord Freeze → CanLog old Freeze CanStop
  logs_freeze old good = record {
    stored = λ outside state sound needs. freeze_stored outside.items outside.kept outside.told outside.known state
        sound.stored needs good;
    doubtful = λ outside state sound needs. freeze_failed outside.items outside.kept outside.told outside.known state
        sound.stored needs good;
  }

  -- what is in memory says nothing of the log
  pub other_memory : (old logged : LoggedMemory J means counts) (memory : MemoryState) (item : LogRecord)
      → IsAppended old logged item (Ok tt) → IsAppended old (record logged { memory = memory }) item (Ok tt)
  other_memory old logged memory item append = record {
    added = λ items doubt has. keep items (append.added items doubt has);
    failed = tt;
    moments = append.moments;
    slot = append.slot;
    cause = append.cause;
  }
    where
      keep : (items : List LogRecord) → HasLog logged (items ++ item ∷ []) None
          → HasLog (record logged { memory = memory }) (items ++ item ∷ []) None
      keep items has = record { log = has.log; named = has.named }

  module _ (old mid logged : LoggedMemory J means counts) (item : LogRecord) (Needs : EngineState → Type 0)
      (can : IsRecord item → CanLog old item Needs) (prepared : IsPrepared old mid)
      (room : framed_room mid ≤ framed_room logged) (same : memory_of logged ≡ memory_of mid) where
    all_room : framed_room old ≤ framed_room logged
    all_room = omega (arith, prepared.record_room, room)

    shown : (state : StoreState) → IsMemoryOf (memory_of old) state → IsMemoryOf (memory_of logged) state
    shown state is = subst (λ store. IsMemoryOf store state) (sym same) (prepared.same state is)

    -- its record was appended, and it took effect
    pub takes_effect : (memory : MemoryState) → IsRecord item × IsAppended mid logged item (Ok tt)
        → ((state : EngineState) → IsMemoryOf (memory_of logged) state.store → Needs state
        → IsMemoryOf memory (after item state.store))
        → HasCommandEffect old (record logged { memory = memory }) item Needs answer.Done
    takes_effect memory ended effect =
        written old (record logged { memory = memory }) item Needs (can ended.0).stored (can ended.0).doubtful
        (other_memory old logged memory item (appended_from old mid logged item (Ok tt) prepared.log ended.1))
        (λ state is needs. effect state (shown state.store is) needs) all_room

    -- its append failed, or memory ended before it
    pub stops : (fault : StoreFault) → HasStopped mid logged item fault
        → HasCommandEffect old logged item Needs (answer_by (Err fault))
    stops store.Failed ended = faulted old logged item Needs (can ended.0).stored (can ended.0).doubtful (record {})
        (appended_from old mid logged item (Err record {}) prepared.log ended.1) shown all_room
    stops store.Memory ended = no_memory old logged item Needs (both_kept old mid logged prepared.log ended.0) shown
        all_room
