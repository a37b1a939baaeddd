-- What a record that was appended, or whose append failed, makes of a sound state.
use Rattle.std.proofs.Common.{◌≡◌, ◌⊎◌, inl, inr, List, [], ◌∷◌, ◌++◌, map, Option, Some, None, Result, Ok, Err, refl, sym, subst, ◌∙◌, arith}
use Rattle.std.specs.Prelude.{◌≤◌, IfSome, OnErr, OnOk}
use Rattle.std.specs.Option.{option_map}
use Rattle.tsdb_base.specs.declared.answers.Answer.{Answer}
use Rattle.tsdb_base.specs.declared.answers.Answer.TheVariants as answer
use Rattle.tsdb_base.specs.declared.ids.FileNumber.{FileNumber}
use Rattle.tsdb_frames.proofs.CallLemmas.{same_keeps_to_slot}
use Rattle.tsdb_frames.specs.Calls.{KeepsToSlot}
use Rattle.tsdb_frames.specs.Frames.{IsLog, disk_of, faults_of, slot_of}
use Rattle.tsdb_frames.specs.Log.{HasRecordsOrOneMore}
use Rattle.tsdb_frames.specs.declared.frames.Frames.{Frames}
use Rattle.tsdb_state.proofs.ImageLemmas.Leaving.{append_moments, image_stands}
use Rattle.tsdb_state.proofs.ImageLemmas.Storing.{settled_stored}
use Rattle.tsdb_state.specs.StoredEngine.{LeavesOneOf}
use Rattle.tsdb_log.specs.Spelling.{spelling}
use Rattle.tsdb_log.specs.declared.record.LogRecord.{LogRecord}
use Rattle.tsdb_memory.specs.Answers.{IsRefusal}
use Rattle.tsdb_memory.specs.Appends.{IsAppended, IsLogKept}
use Rattle.tsdb_memory.specs.Commands.{IsAfter, HasCommandEffect, IsPrepared}
use Rattle.tsdb_memory.specs.LogState.{HasLog, IsFaulted, IsSoundLogged, IsStoredIn, LeavesStates, Outside, log_of, memory_of, framed_room, two_numbers, with_record}
use Rattle.tsdb_memory.specs.declared.logged_memory.LoggedMemory.{LoggedMemory}
use Rattle.tsdb_memory.specs.StateOfMemory.{IsMemoryOf}
use Rattle.tsdb_outside.proofs.DiskLemmas.{Elapses-same}
use Rattle.tsdb_outside.specs.Causes.{HasCause}
use Rattle.tsdb_outside.specs.Disk.{Image, in_slot}
use Rattle.tsdb_outside.specs.Moments.{LeavesFirstThen, LeavesOnly}
use Rattle.tsdb_outside.specs.declared.disk.Disk as disk
use Rattle.tsdb_outside.specs.declared.faults.Counted as counted
use Rattle.tsdb_outside.specs.declared.faults.Failed.{Failed}
use Rattle.tsdb_state.specs.Records.{after, names}
use Rattle.tsdb_state.specs.State.{EngineState, StoreState}
use Rattle.tsdb_state.specs.Steps.{failed, wrote}

module _ {J : Type 0} {means : disk.Ghosts J} {counts : counted.Ghosts J} where
  -- where the log is as it was
  untouched : (old new : LoggedMemory J means counts) (outside : Outside) (state : EngineState) (item : LogRecord)
      → IsSoundLogged old outside state → log_of new ≡ log_of old → LeavesStates old new outside state item
  untouched old new outside state item sound same at after next stands leads leads_after =
      subst (λ (log : Frames J means counts). LeavesOnly (disk_of (log_of old)) (disk_of log) Leaves) (sym same)
      (record {
        passes = Elapses-same (disk_of (log_of old)) ((disk_of (log_of old)).left_since (disk_of (log_of old)).moment);
        each = λ image left. inl (image_stands outside.items outside.kept outside.told outside.known state sound.stored
            at next stands leads (slot_of (log_of old)) (disk_of (log_of old)) (log_of old).gate image
            sound.log.log.stands ((means.lawful (log_of old).journal).only_now image left));
      })
    where
      Leaves : Image → Type 0
      Leaves image = LeavesOneOf outside.kept (slot_of (log_of old)) at next image
          ⊎ LeavesOneOf outside.kept (slot_of (log_of old)) at (Some after) image

  log_kept : (old new : LoggedMemory J means counts) (items : List LogRecord) (doubt : Option LogRecord) → IsLogKept old new
      → HasLog old items doubt → HasLog new items doubt
  log_kept old new items doubt same has = record {
    log = subst (λ (log : Frames J means counts). IsLog log (map spelling items) (option_map spelling doubt))
        (sym same.log) has.log;
    named = subst (λ (files : Option FileNumber × Option FileNumber). IfSome doubt
        (λ item. two_numbers files ≡ names item)) (sym same.doubted) has.named;
  }

  -- where memory ended, or a refusal came before anything was changed
  pub no_memory : (old new : LoggedMemory J means counts) (item : LogRecord) (Needs : EngineState → Type 0)
      → IsLogKept old new
      → ((state : StoreState) → IsMemoryOf (memory_of old) state → IsMemoryOf (memory_of new) state)
      → framed_room old ≤ framed_room new → HasCommandEffect old new item Needs answer.Memory
  no_memory old new item Needs same memory room = record {
    step = λ outside state sound needs. still outside state sound;
    moments = λ outside state sound needs. untouched old new outside state item sound same.log;
    refused = λ is. absurd is;
    memory = λ is. same;
    room = room;
    slot = same_keeps_to_slot (log_of old) (log_of new) same.log;
    cause = λ is. absurd (cc);
    later = subst (λ (log : Frames J means counts). counts.faults (log_of old).journal ≤ counts.faults log.journal)
        (sym same.log) (omega arith);
  }
    where
      still : (outside : Outside) (state : EngineState) → IsSoundLogged old outside state → IsSoundLogged new outside state
      still outside state sound = record {
        memory = memory state.store sound.memory;
        log = log_kept old new outside.items state.doubt same sound.log;
        stored = sound.stored;
      }

  pub refuses : (old : LoggedMemory J means counts) (item : LogRecord) (Needs : EngineState → Type 0) (result : Answer)
      → IsRefusal result → HasCommandEffect old old item Needs result
  refuses old item Needs result is = record {
    step = λ outside state sound needs. as_before result is outside state sound;
    moments = λ outside state sound needs. untouched old old outside state item sound refl;
    refused = λ is. refl;
    memory = λ is. record { log = refl; doubted = refl };
    room = omega arith;
    slot = same_keeps_to_slot (log_of old) (log_of old) refl;
    cause = λ device. absurd (no_fault result is device);
    later = omega arith;
  }
    where
      as_before : (result : Answer) → IsRefusal result → (outside : Outside) (state : EngineState)
          → IsSoundLogged old outside state → IsAfter old outside state item result
      as_before answer.Done is outside state sound = absurd is
      as_before answer.NoPath is outside state sound = sound
      as_before answer.WrongType is outside state sound = sound
      as_before answer.Exists is outside state sound = sound
      as_before answer.Device is outside state sound = absurd is
      as_before answer.Memory is outside state sound = absurd is
      as_before (answer.Full counter) is outside state sound = sound

      no_fault : (result : Answer) → IsRefusal result → result ≡ answer.Device → ⊥
      no_fault answer.Done is device = is
      no_fault answer.NoPath is device = cc
      no_fault answer.WrongType is device = cc
      no_fault answer.Exists is device = cc
      no_fault answer.Device is device = is
      no_fault answer.Memory is device = is
      no_fault (answer.Full counter) is device = cc

  module _ (old new : LoggedMemory J means counts) (item : LogRecord) (Needs : EngineState → Type 0)
      (stored : (outside : Outside) (state : EngineState) → IsSoundLogged old outside state → Needs state
      → IsStoredIn (with_record item outside) (wrote item state))
      (doubtful : (outside : Outside) (state : EngineState) → IsSoundLogged old outside state → Needs state
      → IsStoredIn outside (failed item state)) where
    -- what is at hand after an append, by how it ended
    moments_of : (outcome : Result (Unit {0}) Failed) → IsAppended old new item outcome
        → (outside : Outside) (state : EngineState) → IsSoundLogged old outside state → Needs state
        → LeavesStates old new outside state item
    moments_of outcome append outside state sound needs at after next stands leads leads_after =
        append_moments outside.items outside.kept outside.told outside.known state state item at after next
        (slot_of (log_of old)) (disk_of (log_of old)) (disk_of (log_of new)) sound.stored
        (doubtful outside state sound needs) refl stands leads leads_after
        (append.moments outside.items state.doubt sound.log)

    -- the record was appended
    pub written : IsAppended old new item (Ok tt)
        → ((state : EngineState) → IsMemoryOf (memory_of old) state.store → Needs state
        → IsMemoryOf (memory_of new) (after item state.store))
        → framed_room old ≤ framed_room new → HasCommandEffect old new item Needs answer.Done
    written append effect room = record {
      step = λ outside state sound needs. record {
        memory = effect state sound.memory needs;
        log = append.added outside.items state.doubt sound.log;
        stored = stored outside state sound needs;
      };
      moments = moments_of (Ok tt) append;
      refused = λ is. absurd is;
      memory = λ is. absurd (cc);
      room = room;
      slot = append.slot;
      cause = λ is. absurd (cc);
      later = append.cause.later;
    }

    -- its append failed
    pub faulted : (fault : Failed) → IsAppended old new item (Err fault)
        → ((state : StoreState) → IsMemoryOf (memory_of old) state → IsMemoryOf (memory_of new) state)
        → framed_room old ≤ framed_room new → HasCommandEffect old new item Needs answer.Device
    faulted fault append same room = record {
      step = λ outside state sound needs. by outside state sound needs
          (append.failed outside.items state.doubt sound.log);
      moments = moments_of (Err fault) append;
      refused = λ is. absurd is;
      memory = λ is. absurd (cc);
      room = room;
      slot = append.slot;
      cause = λ is. append.cause.failed;
      later = append.cause.later;
    }
      where
        by : (outside : Outside) (state : EngineState) → IsSoundLogged old outside state → Needs state
            → HasLog new outside.items None
            ⊎ (HasLog new outside.items state.doubt ⊎ HasLog new outside.items (Some item))
            → IsFaulted new outside state item
        by outside state sound needs (inl none) = inl (record {
          memory = same state.store sound.memory;
          log = none;
          stored = settled_stored outside.items outside.kept outside.told outside.known state sound.stored;
        })
        by outside state sound needs (inr (inl as_before)) = inr (inl (record {
          memory = same state.store sound.memory;
          log = as_before;
          stored = sound.stored;
        }))
        by outside state sound needs (inr (inr this)) = inr (inr (record {
          memory = same state.store sound.memory;
          log = this;
          stored = doubtful outside state sound needs;
        }))

  -- an append after memory was taken is one of the log before
  pub appended_from : (old mid new : LoggedMemory J means counts) (item : LogRecord) (outcome : Result (Unit {0}) Failed)
      → IsLogKept old mid → IsAppended mid new item outcome → IsAppended old new item outcome
  appended_from old mid new item outcome kept append = record {
    added = by_ok outcome append.added;
    failed = by_err outcome append.failed;
    moments = λ items doubt has. subst (λ (log : Frames J means counts). LeavesFirstThen (disk_of log)
        (disk_of (log_of new)) (λ image. HasRecordsOrOneMore (map spelling items) (option_map spelling doubt)
        (in_slot (slot_of log) image)) (λ image. HasRecordsOrOneMore (map spelling items) (Some (spelling item))
        (in_slot (slot_of log) image))) kept.log (append.moments items doubt (log_kept old mid items doubt kept has));
    slot = subst (λ (log : Frames J means counts). KeepsToSlot log (log_of new)) kept.log append.slot;
    cause = subst (λ (log : Frames J means counts). HasCause (faults_of log) (faults_of (log_of new)) outcome) kept.log
        append.cause;
  }
    where
      by_ok : (outcome : Result (Unit {0}) Failed)
          → OnOk outcome ((items : List LogRecord) (doubt : Option LogRecord) → HasLog mid items doubt
          → HasLog new (items ++ item ∷ []) None)
          → OnOk outcome ((items : List LogRecord) (doubt : Option LogRecord) → HasLog old items doubt
          → HasLog new (items ++ item ∷ []) None)
      by_ok (Ok done) added = λ items doubt has. added items doubt (log_kept old mid items doubt kept has)
      by_ok (Err fault) added = tt

      by_err : (outcome : Result (Unit {0}) Failed)
          → OnErr outcome ((items : List LogRecord) (doubt : Option LogRecord) → HasLog mid items doubt
          → HasLog new items None ⊎ (HasLog new items doubt ⊎ HasLog new items (Some item)))
          → OnErr outcome ((items : List LogRecord) (doubt : Option LogRecord) → HasLog old items doubt
          → HasLog new items None ⊎ (HasLog new items doubt ⊎ HasLog new items (Some item)))
      by_err (Ok done) failing = tt
      by_err (Err fault) failing = λ items doubt has. failing items doubt (log_kept old mid items doubt kept has)

  -- the log is kept by one call and the next
  pub both_kept : (old mid new : LoggedMemory J means counts) → IsLogKept old mid → IsLogKept mid new → IsLogKept old new
  both_kept old mid new first second =
      record { log = second.log ∙ first.log; doubted = second.doubted ∙ first.doubted }

  -- memory ended while it was taken
  pub out_of_memory : (old new : LoggedMemory J means counts) (item : LogRecord) (Needs : EngineState → Type 0)
      → IsPrepared old new → HasCommandEffect old new item Needs answer.Memory
  out_of_memory old new item Needs prepared =
      no_memory old new item Needs prepared.log prepared.same prepared.record_room
