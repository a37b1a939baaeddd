-- A settling, and then an append.
use Rattle.std.proofs.Common.{◌≡◌, ℕ, ◌⊎◌, inl, inr, ⊎_elim, List, [], ◌∷◌, map, Option, Some, None, Result, Ok, Err, sym, subst, arith, rules}
use Rattle.std.specs.Prelude.{◌≤◌, IfSome}
use Rattle.std.specs.Option.{option_map}
use Rattle.std.proofs.lemmas.List.{map-append}
use Rattle.tsdb_base.specs.declared.ids.FileNumber.{FileNumber}
use Rattle.tsdb_frames.proofs.MomentLemmas.{leaves_on, weaker}
use Rattle.tsdb_frames.proofs.CallLemmas.{keeps_to_slot_on}
use Rattle.tsdb_frames.specs.Appends.{IsAppend}
use Rattle.tsdb_frames.specs.Calls.{KeepsToSlot}
use Rattle.tsdb_frames.specs.Frames.{IsLog, disk_of, faults_of, slot_of}
use Rattle.tsdb_frames.specs.Log.{HasRecordsOrOneMore}
use Rattle.tsdb_frames.specs.declared.frames.Frames.{Frames}
use Rattle.tsdb_log.specs.Spelling.{spelling}
use Rattle.tsdb_log.specs.declared.record.LogRecord.{LogRecord}
use Rattle.tsdb_memory.specs.Appends.{HasItems, IsAppended}
use Rattle.tsdb_memory.specs.LogState.{HasLog, log_of, two_numbers}
use Rattle.tsdb_memory.specs.declared.logged_memory.LoggedMemory.{LoggedMemory}
use Rattle.tsdb_base.specs.Causes.{Rose}
use Rattle.tsdb_outside.specs.Causes.{HasCause}
use Rattle.tsdb_outside.specs.Disk.{Image, IsLawful, DiskState, in_slot}
use Rattle.tsdb_outside.specs.Moments.{LeavesFirstThen, LeavesOnly}
use Rattle.tsdb_outside.specs.declared.disk.Disk as disk
use Rattle.tsdb_outside.specs.declared.faults.Counted as counted
use Rattle.tsdb_outside.specs.declared.faults.Failed.{Failed}
use Rattle.tsdb_state.specs.Records.{names}

-- first what leaves what has P; then what leaves that, or until some moment that, and what has Q from then on
pub then_turns : (old mid new : DiskState) → IsLawful new → (P R Q : Image → Type 0) → ((image : Image) → R image → P image)
    → LeavesOnly old mid P → LeavesFirstThen mid new R Q → LeavesFirstThen old new P Q
then_turns old mid new laws P R Q wider first (inl second) =
    inl (leaves_on old mid new laws P first (weaker mid new R P wider second))
then_turns old mid new laws P R Q wider first (inr turns) = inr (record {
  passes = (leaves_on old mid new laws (λ image. Unit {0}) (record { passes = first.passes; each = λ image left. tt })
      (record { passes = turns.passes; each = λ image left. tt })).passes;
  turn = turns.turn;
  begins = omega (arith, first.passes.later, turns.begins);
  ends = turns.ends;
  until = λ image left. ⊎_elim (λ earlier. inl (first.each image earlier))
      (λ since. ⊎_elim (λ r. inl (wider image r)) (λ q. inr q) (turns.until image since))
      (turns.passes.nothing_else old.moment image first.passes.later left);
  from_then = turns.from_then;
})

rose_later : (a b c : ℕ) → a ≤ b → Rose b c → Rose a c
rose_later a b c le rose = search (rules, le, rose)

cause_later : (a b c : ℕ) (outcome : Result (Unit {0}) Failed) → a ≤ b → HasCause b c outcome → HasCause a c outcome
cause_later a b c (Ok done) le cause = record { later = omega (arith, le, cause.later); failed = tt }
cause_later a b c (Err fault) le cause =
    record { later = omega (arith, le, cause.later); failed = rose_later a b c le cause.failed }

module _ {J : Type 0} {means : disk.Ghosts J} {counts : counted.Ghosts J} where
  -- what is at hand of a settling at its moments
  abbrev pub IsSettling : Frames J means counts → Frames J means counts → Type 0
  IsSettling old new = (acknowledged : List (List ℕ)) (in_doubt : Option (List ℕ)) → IsLog old acknowledged in_doubt
      → LeavesOnly (disk_of old) (disk_of new)
      (λ image. HasRecordsOrOneMore acknowledged in_doubt (in_slot (slot_of old) image))

  -- the settling failed
  pub settling_failed : (old new : LoggedMemory J means counts) (item : LogRecord) (fault : Failed)
      → ((acknowledged : List (List ℕ)) (in_doubt : Option (List ℕ)) → IsLog (log_of old) acknowledged in_doubt
      → IsLog (log_of new) acknowledged in_doubt)
      → IsSettling (log_of old) (log_of new) → KeepsToSlot (log_of old) (log_of new)
      → HasCause {T = Unit {0}} {E = Failed} (faults_of (log_of old)) (faults_of (log_of new)) (Err fault)
      → new.doubted ≡ old.doubted → IsAppended old new item (Err fault)
  settling_failed old new item fault same moments slot cause doubted = record {
    added = tt;
    failed = λ items doubt has. inr (inl (record {
      log = same (map spelling items) (option_map spelling doubt) has.log;
      named = subst (λ (files : Option FileNumber × Option FileNumber). IfSome doubt
          (λ item. two_numbers files ≡ names item)) (sym doubted) has.named;
    }));
    moments = λ items doubt has. inl (moments (map spelling items) (option_map spelling doubt) has.log);
    slot = slot;
    cause = cause;
  }

  -- it succeeded, and the append was made
  module _ (old new : LoggedMemory J means counts) (mid : Frames J means counts) (item : LogRecord)
      (settled : (acknowledged : List (List ℕ)) (in_doubt : Option (List ℕ)) → IsLog (log_of old) acknowledged in_doubt
      → IsLog mid acknowledged None)
      (moments : IsSettling (log_of old) mid) (slot : KeepsToSlot (log_of old) mid)
      (later : faults_of (log_of old) ≤ faults_of mid) (named : two_numbers new.doubted ≡ names item) where
    has_log : (items : List LogRecord) (doubt : Option LogRecord) → HasLog old items doubt
        → IsLog mid (map spelling items) None
    has_log items doubt has = settled (map spelling items) (option_map spelling doubt) has.log

    -- none is in doubt any more, so what a stop leaves until the gate of this one is opened is what it left before
    all_moments : (items : List LogRecord) (doubt : Option LogRecord) → HasLog old items doubt
        → LeavesFirstThen (disk_of mid) (disk_of (log_of new))
        (λ image. HasRecordsOrOneMore (map spelling items) None (in_slot (slot_of mid) image))
        (λ image. HasRecordsOrOneMore (map spelling items) (Some (spelling item)) (in_slot (slot_of mid) image))
        → LeavesFirstThen (disk_of (log_of old)) (disk_of (log_of new)) (HasItems old items doubt)
        (HasItems old items (Some item))
    all_moments items doubt has append =
        then_turns (disk_of (log_of old)) (disk_of mid) (disk_of (log_of new)) (means.lawful (log_of new).journal)
        (HasItems old items doubt)
        (λ image. HasRecordsOrOneMore (map spelling items) None (in_slot (slot_of (log_of old)) image))
        (HasItems old items (Some item)) (λ image first. wider doubt image first)
        (moments (map spelling items) (option_map spelling doubt) has.log)
        (subst (λ slot. LeavesFirstThen (disk_of mid) (disk_of (log_of new))
        (λ image. HasRecordsOrOneMore (map spelling items) None (in_slot slot image))
        (λ image. HasRecordsOrOneMore (map spelling items) (Some (spelling item)) (in_slot slot image))) slot.same append)
      where
        wider : (doubt : Option LogRecord) (image : Image)
            → HasRecordsOrOneMore (map spelling items) None (in_slot (slot_of (log_of old)) image)
            → HasItems old items doubt image
        wider None image first = first
        wider (Some other) image first = inl first

    pub then_appended : (outcome : Result (Unit {0}) Failed) → IsAppend mid (log_of new) (spelling item) outcome
        → IsAppended old new item outcome
    then_appended (Ok done) append = record {
      added = λ items doubt has. record {
        log = subst (λ records. IsLog (log_of new) records None) (sym (map-append spelling items (item ∷ [])))
            (append.added (map spelling items) None (has_log items doubt has));
        named = tt;
      };
      failed = tt;
      moments = λ items doubt has. all_moments items doubt has
          (append.moments (map spelling items) None (has_log items doubt has));
      slot = keeps_to_slot_on (log_of old) mid (log_of new) slot append.slot;
      cause = cause_later (faults_of (log_of old)) (faults_of mid) (faults_of (log_of new)) (Ok done) later append.cause;
    }
    then_appended (Err fault) append = record {
      added = tt;
      failed = λ items doubt has. by items doubt (append.failed (map spelling items) None (has_log items doubt has));
      moments = λ items doubt has. all_moments items doubt has
          (append.moments (map spelling items) None (has_log items doubt has));
      slot = keeps_to_slot_on (log_of old) mid (log_of new) slot append.slot;
      cause = cause_later (faults_of (log_of old)) (faults_of mid) (faults_of (log_of new)) (Err fault) later
          append.cause;
    }
      where
        by : (items : List LogRecord) (doubt : Option LogRecord)
            → IsLog (log_of new) (map spelling items) None ⊎ (IsLog (log_of new) (map spelling items) None
            ⊎ IsLog (log_of new) (map spelling items) (Some (spelling item)))
            → HasLog new items None ⊎ (HasLog new items doubt ⊎ HasLog new items (Some item))
        by items doubt (inl none) = inl (record { log = none; named = tt })
        by items doubt (inr (inl none)) = inl (record { log = none; named = tt })
        by items doubt (inr (inr this)) = inr (inr (record { log = this; named = named }))
