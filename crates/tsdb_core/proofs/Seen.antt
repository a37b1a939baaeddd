-- The state that a core shows after a command, and after a sweep.
use Rattle.std.proofs.Common.{◌≡◌, ℕ, false, inl, inr, List, [], ◌∷◌, ◌++◌, length, map, Option, Some, None, Result, Ok, Err}
use Rattle.std.proofs.Common.{ap, append_assoc, refl, sym, subst, ◌∙◌}
use Rattle.std.proofs.lemmas.List.{append-nil}
use Rattle.std.proofs.Common.{arith}
use Rattle.std.specs.Prelude.{◌<◌, ◌≤◌, IfOk, IfSome, OnErr, OnOk}
use Rattle.tsdb_base.specs.declared.answers.Answer.{Answer}
use Rattle.tsdb_base.specs.declared.answers.Answer.TheVariants as answer
use Rattle.tsdb_base.specs.declared.ids.FileNumber.{FileNumber}
use Rattle.tsdb_base.specs.declared.ids.Stamp.{Stamp}
use Rattle.tsdb_base.specs.declared.point.Range.{Range}
use Rattle.tsdb_core.proofs.Claims.{claims_stay, same_lists}
use Rattle.tsdb_core.proofs.Loans.{all_same, all_swept}
use Rattle.tsdb_core.specs.Commands.{IsCoreCommand, IsSeenAfter}
use Rattle.tsdb_core.specs.Core.{AreClaimed, IsSeen, KeepsJobs, next_of}
use Rattle.tsdb_core.specs.Sweeps.{IsSwept, IsSweptOf, without_files}
use Rattle.tsdb_core.specs.declared.engine.Core.{Core}
use Rattle.tsdb_frames.specs.Frames.{is_in_doubt}
use Rattle.tsdb_fileset.proofs.StateSweeps.{borns_are, of_those_that_stay, places_stay, sweep_is, tell_on}
use Rattle.tsdb_fileset.specs.StateOfFiles.{AreFilesOf, AreSomeOf, IsDoubtOf, TellTheirBytes, may_go, told_numbers}
use Rattle.tsdb_state.proofs.ImageLemmas.Storing.{sweep_stored}
use Rattle.tsdb_fileset.specs.Files.{IsOpen, KeptFiles, kept_file, listed_borns}
use Rattle.tsdb_fileset.specs.Sweeps.{LeavesWithout, StopsSweepAt, tried_numbers}
use Rattle.tsdb_fileset.specs.declared.files.Outgoing.{Outgoing}
use Rattle.tsdb_fileset.specs.declared.room.Spare.{Spare}
use Rattle.tsdb_base.proofs.Lists.{among_left, each_weaker}
use Rattle.tsdb_base.specs.Lists.{Among, if_some}
use Rattle.tsdb_log.specs.declared.record.LogRecord.{LogRecord}
use Rattle.tsdb_log.specs.declared.record.LogRecord.TheVariants.{Delete}
use Rattle.tsdb_memory.specs.Commands.{HasLeast, IsAfter, NeedsNothing, HasCommandEffect}
use Rattle.tsdb_memory.specs.LogState.{HasLog, IsSoundLogged, Outside, log_of, framed_room, two_numbers, with_record}
use Rattle.tsdb_memory.specs.declared.logged_memory.LoggedMemory.{LoggedMemory}
use Rattle.tsdb_memory.specs.Least.{IsLeastOf}
use Rattle.tsdb_outside.specs.declared.disk.Disk as disk
use Rattle.tsdb_outside.specs.declared.faults.Counted as counted
use Rattle.tsdb_outside.specs.declared.faults.Failed.{Failed}
use Rattle.tsdb_state.specs.Jobs.{KeepsRoom, drawn_numbers, flushed_bytes, replaced_bytes}
use Rattle.tsdb_state.specs.Records.{after, names}
use Rattle.tsdb_state.specs.State.{Compaction, EngineState, KnownFiles, FlushState, StoreState}
use Rattle.tsdb_state.specs.Steps.{failed, settled, swept, wrote}

-- the record leaves the lists of files alone
pub record KeepsLists (item : LogRecord) : Type 0 where
  pub sequence : (store : StoreState) → (after item store).sequence ≡ store.sequence
  pub unsequence : (store : StoreState) → (after item store).unsequence ≡ store.unsequence

-- files of a state are those of each with the same lists, outgoing files and rights
files_as : (files : KeptFiles) (known : KnownFiles) (state other : EngineState)
    → other.store.sequence ≡ state.store.sequence → other.store.unsequence ≡ state.store.unsequence
    → other.outgoing ≡ state.outgoing → other.rights ≡ state.rights → AreFilesOf files known state
    → AreFilesOf files known other
files_as files known state other sequence unsequence outgoing rights are = record {
  sequence = are.sequence ∙ sym sequence;
  unsequence = are.unsequence ∙ sym unsequence;
  outgoing = are.outgoing ∙ sym outgoing;
  rights = subst (λ (count : ℕ → ℕ). (number : ℕ)
      → IfSome (kept_file number files) (λ file. file.rights ≡ count number)) (sym rights)
      are.rights;
  entries_in_sequence = are.entries_in_sequence;
  entries_in_unsequence = are.entries_in_unsequence;
}

-- the numbers of two files, as a list and as a pair
two_told : (first second : Option FileNumber) → two_numbers (first, second) ≡ told_numbers (first ∷ second ∷ [])
two_told first second = ap (λ (list : List FileNumber). map (λ (file : FileNumber). file.0) (if_some first ++ list))
    (sym (append-nil (if_some second)))

-- the first ones, with the one that could not be removed, are outgoing files
tried_some : (outgoing before behind : List Outgoing) (file : Outgoing) → outgoing ≡ before ++ file ∷ behind
    → (other : Outgoing) → Among other (before ++ file ∷ []) → Among other outgoing
tried_some outgoing before behind file are other among = subst (Among other)
    (append_assoc before (file ∷ []) behind ∙ sym are) (among_left (before ++ file ∷ []) behind other among)

module _ {J F S R P : Type 0} {means : disk.Ghosts J} {counts : counted.Ghosts J} where
  -- where the log has room for at least as many bytes of a record, what is kept for jobs stays
  pub jobs_stay : (old : Core J F S R P means counts) (logged : LoggedMemory J means counts)
      → framed_room old.logged ≤ framed_room logged → (flushes : List FlushState) (compactions : List Compaction)
      → KeepsJobs old flushes compactions → KeepsJobs (record old { logged = logged }) flushes compactions
  jobs_stay old logged more flushes compactions jobs = record {
    from_one = jobs.from_one;
    below = jobs.below;
    flushed = jobs.flushed;
    differ = jobs.differ;
    range = jobs.range;
    places = jobs.places;
    room = record {
      sequence = jobs.room.sequence;
      unsequence = jobs.room.unsequence;
      outgoing = jobs.room.outgoing;
      flushed = each_weaker (λ flush. flushed_bytes ≤ framed_room old.logged) (λ flush. flushed_bytes ≤ framed_room logged)
          (λ flush enough. omega (arith, enough, more)) flushes jobs.room.flushed;
      replaced = each_weaker (λ job. replaced_bytes job ≤ framed_room old.logged) (λ job. replaced_bytes job ≤ framed_room logged)
          (λ job enough. omega (arith, enough, more)) compactions jobs.room.replaced;
    };
  }

  module _ (old : Core J F S R P means counts) (logged : LoggedMemory J means counts) (item : LogRecord)
      (keeps : KeepsLists item) (outside : Outside) (state : EngineState) (seen : IsSeen old outside state)
      (jobs : KeepsJobs (record old { logged = logged }) state.flushes state.compactions) where
    abbrev new : Core J F S R P means counts
    new = record old { logged = logged }

    claimed : AreClaimed new state.compactions
    claimed = record { late = seen.claims.late; sequence = seen.claims.sequence }

    -- the files are those of a state with the same lists
    shown : (later : Outside) (other : EngineState) → later.known ≡ outside.known → later.kept ≡ outside.kept
        → other.store.sequence ≡ state.store.sequence → other.store.unsequence ≡ state.store.unsequence
        → other.outgoing ≡ state.outgoing → other.rights ≡ state.rights → other.next_file ≡ state.next_file
        → KeepsJobs new other.flushes other.compactions → AreClaimed new other.compactions
        → IsSoundLogged logged later other → IsSeen new later other
    shown later other known kept sequence unsequence outgoing rights next still claims sound = record {
      sound = sound;
      files = files_as old.files later.known state other sequence unsequence outgoing rights
          (subst (λ (entries : KnownFiles). AreFilesOf old.files entries state) (sym known) seen.files);
      told = subst (λ stored. TellTheirBytes old.files stored) (sym kept) seen.told;
      next = seen.next ∙ sym next;
      jobs = still;
      claims = claims;
    }

    seen_after : (result : Answer) → IsAfter logged outside state item result → IsSeenAfter new outside state item result
    seen_after answer.Done sound = shown (with_record item outside) (wrote item state) refl refl
        (keeps.sequence state.store) (keeps.unsequence state.store) refl refl refl jobs claimed sound
    seen_after answer.NoPath sound = shown outside state refl refl refl refl refl refl refl jobs claimed sound
    seen_after answer.WrongType sound = shown outside state refl refl refl refl refl refl refl jobs claimed sound
    seen_after answer.Exists sound = shown outside state refl refl refl refl refl refl refl jobs claimed sound
    seen_after answer.Device (inl sound) = inl (shown outside (settled state) refl refl refl refl refl refl refl jobs claimed sound)
    seen_after answer.Device (inr (inl sound)) = inr (inl (shown outside state refl refl refl refl refl refl refl jobs claimed sound))
    seen_after answer.Device (inr (inr sound)) =
        inr (inr (shown outside (failed item state) refl refl refl refl refl refl refl jobs claimed sound))
    seen_after answer.Memory sound = shown outside state refl refl refl refl refl refl refl jobs claimed sound
    seen_after (answer.Full counter) sound = shown outside state refl refl refl refl refl refl refl jobs claimed sound

  pub core_command : (old : Core J F S R P means counts) (logged : LoggedMemory J means counts) (item : LogRecord)
      (Needs Asks : EngineState → Type 0) (result : Answer) → KeepsLists item
      → ((outside : Outside) (state : EngineState) → IsSeen old outside state → Needs state → Asks state)
      → HasCommandEffect old.logged logged item Asks result
      → IsCoreCommand old (record old { logged = logged }) item Needs result
  core_command old logged item Needs Asks result keeps asks command = record {
    step = λ outside state seen needs. seen_after old logged item keeps outside state seen
        (jobs_stay old logged command.room state.flushes state.compactions seen.jobs) result
        (command.step outside state seen.sound (asks outside state seen needs));
    moments = λ outside state seen needs. command.moments outside state seen.sound (asks outside state seen needs);
    refused = λ is. ap (λ later. record old { logged = later }) (command.refused is);
    memory = λ is. (command.memory is).log;
    kept = record {
      files = refl;
      next = refl;
      limit = refl;
      flushed = refl;
      claimed = refl;
      jobs = jobs_stay old logged command.room;
      loans = all_same old (record old { logged = logged }) refl refl refl (λ n. refl) (jobs_stay old logged command.room);
    };
    slot = command.slot;
    cause = command.cause;
    later = command.later;
  }

  -- a deletion, where the least born of the listed files is known
  pub delete_command : (old : Core J F S R P means counts) (logged : LoggedMemory J means counts) (path : List ℕ) (range : Range)
      (listed : Option Stamp) (result : Answer) → IsLeastOf listed (listed_borns old.files)
      → HasCommandEffect old.logged logged (Delete path range) (HasLeast listed) result
      → IsCoreCommand old (record old { logged = logged }) (Delete path range) NeedsNothing result
  delete_command old logged path range listed result least command =
      core_command old logged (Delete path range) NeedsNothing (HasLeast listed) result
      (record { sequence = λ store. refl; unsequence = λ store. refl })
      (λ outside state seen any. subst (λ (borns : List ℕ). IsLeastOf listed borns)
      (borns_are old.files outside.known state seen.files) least) command

  -- the files that a core is told of are those that a record in doubt names
  pub doubt_told : (core : Core J F S R P means counts) (first second : Option FileNumber)
      → ((items : List LogRecord) (item : LogRecord) → HasLog core.logged items (Some item)
      → two_numbers (first, second) ≡ names item)
      → (outside : Outside) (state : EngineState) → IsSeen core outside state → IsDoubtOf (first ∷ second ∷ []) state
  doubt_told core first second named outside state seen = by state.doubt seen.sound.log
    where
      by : (doubt : Option LogRecord) → HasLog core.logged outside.items doubt
          → IfSome doubt (λ item. names item ≡ told_numbers (first ∷ second ∷ []))
      by None log = tt
      by (Some item) log = sym (named outside.items item log) ∙ two_told first second

  pub none_told : (core : Core J F S R P means counts) (first second : Option FileNumber)
      → (is_in_doubt (log_of core.logged) ≡ false → two_numbers (first, second) ≡ [])
      → is_in_doubt (log_of core.logged) ≡ false → told_numbers (first ∷ second ∷ []) ≡ []
  none_told core first second none is = sym (two_told first second) ∙ none is

  -- what is left of the files after a sweep are those of the state that is swept
  pub swept_of : (old : Core J F S R P means counts) (files : KeptFiles) (doubted : List (Option FileNumber))
      (part : List Outgoing) → AreSomeOf old.files part
      → ((outside : Outside) (state : EngineState) → IsSeen old outside state → IsDoubtOf doubted state)
      → LeavesWithout (may_go doubted old.files part) old.files files
      → IsSweptOf old (record old { files = files }) (may_go doubted old.files part)
  swept_of old files doubted part some named leaves = record {
    left = leaves;
    jobs = jobs;
    loans = all_swept old files doubted part leaves jobs;
    step = step;
  }
    where
      jobs : (flushes : List FlushState) (compactions : List Compaction) → KeepsJobs old flushes compactions
          → KeepsJobs (record old { files = files }) flushes compactions
      jobs flushes compactions kept = record {
        from_one = kept.from_one;
        below = of_those_that_stay (λ number file. number < next_of old) (may_go doubted old.files part) old.files.places
            files.places leaves.places kept.below;
        flushed = kept.flushed;
        differ = kept.differ;
        range = kept.range;
        places = each_weaker (λ number. IsOpen number old.files) (λ number. IsOpen number files)
            (λ number made. places_stay old.files files doubted part leaves number made)
            (drawn_numbers flushes compactions) kept.places;
        room = subst (λ (spare : Spare). KeepsRoom (record {
          sequence = spare.sequence;
          unsequence = spare.unsequence;
          outgoing = spare.outgoing;
          record_bytes = framed_room old.logged;
        }) flushes compactions) (sym leaves.spare) kept.room;
      }

      step : (outside : Outside) (state : EngineState) → IsSeen old outside state
          → IsSeen (record old { files = files }) (without_files (may_go doubted old.files part) outside)
          (swept (may_go doubted old.files part) state)
      step outside state seen =
          let sweep = sweep_is old.files files doubted part outside.known state seen.files (named outside state seen)
          some leaves in
          record {
            sound = record {
              memory = seen.sound.memory;
              log = record { log = seen.sound.log.log; named = seen.sound.log.named };
              stored = sweep_stored outside.items outside.kept outside.told outside.known state seen.sound.stored
                  (may_go doubted old.files part) sweep.outgoing sweep.sweeps;
            };
            files = sweep.files;
            told = tell_on old.files files doubted part outside.kept seen.told leaves;
            next = seen.next;
            jobs = jobs state.flushes state.compactions seen.jobs;
            claims = claims_stay old (record old { files = files }) state.compactions
                (same_lists old.files files leaves.sequence leaves.unsequence) refl seen.claims;
          }

  pub is_swept : (old : Core J F S R P means counts) (files : KeptFiles) (doubted : List (Option FileNumber))
      (outcome : Result ℕ Failed)
      → ((outside : Outside) (state : EngineState) → IsSeen old outside state → IsDoubtOf doubted state)
      → (is_in_doubt (log_of old.logged) ≡ false → told_numbers doubted ≡ [])
      → IfOk outcome (λ count. count ≡ length (may_go doubted old.files old.files.outgoing))
      → OnOk outcome (LeavesWithout (may_go doubted old.files old.files.outgoing) old.files files)
      → OnErr outcome ((stop : StopsSweepAt doubted old.files.places old.files.outgoing)
      × LeavesWithout (tried_numbers doubted old.files.places stop) old.files files)
      → IsSwept old (record old { files = files }) outcome
  is_swept old files doubted (Ok count) named none counted leaves stops = record {
    doubted = doubted;
    named = named;
    none = none;
    logged = refl;
    next = refl;
    limit = refl;
    flushed = refl;
    claimed = refl;
    counted = counted;
    all = swept_of old files doubted old.files.outgoing (λ file among. among) named leaves;
    stopped = tt;
  }
  is_swept old files doubted (Err fault) named none counted leaves stops = record {
    doubted = doubted;
    named = named;
    none = none;
    logged = refl;
    next = refl;
    limit = refl;
    flushed = refl;
    claimed = refl;
    counted = tt;
    all = tt;
    stopped = (
      stops.0,
      swept_of old files doubted (stops.0.before ++ stops.0.failed ∷ [])
          (tried_some old.files.outgoing stops.0.before stops.0.behind stops.0.failed stops.0.are) named stops.1,
    );
  }
