-- What taking a flush makes of a core, and of the states that it shows.
use Rattle.std.proofs.Common.{◌∷◌, ◌≡◌, ℕ, ◌+◌, ◌≤◌, List, ◌++◌, length, Option, None, Some}
use Rattle.std.proofs.Common.{ap, arith, length-append, refl, sym, subst, ◌∙◌}
use Rattle.std.proofs.lemmas.List.{map-append}
use Rattle.std.specs.Arc.{arc_value}
use Rattle.std.specs.List.{AllZip, range_with_len}
use Rattle.std.specs.Option.{IsSomeAnd}
use Rattle.std.specs.Prelude.{◌<◌, slice_get}
use Rattle.tsdb_base.specs.declared.ids.FileNumber.{FileNumber}
use Rattle.tsdb_base.specs.declared.ids.SeriesId.{SeriesId}
use Rattle.tsdb_core.proofs.Claims.{claims_stay, same_lists}
use Rattle.tsdb_core.proofs.Commits.{places_told, prepared_sound}
use Rattle.tsdb_core.proofs.Loans.{same_but_jobs}
use Rattle.tsdb_core.proofs.Jobs.{one_more_kept}
use Rattle.tsdb_core.proofs.Oldest.{oldest_still}
use Rattle.tsdb_core.specs.Core.{IsSeen, next_of}
use Rattle.tsdb_core.specs.Ending.{drawn_for, numbers_if}
use Rattle.tsdb_core.specs.Flushes.{IsFlushTaken}
use Rattle.tsdb_core.specs.Worlds.{CoreKeepsWorld}
use Rattle.tsdb_core.specs.declared.engine.Core.{Core}
use Rattle.tsdb_fileset.proofs.States.{taken_flush}
use Rattle.tsdb_fileset.specs.Flushes.{IsFlushOf}
use Rattle.tsdb_fileset.specs.Taking as flushing
use Rattle.tsdb_fileset.proofs.Joining.{only_places}
use Rattle.tsdb_fileset.specs.StateOfFiles.{AreFilesOf}
use Rattle.tsdb_state.proofs.ImageLemmas.Storing.{take_flush_stored}
use Rattle.tsdb_fileset.specs.Jobs.{IsJob}
use Rattle.tsdb_fileset.specs.FlushJob.{FlushJob}
use Rattle.tsdb_fileset.specs.Files.{KeepsLists, KeptFiles}
use Rattle.tsdb_fileset.specs.Places.{ArePlacesMade, OnlyMakesPlaces}
use Rattle.tsdb_fileset.specs.Room.{flush_room, more_room}
use Rattle.tsdb_base.specs.Lists.{if_some}
use Rattle.tsdb_memory.specs.Commands.{IsPrepared}
use Rattle.tsdb_memory.specs.LogState.{IsSoundLogged, Outside, memory_of, framed_room}
use Rattle.tsdb_memory.specs.declared.logged_memory.LoggedMemory.{LoggedMemory}
use Rattle.tsdb_memory.specs.StateOfMemory.{number_of}
use Rattle.tsdb_memory.specs.Store.{FrozenPair}
use Rattle.tsdb_model.specs.declared.command.Schema.{Schema}
use Rattle.tsdb_outside.specs.declared.disk.Disk as disk
use Rattle.tsdb_outside.specs.declared.faults.Counted as counted
use Rattle.tsdb_state.specs.Jobs.{drawn_by, flushed_bytes}
use Rattle.tsdb_base.specs.Limits.{end_of_numbers}
use Rattle.tsdb_state.specs.State as state
use Rattle.tsdb_state.specs.State.{EngineState}
use Rattle.tsdb_state.specs.Steps.{TakesFlush, took_flush}

-- the numbers of a job, in both words
one_list : (job : FlushJob) → drawn_for job ≡ flushing.job_numbers job
one_list job = sym (map-append (λ (n : FileNumber). n.0) (if_some job.sequence) (if_some job.unsequence))

one_at_most : {X : Type 0} (o : Option X) → length (if_some o) ≤ 1
one_at_most None = omega arith
one_at_most (Some x) = omega arith

number_at_most : (o : Option FileNumber) → length (numbers_if o) ≤ 1
number_at_most None = omega arith
number_at_most (Some x) = omega arith

two_at_most : (job : FlushJob) → length (drawn_for job) ≤ 2
two_at_most job = omega (
  arith,
  length-append (numbers_if job.sequence) (numbers_if job.unsequence),
  number_at_most job.sequence,
  number_at_most job.unsequence,
)

module _ {J F S R P : Type 0} {means : disk.Ghosts J} {counts : counted.Ghosts J} where
  module _ (old : Core J F S R P means counts) (logged : LoggedMemory J means counts) (files : KeptFiles) (job : FlushJob)
      (next : ℕ) (prepared : IsPrepared old.logged logged) (enough : flushed_bytes ≤ framed_room logged) (is_job : IsJob
      job)
      (taken : flushing.IsJobTaken (memory_of logged) (next_of old) job)
      (drawn : 0 < length (flushing.job_numbers job)) (left : next_of old + 2 ≤ end_of_numbers)
      (lists : KeepsLists old.files files) (made : OnlyMakesPlaces old.files.places files.places)
      (placed : ArePlacesMade (if_some job.sequence ++ if_some job.unsequence) old.files.places files.places)
      (room : files.spare ≡ more_room old.files.spare (flush_room job.sequence job.unsequence))
      (is_next : next ≡ next_of old + length (drawn_for job)) where
    abbrev new : Core J F S R P means counts
    new = record old { logged = logged; files = files; next_file = next }

    numbers : drawn_for job ≡ range_with_len (next_of old) (length (drawn_for job))
    numbers = one_list job ∙ taken.numbers ∙ ap (λ list. range_with_len (next_of old) (length list)) (sym (one_list
        job))

    step : (outside : Outside) (engine : EngineState) → IsSeen old outside engine
        → (flush : state.FlushState) × IsFlushOf job flush × TakesFlush flush engine
        × IsSeen new outside (took_flush flush engine)
    step outside engine seen = (
      flush.0,
      flush.1,
      flush.2,
      record {
        sound = record {
          memory = sound.memory;
          log = record { log = sound.log.log; named = sound.log.named };
          stored = take_flush_stored outside.items outside.kept outside.told outside.known engine sound.stored flush.0
              flush.2;
        };
        files = record {
          sequence = are.sequence;
          unsequence = are.unsequence;
          outgoing = are.outgoing;
          rights = are.rights;
          entries_in_sequence = are.entries_in_sequence;
          entries_in_unsequence = are.entries_in_unsequence;
        };
        told = places_told old.files files outside.kept made seen.told;
        next = is_next ∙ (λ i. seen.next i + length (same_drawn i));
        jobs = one_more_kept old job flush.0 engine.flushes engine.compactions
            (record { sequence = flush.1.sequence; unsequence = flush.1.unsequence }) seen.jobs files (length
            (drawn_for job))
            numbers (omega (arith, left, two_at_most job)) made placed room logged next is_next prepared.record_room
            enough;
        claims = claims_stay old new engine.compactions (same_lists old.files files lists.sequence lists.unsequence) refl
            seen.claims;
      },
    )
      where
        sound : IsSoundLogged logged outside engine
        sound = prepared_sound old.logged logged prepared outside engine seen.sound

        are : AreFilesOf files outside.known engine
        are = only_places old.files files outside.known engine seen.files lists made

        flush : (flush : state.FlushState) × IsFlushOf job flush × TakesFlush flush engine
            × (drawn_by flush ≡ flushing.job_numbers job)
        flush = taken_flush (memory_of logged) job engine sound.memory
            (subst (λ n. flushing.IsJobTaken (memory_of logged) n job) seen.next taken) is_job
            (subst (λ n. n + 2 ≤ end_of_numbers) seen.next left)

        same_drawn : drawn_for job ≡ drawn_by flush.0
        same_drawn = one_list job ∙ sym flush.3

    -- what it takes of memory, memory had before
    of_memory : flushing.IsJobTaken (memory_of old.logged) (next_of old) job
    of_memory = record {
      oldest = taken.oldest;
      newer = taken.newer;
      are = sym prepared.room.frozen ∙ taken.are;
      born = taken.born;
      pair = taken.pair;
      of = record {
        numbered = subst (λ (series : List Schema). AllZip (λ (schema : Schema) (number : SeriesId).
            number_of series schema.path ≡ Some number.0) job.schemas job.series) prepared.room.series taken.of.numbered;
        whole = taken.of.whole;
        rising = taken.of.rising;
      };
      schemas = subst (λ (series : List Schema). AllZip (λ (schema : Schema) (number : SeriesId).
          slice_get series number.0 ≡ Some schema) job.schemas job.series) prepared.room.series taken.schemas;
      filled = taken.filled;
      numbers = taken.numbers;
    }

    oldest : IsSomeAnd (slice_get (memory_of old.logged).frozen 0)
        (λ pair. (pair.born ≡ job.born.0) × (pair.pair ≡ arc_value job.pair))
    oldest = subst (λ (frozen : List FrozenPair). IsSomeAnd (slice_get frozen 0)
        (λ pair. (pair.born ≡ job.born.0) × (pair.pair ≡ arc_value job.pair)))
        (sym taken.are ∙ prepared.room.frozen) (sym taken.born, sym taken.pair)

    pub flush_taken : IsFlushTaken old new job
    flush_taken = record {
      is_job = is_job;
      of_memory = of_memory;
      oldest = oldest;
      numbers = numbers;
      some = subst (λ (list : List ℕ). 0 < length list) (sym (one_list job)) drawn;
      next = is_next;
      still = λ flushes compactions keeps. oldest_still new job (next_of old) (length (drawn_for job))
          (memory_of old.logged).frozen prepared.room.frozen oldest numbers keeps.flushed;
      jobs = λ flush flushes compactions has keeps. one_more_kept old job flush flushes compactions has keeps files
          (length (drawn_for job)) numbers (omega (arith, left, two_at_most job)) made placed room logged next is_next
          prepared.record_room enough;
      loans = λ flush flushes compactions lent has keeps. same_but_jobs old new lists.sequence lists.unsequence refl
          made.files flushes (flush ∷ flushes) compactions lent
          (one_more_kept old job flush flushes compactions has keeps.jobs files (length (drawn_for job)) numbers
          (omega (arith, left, two_at_most job)) made placed room logged next is_next prepared.record_room enough) keeps;
      step = step;
    }

  -- the state after a flush is taken has the same store
  pub taken_world : (old after : Core J F S R P means counts) (job : FlushJob) → IsFlushTaken old after job → CoreKeepsWorld old
      after
  taken_world old after job taken world is =
      let stepped = taken.step is.outside is.state is.seen in
      record { outside = is.outside; state = took_flush stepped.0 is.state; seen = stepped.3; stands = is.stands }
