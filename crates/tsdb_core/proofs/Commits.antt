-- What taking and ending a flush make of the states that a core shows.
use Rattle.std.proofs.Common.{◌≡◌, ℕ, ◌≤◌, ◌⊎◌, List, [], ◌∷◌, ◌++◌, map, Option, None, Some, Result, Ok, Err, inl, inr}
use Rattle.std.proofs.Common.{ap, arith, refl, sym, subst, ◌∙◌}
use Rattle.std.specs.List.{AllByRecursion as Each, AllZip}
use Rattle.std.specs.Option.{IsSomeAnd, option_map}
use Rattle.std.specs.Prelude.{IfSome, OnErr, slice_get}
use Rattle.tsdb_base.specs.declared.answers.Answer.TheVariants as answer
use Rattle.tsdb_base.specs.declared.ids.FileNumber.{FileNumber}
use Rattle.tsdb_base.specs.declared.ids.Space.TheVariants.{Sequence, Unsequence}
use Rattle.tsdb_base.specs.declared.ids.Stamp.{Stamp}
use Rattle.tsdb_tasks.proofs.Coming.{sent_out, stand_last, tell_on}
use Rattle.tsdb_tasks.proofs.Committing.{all_there, can_commit, drawn_from_one, ended_stored, least_after}
use Rattle.tsdb_tasks.proofs.Stored.{stored_with, worlds_with}
use Rattle.tsdb_tasks.specs.Coming.{AreSentOut, HaveCome, StandLast}
use Rattle.tsdb_tasks.specs.Files.{AreAllThere, AreFilesOfJob, IsOutAs, NewFile, NewFiles, TellBytes, all_of, file_number}
use Rattle.tsdb_tasks.specs.Files.{state_files}
use Rattle.tsdb_tasks.specs.Files.{with_files}
use Rattle.tsdb_core.proofs.Claims.{after_commit, claims_stay, same_lists}
use Rattle.tsdb_core.proofs.Parts.{both_come, both_lists}
use Rattle.tsdb_core.proofs.OutputsBuilt.{room_first, room_second}
use Rattle.tsdb_core.proofs.Loans.{AreFresh, AreUnreadYet, all_same, flush_loans}
use Rattle.tsdb_core.proofs.Jobs.{drawn_is, is_open, others_kept, parts_apart, places, same_kept}
use Rattle.tsdb_core.proofs.Seen.{jobs_stay}
use Rattle.tsdb_core.specs.Core.{AreClaimed, IsSeen, KeepsJobs}
use Rattle.tsdb_core.specs.Ending.{IsLeastWith, PartEnds, drawn_for, less_if, number_for}
use Rattle.tsdb_core.specs.Ending.{numbers_if}
use Rattle.tsdb_core.specs.Flushes.{AppendsFlush, HasEndedFlush as EndsInCore, HasNumbersOf, IsAbandoned, IsCommit}
use Rattle.tsdb_core.specs.Flushes.{IsCommitAnswer, IsLoggedAs, IsNotTaken, IsOldestPair, IsOut, below_after}
use Rattle.tsdb_core.specs.Worlds.{IsWorldOf, CoreKeepsWorld}
use Rattle.tsdb_core.specs.declared.commit.Commit.{Commit}
use Rattle.tsdb_core.specs.declared.commit.Commit.TheVariants.{Device, Done, Gone}
use Rattle.tsdb_core.specs.declared.engine.Core.{Core}
use Rattle.tsdb_frames.proofs.CallLemmas.{same_keeps_to_slot}
use Rattle.tsdb_frames.specs.Frames.{faults_of}
use Rattle.tsdb_fileset.proofs.Joining.{only_places}
use Rattle.tsdb_fileset.proofs.StateSweeps.{borns_are}
use Rattle.tsdb_fileset.specs.StateOfFiles.{AreFilesOf, TellTheirBytes}
use Rattle.tsdb_state.specs.StoredEngine.{built_files, kept_bytes}
use Rattle.tsdb_fileset.specs.FlushJob.{FlushJob}
use Rattle.tsdb_fileset.specs.Files.{IsOpen, KeepsLists, KeptFiles, listed_borns}
use Rattle.tsdb_fileset.specs.Places.{KeptFile, OnlyMakesPlaces}
use Rattle.tsdb_fileset.specs.Room.{HasRoom}
use Rattle.tsdb_fileset.specs.declared.room.Spare.{Spare}
use Rattle.tsdb_base.proofs.Lists.{among_left, among_right, with_one_is}
use Rattle.tsdb_base.specs.Lists.{Among, IsWithOne, if_some}
use Rattle.tsdb_model.specs.World.{World}
use Rattle.tsdb_model.specs.declared.command.Schema.{Schema}
use Rattle.tsdb_log.specs.declared.record.LogRecord.{LogRecord}
use Rattle.tsdb_log.specs.declared.record.LogRecord.TheVariants.{Freeze}
use Rattle.tsdb_memory.proofs.LogLemmas.Changed.{series_kept}
use Rattle.tsdb_memory.proofs.LogLemmas.Steps.{no_memory, refuses}
use Rattle.tsdb_memory.specs.Changes.{KeepsSeries}
use Rattle.tsdb_memory.specs.Commands.{NeedsNothing, IsPrepared}
use Rattle.tsdb_memory.specs.Flushes.{CanCommit, IsFlushed}
use Rattle.tsdb_memory.specs.LogState.{IsSoundLogged, LeavesStates, Outside, log_of, memory_of, framed_room, with_record}
use Rattle.tsdb_memory.specs.declared.logged_memory.LoggedMemory.{LoggedMemory}
use Rattle.tsdb_memory.specs.Least.{IsLeastOf}
use Rattle.tsdb_memory.specs.StateOfMemory.{IsFrozenOf}
use Rattle.tsdb_memory.specs.Store.{FrozenPair as FrozenInMemory}
use Rattle.tsdb_outside.specs.Files.{Store, StoredFile}
use Rattle.tsdb_outside.specs.declared.disk.Disk as disk
use Rattle.tsdb_outside.specs.declared.faults.Counted as counted
use Rattle.tsdb_outside.specs.declared.faults.Failed.{Failed}
use Rattle.tsdb_state.proofs.EngineFlush.{flush_keeps}
use Rattle.tsdb_state.specs.Jobs.{drawn_by, flushed_bytes}
use Rattle.tsdb_state.specs.State as state
use Rattle.tsdb_state.specs.State.{Compaction, EngineState, FrozenContent}
use Rattle.tsdb_state.specs.Steps.{committed_flush, ended_flush, failed, flush_record, number_or_none, settled}
use Rattle.tsdb_state.specs.Worlds.{KeepsWorld as KeepsStoreWorld, StandsFor}

-- the oldest frozen pair of the state, by that in memory
pub record IsOldestOf (job : FlushJob) (frozen : List FrozenContent) : Type 0 where
  pub oldest : FrozenContent
  pub newer : List FrozenContent
  pub are : frozen ≡ oldest ∷ newer
  pub born : oldest.born ≡ job.born.0

oldest_of : (job : FlushJob) (series : List Schema) (pairs : List FrozenInMemory) (frozen : List FrozenContent)
    → AllZip (IsFrozenOf series) pairs frozen → IsSomeAnd (slice_get pairs 0) (λ pair. pair.born ≡ job.born.0)
    → IsOldestOf job frozen
oldest_of job series [] frozen zip is = absurd is
oldest_of job series (pair ∷ pairs) [] zip is = absurd zip
oldest_of job series (pair ∷ pairs) (oldest ∷ newer) zip is =
    record { oldest = oldest; newer = newer; are = refl; born = zip.0.born ∙ is }

number_is : (number : Option FileNumber) → number_for number ≡ number_or_none (option_map (λ (n : FileNumber). n.0)
    number)
number_is None = refl
number_is (Some number) = refl

pub places_told : (old new : KeptFiles) (kept : List StoredFile) → OnlyMakesPlaces old.places new.places
    → TellTheirBytes old kept → TellTheirBytes new kept
places_told old new kept made told n =
    subst (λ found. IfSome found (λ (file : KeptFile). (file.name.number ≡ n) × (file.name.bytes ≡ kept_bytes kept n)))
    (sym (made.files n)) (told n)

-- what holds at an error
pub on_err : {T E P : Type 0} (result : Result T E) → P → OnErr result P
on_err (Ok value) holds = tt
on_err (Err fault) holds = holds

-- the number at the last flush goes on to be at most the next one
last_is_low : (commit : Commit) (next below last : ℕ) → last ≡ below_after commit next below → below ≤ next
    → last ≤ next
last_is_low Done next below last is low = omega (arith, is)
last_is_low Gone next below last is low = omega (arith, is, low)
last_is_low Device next below last is low = omega (arith, is, low)

-- what holds of each drawn number
if_numbers : (P : ℕ → Type 0) (number : Option FileNumber) → ((n : ℕ) → Among n (numbers_if number) → P n)
    → IfSome number (λ n. P n.0)
if_numbers P None all = tt
if_numbers P (Some number) all = all number.0 (inl refl)

module _ {J : Type 0} {means : disk.Ghosts J} {counts : counted.Ghosts J} where
  pub prepared_sound : (old new : LoggedMemory J means counts) → IsPrepared old new → (outside : Outside) (engine :
      EngineState)
      → IsSoundLogged old outside engine → IsSoundLogged new outside engine
  prepared_sound old new prepared outside engine sound =
      (no_memory old new Freeze NeedsNothing prepared.log prepared.same prepared.record_room).step outside engine sound tt

module _ {J F S R P : Type 0} {means : disk.Ghosts J} {counts : counted.Ghosts J} where
  -- ---- memory that was taken

  pub not_taken : (old : Core J F S R P means counts) (logged : LoggedMemory J means counts) (files : KeptFiles)
      → IsPrepared old.logged logged → KeepsLists old.files files → OnlyMakesPlaces old.files.places files.places
      → files.spare ≡ old.files.spare → IsNotTaken old (record old { logged = logged; files = files })
  not_taken old logged files prepared lists made spare = record {
    next = refl;
    jobs = same_kept old logged files prepared.record_room made spare;
    loans = all_same old (record old { logged = logged; files = files }) lists.sequence lists.unsequence refl made.files
        (same_kept old logged files prepared.record_room made spare);
    step = λ outside engine seen. record {
      sound = prepared_sound old.logged logged prepared outside engine seen.sound;
      files = only_places old.files files outside.known engine seen.files lists made;
      told = places_told old.files files outside.kept made seen.told;
      next = seen.next;
      jobs = same_kept old logged files prepared.record_room made spare engine.flushes engine.compactions seen.jobs;
      claims = claims_stay old (record old { logged = logged; files = files }) engine.compactions
          (same_lists old.files files lists.sequence lists.unsequence) refl seen.claims;
    };
  }

  -- ---- the end of a flush among the files

  module _ (core : Core J F S R P means counts) (job : FlushJob) (files : NewFiles) (commit : Commit)
      (mid new : KeptFiles) (out : IsOut core job)
      (first : PartEnds commit Sequence job.sequence files.sequence core.files mid)
      (second : PartEnds commit Unsequence job.unsequence files.unsequence mid new)
      (drawn_first : Each (λ file. Among (file_number file) (numbers_if job.sequence)) (if_some files.sequence))
      (drawn : Each (λ file. Among (file_number file) (drawn_for job)) (all_of files)) (unread : AreUnreadYet files)
      (fresh : AreFresh files) (last : ℕ) (is_last : last ≡ below_after commit core.next_file core.flushed_below) where
    come : HaveCome (drawn_for job) files core.files new
    come = both_come commit job.sequence job.unsequence files.sequence files.unsequence core.files mid new first second
        (parts_apart core job out.flush out.others out.flushes out.compactions out.numbers out.out out.keeps)
        drawn_first

    jobs_left : (flush : state.FlushState) (others flushes : List state.FlushState) (compactions : List Compaction)
        → HasNumbersOf job flush → IsWithOne flush others flushes → KeepsJobs core flushes compactions
        → KeepsJobs (record core { files = new; flushed_below = last }) others compactions
    jobs_left flush others flushes compactions has is_out keeps = others_kept core job flush others flushes compactions
        has is_out keeps files new come drawn (second.room ∙ ap (less_if Unsequence job.unsequence) first.room) last
        (last_is_low commit core.next_file core.flushed_below last is_last keeps.flushed)

    pub ends_flush : EndsInCore core (record core { files = new; flushed_below = last }) job files commit
    ends_flush = record {
      lists = both_lists commit job.sequence job.unsequence files.sequence files.unsequence core.files mid new first
          second;
      come = come;
      store = second.store ∙ first.store;
      jobs = jobs_left;
      loans = λ flush others flushes compactions lent has is_out keeps. flush_loans core new last commit (drawn_for job)
          files
          (both_lists commit job.sequence job.unsequence files.sequence files.unsequence core.files mid new first
          second) come drawn unread fresh (is_open core job flush others flushes compactions has is_out keeps.jobs) others flushes
          compactions lent (jobs_left flush others flushes compactions has is_out keeps.jobs) keeps;
      next = refl;
      flushed = is_last;
      limit = refl;
      claimed = refl;
    }

  -- what each part's end needs
  module _ (core : Core J F S R P means counts) (job : FlushJob) (out : IsOut core job) where
    drawn_open : (n : ℕ) → Among n (drawn_for job) → IsOpen n core.files
    drawn_open = is_open core job out.flush out.others out.flushes out.compactions out.numbers out.out out.keeps

    pub first_place : IfSome job.sequence (λ n. IsOpen n.0 core.files)
    first_place = if_numbers (λ n. IsOpen n core.files) job.sequence (λ n among.
        drawn_open n (among_left (numbers_if job.sequence) (numbers_if job.unsequence) n among))

    pub first_room : IfSome job.sequence (λ n. HasRoom Sequence core.files.spare)
    first_room =
        let places = places core job out.flush out.others out.flushes out.compactions out.numbers out.out out.keeps in
        room_first job.sequence job.unsequence core.files.spare places.0 places.2

    module _ (commit : Commit) (file : Option NewFile) (mid : KeptFiles)
        (first : PartEnds commit Sequence job.sequence file core.files mid) where
      pub second_place : IfSome job.unsequence (λ n. IsOpen n.0 mid)
      second_place = if_numbers (λ n. IsOpen n mid) job.unsequence (λ n among.
          first.come.others n (λ other. parts_apart core job out.flush out.others out.flushes out.compactions
          out.numbers
          out.out out.keeps n other among)
          ∙ drawn_open n (among_right (numbers_if job.sequence) (numbers_if job.unsequence) n among))

      pub second_room : IfSome job.unsequence (λ n. HasRoom Unsequence mid.spare)
      second_room =
          let places = places core job out.flush out.others out.flushes out.compactions out.numbers out.out out.keeps in
          subst (λ (spare : Spare). IfSome job.unsequence (λ n. HasRoom Unsequence spare)) (sym first.room)
          (room_second job.sequence job.unsequence core.files.spare places.1 places.2)

  -- there is room for its record
  pub record_room : (core : Core J F S R P means counts) (job : FlushJob) → IsOut core job
      → flushed_bytes ≤ framed_room core.logged
  record_room core job out = with_one_is (λ flush. flushed_bytes ≤ framed_room core.logged) out.flush out.others out.flushes
      out.out out.keeps.room.flushed

  -- ---- the record of a flush

  pub logged_out : (old : Core J F S R P means counts) (logged : LoggedMemory J means counts) (job : FlushJob)
      → framed_room old.logged ≤ framed_room logged → IsOut old job → IsOut (record old { logged = logged }) job
  logged_out old logged job more out = record {
    flush = out.flush;
    others = out.others;
    flushes = out.flushes;
    compactions = out.compactions;
    numbers = out.numbers;
    out = out.out;
    keeps = jobs_stay old logged more out.flushes out.compactions out.keeps;
  }

  module _ (old : Core J F S R P means counts) (logged : LoggedMemory J means counts) (kept : KeptFiles) (last : ℕ)
      (job : FlushJob) (files : NewFiles) (store : Store) (of_job : AreFilesOfJob store job files) (commit : Commit)
      (ends : EndsInCore (record old { logged = logged })
      (record old { logged = logged; files = kept; flushed_below = last }) job files commit)
      (outside : Outside) (engine : EngineState) (flush : state.FlushState) (others : List state.FlushState)
      (seen : IsSeen old outside engine) (out : IsOutAs job flush others engine) (tells : TellBytes files)
      (more : framed_room old.logged ≤ framed_room logged) where
    abbrev new : Core J F S R P means counts
    new = record old { logged = logged; files = kept; flushed_below = last }

    abbrev later : Outside
    later = with_files flush files outside

    abbrev has : HasNumbersOf job flush
    has = record { sequence = out.of.sequence; unsequence = out.of.unsequence }

    -- the files have come, by the numbers of the flush
    come_as : HaveCome (drawn_by flush) files old.files kept
    come_as = subst (λ numbers. HaveCome numbers files old.files kept) (sym (drawn_is job flush has)) ends.come

    told : TellTheirBytes kept later.kept
    told = tell_on store job files old.files kept outside engine flush others seen.sound.stored out of_job come_as tells
        seen.told

    jobs : KeepsJobs new others engine.compactions
    jobs = ends.jobs flush others engine.flushes engine.compactions has out.out
        (jobs_stay old logged more engine.flushes engine.compactions seen.jobs)

    claims : AreClaimed new engine.compactions
    claims = claims_stay old new engine.compactions (after_commit commit files old.files kept ends.lists) refl seen.claims

    -- what the core shows with the files told is sound
    sound : IsSoundLogged old.logged later engine
    sound = record {
      memory = seen.sound.memory;
      log = record { log = seen.sound.log.log; named = seen.sound.log.named };
      stored = stored_with job outside engine flush others seen.sound.stored out store files of_job;
    }

    -- files on their way out are those of the state in which the flush ended
    gone_files : AreSentOut files old.files kept
        → AreFilesOf kept later.known (ended_flush flush others (state_files files) engine)
    gone_files sent = sent_out store job files old.files kept outside engine flush others seen.sound.stored out of_job
        come_as seen.files sent

    -- with the files told the state stands for the same worlds
    still_stands : (world : World) → StandsFor outside.told engine.store world → StandsFor later.told engine.store world
    still_stands world =
        (worlds_with job outside engine flush others seen.sound.stored out store files of_job world).0

    pub world_of : (world : World) (other : EngineState) → other.store ≡ engine.store
        → StandsFor outside.told engine.store world → IsSeen new later other → IsWorldOf new world
    world_of world other same stands is = record {
      outside = later;
      state = other;
      seen = is;
      stands = subst (λ stored. StandsFor later.told stored world) (sym same) (still_stands world stands);
    }

    pub ended_seen : AreSentOut files old.files kept → logged ≡ old.logged
        → IsSeen new later (ended_flush flush others (state_files files) engine)
    ended_seen sent same = record {
      sound = subst (λ log. IsSoundLogged log later (ended_flush flush others (state_files files) engine)) (sym same) (record {
        memory = seen.sound.memory;
        log = record { log = seen.sound.log.log; named = seen.sound.log.named };
        stored = ended_stored store job files flush others engine out of_job outside seen.sound.stored tells;
      });
      files = gone_files sent;
      told = told;
      next = seen.next;
      jobs = jobs;
      claims = claims;
    }

    module _ (all : AreAllThere job files) (listed : Option Stamp) (is_oldest : IsOldestPair old job)
        (least : IsLeastWith listed job (listed_borns old.files)) where
      oldest : IsOldestOf job engine.store.frozen
      oldest = oldest_of job (memory_of old.logged).series (memory_of old.logged).frozen engine.store.frozen
          seen.sound.memory.frozen is_oldest.born

      can : CanCommit (number_for job.sequence) (number_for job.unsequence) listed later engine flush others
      can = subst (λ (numbers : FileNumber × FileNumber). CanCommit numbers.0 numbers.1 listed later engine flush
          others)
          (λ i. (
            (ap number_or_none out.of.sequence ∙ sym (number_is job.sequence)) i,
            (ap number_or_none out.of.unsequence ∙ sym (number_is job.unsequence)) i,
          ))
          (can_commit store job files flush others engine out of_job all outside seen.sound.stored tells oldest.oldest
          oldest.newer listed oldest.are oldest.born
          (least_after engine flush others job.born.0 oldest.oldest oldest.newer listed
          (drawn_from_one outside engine flush others seen.sound.stored out.out) oldest.are oldest.born
          (subst (IsLeastOf listed) (λ i. borns_are old.files outside.known engine seen.files i
          ++ map (λ n. job.born.0) (sym (drawn_is job flush has) i)) least)))

      pub done_seen : StandLast files old.files kept
          → IsFlushed old.logged logged (number_for job.sequence) (number_for job.unsequence) listed (Ok tt)
          → IsSeen new (with_record (flush_record flush) later) (committed_flush flush others engine)
      done_seen last flushed = record {
        sound = flushed.done later engine flush others sound can;
        files = stand_last store job files old.files kept outside engine flush others seen.sound.stored out of_job
            come_as
            seen.files all oldest.oldest oldest.newer oldest.are oldest.born last;
        told = told;
        next = seen.next;
        jobs = jobs;
        claims = claims;
      }

      pub commit_keeps : KeepsStoreWorld later.told engine.store (committed_flush flush others engine).store
      commit_keeps = flush_keeps later.told later.known sound.stored.named engine sound.stored.order flush others
          can.commits

      pub done_world : (world : World) → StandsFor outside.told engine.store world
          → IsSeen new (with_record (flush_record flush) later) (committed_flush flush others engine) → IsWorldOf new
          world
      done_world world stands is = record {
        outside = with_record (flush_record flush) later;
        state = committed_flush flush others engine;
        seen = is;
        stands = record {
          types = λ path. (still_stands world stands).types path ∙ sym (commit_keeps.types path);
          values = λ place. (still_stands world stands).values place ∙ sym (commit_keeps.values place);
        };
      }

      pub commit_moments : (outcome : Result (Unit {0}) Failed)
          → IsFlushed old.logged logged (number_for job.sequence) (number_for job.unsequence) listed outcome
          → LeavesStates old.logged logged later engine (flush_record flush)
      commit_moments outcome flushed = flushed.moments later engine flush others sound can

      abbrev ended : EngineState
      ended = ended_flush flush others (built_files flush) engine

      pub failed_seen : (fault : Failed) → AreSentOut files old.files kept
          → IsFlushed old.logged logged (number_for job.sequence) (number_for job.unsequence) listed (Err fault)
          → IsSeen new later (settled ended) ⊎ (IsSeen new later ended ⊎ IsSeen new later (failed (flush_record flush)
          ended))
      failed_seen fault sent flushed = by (flushed.failed later engine flush others sound can)
        where
          are : AreFilesOf kept later.known ended
          are = subst (λ list. AreFilesOf kept later.known (ended_flush flush others list engine))
              (all_there store job files flush others engine out of_job all) (gone_files sent)

          shown : (doubt : Option LogRecord) → IsSoundLogged logged later (record ended { doubt = doubt })
              → IsSeen new later (record ended { doubt = doubt })
          shown doubt is = record {
            sound = is;
            files = record {
              sequence = are.sequence;
              unsequence = are.unsequence;
              outgoing = are.outgoing;
              rights = are.rights;
              entries_in_sequence = are.entries_in_sequence;
              entries_in_unsequence = are.entries_in_unsequence;
            };
            told = told;
            next = seen.next;
            jobs = jobs;
            claims = claims;
          }

          by : IsSoundLogged logged later (settled ended)
              ⊎ (IsSoundLogged logged later ended ⊎ IsSoundLogged logged later (failed (flush_record flush) ended))
              → IsSeen new later (settled ended)
              ⊎ (IsSeen new later ended ⊎ IsSeen new later (failed (flush_record flush) ended))
          by (inl none) = inl (shown None none)
          by (inr (inl same)) = inr (inl (shown ended.doubt same))
          by (inr (inr this)) = inr (inr (shown (Some (flush_record flush)) this))

      pub failed_world : (world : World) → StandsFor outside.told engine.store world
          → IsSeen new later (settled ended) ⊎ (IsSeen new later ended ⊎ IsSeen new later (failed (flush_record flush)
          ended))
          → IsWorldOf new world
      failed_world world stands (inl none) = world_of world (settled ended) refl stands none
      failed_world world stands (inr (inl same)) = world_of world ended refl stands same
      failed_world world stands (inr (inr this)) = world_of world (failed (flush_record flush) ended) refl stands this

  -- ---- the calls

  -- an end of a flush behind its record is one of the core before it
  ends_both : (old : Core J F S R P means counts) (logged : LoggedMemory J means counts) (kept : KeptFiles) (last : ℕ)
      (job : FlushJob) (files : NewFiles) (commit : Commit) → framed_room old.logged ≤ framed_room logged
      → EndsInCore (record old { logged = logged })
      (record old { logged = logged; files = kept; flushed_below = last }) job files commit
      → EndsInCore old (record old { logged = logged; files = kept; flushed_below = last }) job files commit
  ends_both old logged kept last job files commit more ends = record {
    lists = ends.lists;
    come = ends.come;
    store = ends.store;
    jobs = λ flush others flushes compactions has out keeps. ends.jobs flush others flushes compactions has out
        (jobs_stay old logged more flushes compactions keeps);
    loans = λ flush others flushes compactions lent has out keeps. ends.loans flush others flushes compactions lent has
        out (all_same old (record old { logged = logged }) refl refl refl (λ n. refl) (jobs_stay old logged more) flushes
        compactions lent keeps);
    next = ends.next;
    flushed = ends.flushed;
    limit = ends.limit;
    claimed = ends.claimed;
  }

  module _ (old : Core J F S R P means counts) (logged : LoggedMemory J means counts) (kept : KeptFiles) (last : ℕ)
      (job : FlushJob) (files : NewFiles) (store : Store) (of_job : AreFilesOfJob store job files)
      (all : AreAllThere job files) where
    abbrev both : Core J F S R P means counts
    both = record old { logged = logged; files = kept; flushed_below = last }

    pub is_commit : (commit : Commit) → IsCommitAnswer old job commit
        → IsLoggedAs old (record old { logged = logged }) job commit
        → EndsInCore (record old { logged = logged }) both job files commit → IsCommit old both job files commit
    is_commit Done answered logs ends = record {
      answer = answered;
      ends = ends_both old logged kept last job files Done logs.flushed.room ends;
      step = λ outside engine flush others seen out tells. done_seen old logged kept last job files store of_job Done
          ends outside
          engine flush others seen out tells logs.flushed.room all logs.listed answered logs.least ends.lists
          logs.flushed;
      moments = λ outside engine flush others seen out tells. commit_moments old logged kept last job files store of_job
          Done ends
          outside engine flush others seen out tells logs.flushed.room all logs.listed answered logs.least (Ok tt)
          logs.flushed;
      world = λ outside engine flush others world seen out tells stands. done_world old logged kept last job files store
          of_job
          Done ends outside engine flush others seen out tells logs.flushed.room all logs.listed answered logs.least
          world
          stands (done_seen old logged kept last job files store of_job Done ends outside engine flush others seen out
          tells logs.flushed.room all logs.listed answered logs.least ends.lists logs.flushed);
      keeps = λ outside engine flush others seen out tells oldest. commit_keeps old logged kept last job files store
          of_job Done
          ends outside engine flush others seen out tells logs.flushed.room all logs.listed oldest logs.least;
      left = λ is. logs.flushed.pair;
      working = logs.flushed.working;
      kept = logs.flushed.kept;
      memory = λ is. absurd cc;
      gone = λ is. absurd cc;
      slot = logs.flushed.slot;
      cause = λ is. absurd cc;
      later = logs.flushed.cause.later;
    }
    is_commit Gone answered logs ends = record {
      answer = answered;
      ends = ends_both old logged kept last job files Gone same_room ends;
      step = λ outside engine flush others seen out tells.
          subst (λ list. IsSeen both (with_files flush files outside) (ended_flush flush others list engine))
          (all_there store job files flush others engine out of_job all)
          (ended_seen old logged kept last job files store of_job Gone ends outside engine flush others seen out tells
          same_room
          ends.lists logs);
      moments = λ outside engine flush others seen out tells.
          subst (λ log. LeavesStates old.logged log (with_files flush files outside) engine (flush_record flush)) (sym
          logs)
          ((refuses old.logged (flush_record flush) NeedsNothing answer.NoPath tt).moments (with_files flush files outside)
          engine
          (sound old logged kept last job files store of_job Gone ends outside engine flush others seen out tells
          same_room) tt);
      world = λ outside engine flush others world seen out tells stands. world_of old logged kept last job files store
          of_job Gone
          ends outside engine flush others seen out tells same_room world
          (ended_flush flush others (state_files files) engine) refl stands
          (ended_seen old logged kept last job files store of_job Gone ends outside engine flush others seen out tells
          same_room
          ends.lists logs);
      keeps = λ outside engine flush others seen out tells oldest. absurd (answered oldest);
      left = λ is. absurd cc;
      working = ap (λ log. (memory_of log).working) logs;
      kept = subst (λ log. KeepsSeries (memory_of old.logged) (memory_of log)) (sym logs)
          (series_kept (memory_of old.logged));
      memory = λ is. absurd cc;
      gone = λ is. logs;
      slot = same_keeps_to_slot (log_of old.logged) (log_of logged) (ap (λ log. log_of log) logs);
      cause = λ is. absurd cc;
      later = subst (λ log. faults_of (log_of old.logged) ≤ faults_of (log_of log)) (sym logs) (omega arith);
    }
      where
        same_room : framed_room old.logged ≤ framed_room logged
        same_room = subst (λ log. framed_room old.logged ≤ framed_room log) (sym logs) (omega arith)
    is_commit Device answered (fault, logs) ends = record {
      answer = answered;
      ends = ends_both old logged kept last job files Device logs.flushed.room ends;
      step = λ outside engine flush others seen out tells. failed_seen old logged kept last job files store of_job
          Device ends
          outside engine flush others seen out tells logs.flushed.room all logs.listed answered logs.least fault
          ends.lists
          logs.flushed;
      moments = λ outside engine flush others seen out tells. commit_moments old logged kept last job files store of_job
          Device ends
          outside engine flush others seen out tells logs.flushed.room all logs.listed answered logs.least (Err fault)
          logs.flushed;
      world = λ outside engine flush others world seen out tells stands. failed_world old logged kept last job files
          store of_job
          Device ends outside engine flush others seen out tells logs.flushed.room all logs.listed answered logs.least
          world
          stands (failed_seen old logged kept last job files store of_job Device ends outside engine flush others seen
          out tells
          logs.flushed.room all logs.listed answered logs.least fault ends.lists logs.flushed);
      keeps = λ outside engine flush others seen out tells oldest. commit_keeps old logged kept last job files store
          of_job Device
          ends outside engine flush others seen out tells logs.flushed.room all logs.listed oldest logs.least;
      left = λ is. absurd cc;
      working = logs.flushed.working;
      kept = logs.flushed.kept;
      memory = λ is. logs.flushed.memory;
      gone = λ is. absurd cc;
      slot = logs.flushed.slot;
      cause = λ is. logs.flushed.cause.failed;
      later = logs.flushed.cause.later;
    }

  pub is_abandoned : (old : Core J F S R P means counts) (kept : KeptFiles) (last : ℕ) (job : FlushJob)
      (files : NewFiles) (store : Store) → AreFilesOfJob store job files
      → EndsInCore old (record old { files = kept; flushed_below = last }) job files Gone
      → IsAbandoned old (record old { files = kept; flushed_below = last }) job files
  is_abandoned old kept last job files store of_job ends = record {
    logged = refl;
    ends = ends;
    step = λ outside engine flush others seen out tells. ended_seen old old.logged kept last job files store of_job Gone
        ends outside engine flush others seen out tells (omega arith) ends.lists refl;
    world = λ outside engine flush others world seen out tells stands. world_of old old.logged kept last job files store
        of_job
        Gone ends outside engine flush others seen out tells (omega arith) world
        (ended_flush flush others (state_files files) engine) refl stands
        (ended_seen old old.logged kept last job files store of_job Gone ends outside engine flush others seen out tells
        (omega arith) ends.lists refl);
  }

  -- where no flush is taken the core stands for the same worlds
  pub not_taken_world : (old after : Core J F S R P means counts) → IsNotTaken old after → CoreKeepsWorld old after
  not_taken_world old after not world is = record {
    outside = is.outside;
    state = is.state;
    seen = not.step is.outside is.state is.seen;
    stands = is.stands;
  }

  -- ---- the calls, from what their parts promise

  pub appended : (old : Core J F S R P means counts) (logged : LoggedMemory J means counts) (job : FlushJob)
      (listed : Option Stamp) (s u : FileNumber) (outcome result : Result (Unit {0}) Failed)
      → s ≡ number_for job.sequence → u ≡ number_for job.unsequence → outcome ≡ result
      → IsLeastWith listed job (listed_borns old.files) → IsFlushed old.logged logged s u listed outcome
      → AppendsFlush old (record old { logged = logged }) job result
  appended old logged job listed s u outcome result first second same least flushed = record {
    listed = listed;
    least = least;
    flushed = subst (λ o. IsFlushed old.logged logged (number_for job.sequence) (number_for job.unsequence) listed o)
        same
        (subst (λ n. IsFlushed old.logged logged (number_for job.sequence) n listed outcome) second
        (subst (λ n. IsFlushed old.logged logged n u listed outcome) first flushed));
  }

  pub more_logged : (old mid : Core J F S R P means counts) (job : FlushJob) (commit : Commit)
      → IsLoggedAs old mid job commit → framed_room old.logged ≤ framed_room mid.logged
  more_logged old mid job Done logs = logs.flushed.room
  more_logged old mid job Gone same = subst (λ log. framed_room old.logged ≤ framed_room log) (sym same) (omega arith)
  more_logged old mid job Device logs = logs.1.flushed.room

  module _ (old mid : Core J F S R P means counts) (job : FlushJob) (commit : Commit)
      (is_mid : mid ≡ record old { logged = mid.logged }) (logs : IsLoggedAs old mid job commit) where
    pub still_out : IsOut old job → IsOut mid job
    still_out out = subst (λ core. IsOut core job) (sym is_mid)
        (logged_out old mid.logged job (more_logged old mid job commit logs) out)

    pub committed_from : (new : Core J F S R P means counts) (files : NewFiles) (store : Store)
        → AreFilesOfJob store job files → AreAllThere job files
        → new ≡ record mid { files = new.files; flushed_below = new.flushed_below }
        → IsCommitAnswer old job commit → EndsInCore mid new job files commit
        → IsCommit old new job files commit
    committed_from new files store of_job all is_new answered ends =
        subst (λ core. IsCommit old core job files commit) (sym whole)
        (is_commit old mid.logged new.files new.flushed_below job files store of_job all commit answered
        (subst (λ core. IsLoggedAs old core job commit) is_mid logs)
        (subst (λ core. EndsInCore core both_of job files commit) is_mid
        (subst (λ core. EndsInCore mid core job files commit) whole ends)))
      where
        both_of : Core J F S R P means counts
        both_of = record old { logged = mid.logged; files = new.files; flushed_below = new.flushed_below }

        whole : new ≡ record old { logged = mid.logged; files = new.files; flushed_below = new.flushed_below }
        whole = is_new ∙ ap (λ (core : Core J F S R P means counts). record core {
          files = new.files;
          flushed_below = new.flushed_below;
        }) is_mid

  pub abandoned_from : (old new : Core J F S R P means counts) (job : FlushJob) (files : NewFiles) (store : Store)
      → AreFilesOfJob store job files → new ≡ record old { files = new.files; flushed_below = new.flushed_below }
      → EndsInCore old new job files Gone → IsAbandoned old new job files
  abandoned_from old new job files store of_job is_new ends = subst (λ core. IsAbandoned old core job files) (sym
      is_new)
      (is_abandoned old new.files new.flushed_below job files store of_job
      (subst (λ core. EndsInCore old core job files Gone) is_new ends))
