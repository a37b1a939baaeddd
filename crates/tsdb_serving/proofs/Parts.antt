-- The steps of a flush, as a core takes them: what each leaves of the state that a core is in.
use Rattle.std.proofs.Common.{◌≡◌, ℕ, List, [], ◌∷◌, ◌++◌, Option, None, Some, inl, inr, refl, sym}
use Rattle.std.proofs.Common.{ap, subst, ◌∙◌}
use Rattle.std.specs.List.{AllByRecursion as Each, flat_map}
use Rattle.std.specs.Prelude.{IfSome}
use Rattle.tsdb_memory.proofs.Following.{froze_stands}
use Rattle.tsdb_base.specs.declared.answers.Answer.{Answer}
use Rattle.tsdb_base.specs.declared.answers.Answer.TheVariants as answer
use Rattle.tsdb_core.proofs.Stored.{numbers_differ, one_at_most, told_same, worlds_with}
use Rattle.tsdb_core.specs.Files.{AreFilesOfJob, IsOutAs, NewFiles, TellBytes, all_of, state_files}
use Rattle.tsdb_core.specs.Files.{stored_of, told_after_flush, with_files}
use Rattle.tsdb_core.specs.Commands.{IsCoreCommand, IsSeenAfter}
use Rattle.tsdb_core.specs.Core.{IsSeen, logged_of}
use Rattle.tsdb_core.specs.Flushes.{IsAbandoned, IsCommit, IsCommitAnswer, IsOldestPair, IsSeenAfterCommit}
use Rattle.tsdb_core.specs.Flushes.{IsFlushTaken}
use Rattle.tsdb_core.specs.Rows.{CanFreezeNow}
use Rattle.tsdb_core.specs.declared.commit.Commit.{Commit}
use Rattle.tsdb_core.specs.declared.commit.Commit.TheVariants.{Device, Done, Gone}
use Rattle.tsdb_core.specs.declared.engine.Core.{Core}
use Rattle.tsdb_frames.proofs.MomentLemmas.{weaker}
use Rattle.tsdb_state.proofs.ImageLemmas.After.{listed_after}
use Rattle.tsdb_state.specs.StoredEngine.{LeadsTo, built_files}
use Rattle.tsdb_core.specs.FlushJob.{FlushJob}
use Rattle.tsdb_base.proofs.Lists.{each_among, each_from_among, each_left, each_right}
use Rattle.tsdb_base.specs.Lists.{Among, IsWithOne}
use Rattle.tsdb_log.specs.declared.record.LogRecord.{LogRecord}
use Rattle.tsdb_log.specs.declared.record.LogRecord.TheVariants.{Freeze}
use Rattle.tsdb_memory.specs.Commands.{NeedsNothing}
use Rattle.tsdb_memory.specs.LogState.{IsStoredIn, Outside, log_of, with_record}
use Rattle.tsdb_model.specs.State as plain
use Rattle.tsdb_model.specs.World.{World}
use Rattle.tsdb_outside.specs.Disk.{IsLawful}
use Rattle.tsdb_outside.specs.Files.{Store, StoredFile}
use Rattle.tsdb_outside.specs.declared.disk.Disk as disk
use Rattle.tsdb_outside.specs.declared.faults.Counted as counted
use Rattle.tsdb_state.specs.Stores.{IsStateOf}
use Rattle.tsdb_serving.proofs.Differing.{Differ, stored_differ}
use Rattle.tsdb_serving.proofs.Held.{either_wider, held_more, held_with}
use Rattle.tsdb_serving.proofs.Lent.{HasPartner, flush_partner, without_flush}
use Rattle.tsdb_serving.proofs.Steps.{quiet_left, quiet}
use Rattle.tsdb_serving.specs.Loans.{AreLent, IsFlushLent, flushes_in}
use Rattle.tsdb_serving.specs.Serving.{IsServedBy, IsServing, LeavesEither, MayDoubt, ServesWith, disk_under}
use Rattle.tsdb_serving.specs.Serving.{slot_under}
use Rattle.tsdb_serving.specs.declared.loan.Loan.{Loan}
use Rattle.tsdb_serving.specs.declared.loan.Loan.TheVariants as loan
use Rattle.tsdb_state.proofs.Told.{value_same}
use Rattle.tsdb_state.specs.Order.{DoubtInOrder, all_files as state_files_of}
use Rattle.tsdb_state.specs.Records.{after, flush_oldest, names, numbers_of}
use Rattle.tsdb_state.specs.State as state
use Rattle.tsdb_state.specs.State.{EngineState, File, FrozenContent, StoreState, ToldContents}
use Rattle.tsdb_state.specs.Steps.{committed_flush, ended_flush, failed, flush_record, number_or_none, settled}
use Rattle.tsdb_state.specs.Steps.{took_flush, wrote}
use Rattle.tsdb_state.specs.Worlds.{StandsFor}

-- ---- what is told of other files

module _ (told other : ToldContents) where
  abbrev Same : File → Type 0
  Same file = told file.number ≡ other file.number

  same_number : (files : List File) → Each Same files → (n : ℕ) → Among n (numbers_of files) → told n ≡ other n
  same_number [] same n among = absurd among
  same_number (file ∷ files) same n (inl is) = subst (λ m. told m ≡ other m) is same.0
  same_number (file ∷ files) same n (inr among) = same_number files same.1 n among

  stands_as : (store : StoreState) (world : World) → Each Same (store.sequence ++ store.unsequence)
      → StandsFor told store world → StandsFor other store world
  stands_as store world same stands = record {
    types = stands.types;
    values = λ place. stands.values place ∙ value_same told other store
        (each_left Same store.sequence store.unsequence same)
        (each_right Same store.sequence store.unsequence same) place;
  }

  state_as : (store : StoreState) (at : plain.State) → Each Same (store.sequence ++ store.unsequence)
      → IsStateOf told store at → IsStateOf other store at
  state_as store at same stands = record { world = stands_as store at.world same stands.world; stamp = stands.stamp }

  -- a record in doubt leads to the same state, where all files that are there are told as before
  pub leads_as : (named : List ℕ) (store : StoreState) (outgoing : List File) (doubt : Option LogRecord)
      (next : Option plain.State) → Each Same ((store.sequence ++ store.unsequence) ++ outgoing)
      → IfSome doubt (DoubtInOrder told named store outgoing) → LeadsTo told store doubt next
      → LeadsTo other store doubt next
  leads_as named store outgoing None None same order leads = tt
  leads_as named store outgoing None (Some next) same order leads = absurd leads
  leads_as named store outgoing (Some item) None same order leads = absurd leads
  leads_as named store outgoing (Some item) (Some next) same order leads =
      state_as (after item store) next
      (listed_after Same item store (λ n among born. same_number outgoing
      (each_right Same (store.sequence ++ store.unsequence) outgoing same) n
      (each_among (λ number. Among number (numbers_of outgoing)) (names item) n order.kept among))
      (each_left Same (store.sequence ++ store.unsequence) outgoing same)) leads

-- a flush leaves the stamp
flushed_stamp : (s u : ℕ) (frozen : List FrozenContent) (store : StoreState)
    → (flush_oldest s u frozen store).stamp ≡ store.stamp
flushed_stamp s u [] store = refl
flushed_stamp s u (oldest ∷ newer) store = refl

module _ (job : FlushJob) (outside : Outside) (engine : EngineState) (flush : state.FlushState)
    (others : List state.FlushState) (stored : IsStoredIn outside engine) (out : IsOutAs job flush others engine)
    (store : Store) (files : NewFiles) (of_job : AreFilesOfJob store job files) where
  pub leads_with : (next : Option plain.State) → LeadsTo outside.told engine.store engine.doubt next
      → LeadsTo (told_after_flush flush files outside.told) engine.store engine.doubt next
  leads_with next leads = leads_as outside.told (told_after_flush flush files outside.told) stored.named engine.store
      engine.outgoing engine.doubt next
      (each_from_among _ (state_files_of engine)
      (told_same job outside engine flush others stored out store files of_job))
      stored.order.doubt leads

module _ {J F S R P : Type 0} {means : disk.Ghosts J} {counts : counted.Ghosts J}
    (laws : (journal : J) → IsLawful (means.state journal)) where
  -- ---- a freeze

  module _ (Q : ℕ → Type 0) (old new : Core J F S R P means counts) (result : Answer)
      (step : IsCoreCommand old new Freeze NeedsNothing result) (can : CanFreezeNow old) (loans : List (Loan F S R P))
      (files : List StoredFile) (at : plain.State) (next : Option plain.State)
      (serving : IsServing loans old files at next) where
    frozen_stands : IsStateOf serving.outside.told (after Freeze serving.state.store) at
    frozen_stands = record {
      world = froze_stands serving.outside.told serving.state.store at.world serving.seen.sound.stored.order.store
          (can serving.outside serving.state serving.seen) serving.stands.world;
      stamp = serving.stands.stamp;
    }

    froze_by : (doubt : Option plain.State) → MayDoubt next at at doubt → IsServing loans new (files ++ []) at doubt
        → IsServedBy Q loans old new files at next at at
    froze_by doubt may is = record {
      put = [];
      numbers = tt;
      differ = tt;
      doubt = doubt;
      may = may;
      serving = is;
      moments = weaker (disk_under old) (disk_under new) _
          (LeavesEither (files ++ []) (slot_under old) at next at)
          (λ image leaves. either_wider serving.outside.kept (files ++ []) (slot_under old) at next at image
          (held_more serving.outside.kept files [] serving.held) leaves)
          (step.moments serving.outside serving.state serving.seen tt at at next serving.stands serving.doubt
          frozen_stands);
    }

    as_it_was : IsSeen new serving.outside serving.state → IsServing loans new (files ++ []) at next
    as_it_was seen = record {
      outside = serving.outside;
      state = serving.state;
      seen = seen;
      lent = serving.lent;
      stands = serving.stands;
      doubt = serving.doubt;
      held = held_more serving.outside.kept files [] serving.held;
    }

    froze_in : (r : Answer) → IsSeenAfter new serving.outside serving.state Freeze r
        → IsServedBy Q loans old new files at next at at
    froze_in answer.Done seen = froze_by None (inl refl) (record {
      outside = with_record Freeze serving.outside;
      state = wrote Freeze serving.state;
      seen = seen;
      lent = serving.lent;
      stands = frozen_stands;
      doubt = tt;
      held = held_more serving.outside.kept files [] serving.held;
    })
    froze_in answer.NoPath seen = froze_by next (inr (inl refl)) (as_it_was seen)
    froze_in answer.WrongType seen = froze_by next (inr (inl refl)) (as_it_was seen)
    froze_in answer.Exists seen = froze_by next (inr (inl refl)) (as_it_was seen)
    froze_in answer.Device (inl seen) = froze_by None (inl refl) (record {
      outside = serving.outside;
      state = settled serving.state;
      seen = seen;
      lent = serving.lent;
      stands = serving.stands;
      doubt = tt;
      held = held_more serving.outside.kept files [] serving.held;
    })
    froze_in answer.Device (inr (inl seen)) = froze_by next (inr (inl refl)) (as_it_was seen)
    froze_in answer.Device (inr (inr seen)) = froze_by (Some at) (inr (inr (inl refl))) (record {
      outside = serving.outside;
      state = failed Freeze serving.state;
      seen = seen;
      lent = serving.lent;
      stands = serving.stands;
      doubt = frozen_stands;
      held = held_more serving.outside.kept files [] serving.held;
    })
    froze_in answer.Memory seen = froze_by next (inr (inl refl)) (as_it_was seen)
    froze_in (answer.Full counter) seen = froze_by next (inr (inl refl)) (as_it_was seen)

    pub froze : IsServedBy Q loans old new files at next at at
    froze = froze_in result (step.step serving.outside serving.state serving.seen tt)

  -- ---- nothing

  pub same_seen : (loans : List (Loan F S R P)) (old new : Core J F S R P means counts) (files : List StoredFile)
      (at : plain.State) (next : Option plain.State) → ((outside : Outside) (engine : EngineState)
      → IsSeen old outside engine → IsSeen new outside engine) → IsServing loans old files at next
      → IsServing loans new files at next
  same_seen loans old new files at next step serving = record {
    outside = serving.outside;
    state = serving.state;
    seen = step serving.outside serving.state serving.seen;
    lent = serving.lent;
    stands = serving.stands;
    doubt = serving.doubt;
    held = serving.held;
  }

  pub more_files : (loans : List (Loan F S R P)) (core : Core J F S R P means counts) (files put : List StoredFile)
      (at : plain.State) (next : Option plain.State) → IsServing loans core files at next
      → IsServing loans core (files ++ put) at next
  more_files loans core files put at next serving = record {
    outside = serving.outside;
    state = serving.state;
    seen = serving.seen;
    lent = serving.lent;
    stands = serving.stands;
    doubt = serving.doubt;
    held = held_more serving.outside.kept files put serving.held;
  }

  -- a step that changes neither log nor state
  pub unchanged : (Q : ℕ → Type 0) (loans : List (Loan F S R P)) (old new : Core J F S R P means counts)
      (files : List StoredFile) (at : plain.State) (next : Option plain.State) (after : plain.State)
      → log_of (logged_of new) ≡ log_of (logged_of old)
      → ((outside : Outside) (engine : EngineState) → IsSeen old outside engine → IsSeen new outside engine)
      → IsServing loans old files at next → IsServedBy Q loans old new files at next after at
  unchanged Q loans old new files at next after same step serving = quiet laws Q loans loans old new files [] at next after
      same tt tt serving (more_files loans new files [] at next (same_seen loans old new files at next step serving))

  pub unchanged_left : (Q : ℕ → Type 0) (loans : List (Loan F S R P)) (old new : Core J F S R P means counts)
      (files : List StoredFile) (at : plain.State) (next : Option plain.State) (after : plain.State)
      (same : log_of (logged_of new) ≡ log_of (logged_of old))
      (step : (outside : Outside) (engine : EngineState) → IsSeen old outside engine → IsSeen new outside engine)
      (serving : IsServing loans old files at next)
      → (unchanged Q loans old new files at next after same step serving).doubt ≡ next
  unfolding unchanged
  unchanged_left Q loans old new files at next after same step serving = quiet_left laws Q loans loans old new files [] at
      next after same tt tt serving
      (more_files loans new files [] at next (same_seen loans old new files at next step serving))

  -- ---- taking a job

  pub taken : (old new : Core J F S R P means counts) (job : FlushJob) → IsFlushTaken old new job
      → ServesWith (loan.Flush job) old new
  taken old new job takes loans files at next serving =
      let step = takes.step serving.outside serving.state serving.seen in
      record {
        outside = serving.outside;
        state = took_flush step.0 serving.state;
        seen = step.3;
        lent = record {
          flushes = (record { is_job = takes.is_job; of = step.1 }, serving.lent.flushes);
          compactions = serving.lent.compactions;
          pins = serving.lent.pins;
        };
        stands = serving.stands;
        doubt = serving.doubt;
        held = serving.held;
      }

  -- ---- ending it

  module _ (Q : ℕ → Type 0) (old new : Core J F S R P means counts) (job : FlushJob) (built : NewFiles)
      (store : Store) (of_job : AreFilesOfJob store job built) (tells : TellBytes built)
      (numbers : Each (λ (file : StoredFile). Q file.number) (flat_map stored_of (all_of built)))
      (others loans : List (Loan F S R P)) (files : List StoredFile) (at : plain.State) (next : Option plain.State)
      (one : IsWithOne (loan.Flush job) others loans) (is : IsServing loans old files at next) where
    -- the job is a flush of the state
    abbrev found : HasPartner IsFlushLent job (flushes_in others) is.state.flushes
    found = flush_partner others loans is.state.flushes is.state.compactions is.state.pins is.lent job one

    abbrev flush : state.FlushState
    flush = found.partner

    out : IsOutAs job flush found.rest is.state
    out = record { is_job = found.fits.is_job; of = found.fits.of; out = found.one }

    left : AreLent others found.rest is.state.compactions is.state.pins
    left = without_flush others loans is.state.flushes is.state.compactions is.state.pins is.lent job one

    abbrev put : List StoredFile
    put = flat_map stored_of (all_of built)

    -- its numbers are among those of all jobs that are out, which differ
    differ : Differ put
    differ = stored_differ (all_of built) (numbers_differ store job built flush of_job out.of.sequence
        out.of.unsequence (one_at_most job is.outside is.state flush found.rest is.seen.sound.stored out))

    abbrev later : Outside
    later = with_files flush built is.outside

    stands_later : IsStateOf later.told is.state.store at
    stands_later = record {
      world = (worlds_with job is.outside is.state flush found.rest is.seen.sound.stored out store built of_job
          at.world).0 is.stands.world;
      stamp = is.stands.stamp;
    }

    leads_later : LeadsTo later.told is.state.store is.state.doubt next
    leads_later = leads_with job is.outside is.state flush found.rest is.seen.sound.stored out store built of_job
        next is.doubt

    -- a state of the same store, without the flush
    shows : (other : EngineState) (doubt : Option plain.State) → other.store ≡ is.state.store
        → LeadsTo later.told is.state.store other.doubt doubt → IsSeen new later other
        → AreLent others other.flushes other.compactions other.pins → IsServing others new (files ++ put) at doubt
    shows other doubt same leads seen lent = record {
      outside = later;
      state = other;
      seen = seen;
      lent = lent;
      stands = subst (λ s. IsStateOf later.told s at) (sym same) stands_later;
      doubt = subst (λ s. LeadsTo later.told s other.doubt doubt) (sym same) leads;
      held = held_with built is.outside.kept files is.held;
    }

    pub abandoned : IsAbandoned old new job built → IsServedBy Q others old new files at next at at
    abandoned gives_up = quiet laws Q loans others old new files put at next at (ap (λ log. log_of log) gives_up.logged)
        numbers differ is
        (shows (ended_flush flush found.rest (state_files built) is.state) next refl leads_later
        (gives_up.step is.outside is.state flush found.rest is.seen out tells) left)

    module _ (commit : Commit) (commits : IsCommit old new job built commit) where
      record_stands : IsOldestPair old job
          → IsStateOf later.told (after (flush_record flush) is.state.store) at
      record_stands oldest =
          let keeps = commits.keeps is.outside is.state flush found.rest is.seen out tells oldest in record {
            world = record {
              types = λ path. stands_later.world.types path ∙ sym (keeps.types path);
              values = λ place. stands_later.world.values place ∙ sym (keeps.values place);
            };
            stamp = flushed_stamp (number_or_none flush.sequence).0 (number_or_none flush.unsequence).0
                is.state.store.frozen is.state.store ∙ is.stands.stamp;
          }

      by_record : IsOldestPair old job → (doubt : Option plain.State) → MayDoubt next at at doubt
          → IsServing others new (files ++ put) at doubt → IsServedBy Q others old new files at next at at
      by_record oldest doubt may shown = record {
        put = put;
        numbers = numbers;
        differ = differ;
        doubt = doubt;
        may = may;
        serving = shown;
        moments = weaker (disk_under old) (disk_under new) _
            (LeavesEither (files ++ put) (slot_under old) at next at)
            (λ image leaves. either_wider later.kept (files ++ put) (slot_under old) at next at image
            (held_with built is.outside.kept files is.held) leaves)
            (commits.moments is.outside is.state flush found.rest is.seen out tells at at next stands_later
            leads_later (record_stands oldest));
      }

      committed_as : (c : Commit) → c ≡ commit → IsCommitAnswer old job c
          → IsSeenAfterCommit new later is.state flush found.rest c
          → IsServedBy Q others old new files at next at at
      committed_as Done same oldest seen = by_record oldest None (inl refl) (record {
        outside = with_record (flush_record flush) later;
        state = committed_flush flush found.rest is.state;
        seen = seen;
        lent = left;
        stands = record_stands oldest;
        doubt = tt;
        held = held_with built is.outside.kept files is.held;
      })
      committed_as Gone same answered seen = quiet laws Q loans others old new files put at next at
          (ap (λ log. log_of log) (commits.gone (sym same))) numbers differ is
          (shows (ended_flush flush found.rest (built_files flush) is.state) next refl leads_later seen left)
      committed_as Device same oldest (inl seen) = by_record oldest None (inl refl)
          (shows (settled (ended_flush flush found.rest (built_files flush) is.state)) None refl tt seen left)
      committed_as Device same oldest (inr (inl seen)) = by_record oldest next (inr (inl refl))
          (shows (ended_flush flush found.rest (built_files flush) is.state) next refl leads_later seen left)
      committed_as Device same oldest (inr (inr seen)) = by_record oldest (Some at) (inr (inr (inl refl)))
          (shows (failed (flush_record flush) (ended_flush flush found.rest (built_files flush) is.state))
          (Some at) refl (record_stands oldest) seen left)

      pub committed : IsServedBy Q others old new files at next at at
      committed = committed_as commit refl commits.answer
          (commits.step is.outside is.state flush found.rest is.seen out tells)
