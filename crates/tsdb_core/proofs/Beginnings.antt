-- What beginning a compaction makes of a core, and of the states that it shows.
use Rattle.std.proofs.Common.{◌≡◌, ◌≢◌, ℕ, ◌+◌, ◌-◌, ◌*◌, ◌≤◌, Bool, true, false, List, [], ◌∷◌, length, map}
use Rattle.std.proofs.Common.{Option, None, Some, Result, Ok, Err, inl, inr, ap, arith, drop, take, refl, sym, subst, ◌∙◌}
use Rattle.std.proofs.lemmas.Bool.{false≢true}
use Rattle.std.proofs.lemmas.List.{drop-map, length-append, length-map, take-map}
use Rattle.std.specs.List.{filter}
use Rattle.std.specs.Option.{option_map}
use Rattle.std.specs.Prelude.{◌↔◌, IfOk, IfSome, slice_range}
use Rattle.tsdb_base.specs.declared.ids.FileNumber.{FileNumber}
use Rattle.tsdb_base.specs.declared.ids.Space.{Space}
use Rattle.tsdb_base.specs.declared.ids.Space.TheVariants.{Sequence, Unsequence}
use Rattle.tsdb_tasks.proofs.InState.{began_in_state}
use Rattle.tsdb_tasks.proofs.Moments.{of_moment}
use Rattle.tsdb_tasks.proofs.Out.{compaction_of, early_list, found, is_compaction, is_formed, is_out, job_of}
use Rattle.tsdb_tasks.proofs.Out.{late_list, new_room, out_list, output_open, slice_long, stand_so, still_open}
use Rattle.tsdb_tasks.proofs.Telling.{tell_on}
use Rattle.tsdb_tasks.proofs.Truth.{tells_truth}
use Rattle.tsdb_tasks.specs.Beginning.{AreBegun}
use Rattle.tsdb_tasks.specs.Inputs.{input_numbers}
use Rattle.tsdb_tasks.specs.Series.{AreSeriesOfJob, run_paths}
use Rattle.tsdb_tasks.specs.declared.beginning.TakenInputs.{TakenInputs}
use Rattle.tsdb_tasks.specs.declared.finishing.InputRuns.{InputRuns}
use Rattle.tsdb_tasks.specs.declared.series.JobSeries.{JobSeries}
use Rattle.tsdb_tasks.proofs.Planned.{planned_begins}
use Rattle.tsdb_tasks.specs.Jobs.{IsCompactionOf, crosses, input_file, is_cross}
use Rattle.tsdb_tasks.specs.Plans.{IsOfMoment, IsPlanned}
use Rattle.tsdb_tasks.specs.Job.{Job}
use Rattle.tsdb_core.proofs.LoansJobs.{begun_inputs, job_rights_taken, planned_free, planned_unclaimed}
use Rattle.tsdb_core.proofs.BeginningsClaims.{claims_stay, in_sequence, in_unsequence, run_claimed}
use Rattle.tsdb_core.proofs.BeginningsKept.{begun_kept, none_next}
use Rattle.tsdb_core.proofs.Commits.{prepared_sound}
use Rattle.tsdb_core.specs.Beginnings.{ArePlanned, IsBegun, IsBegunOrNot, IsCrossRuns, IsInnerRuns, IsNewJob, claimed_by}
use Rattle.tsdb_core.specs.Beginnings.{cross_run}
use Rattle.tsdb_core.specs.Beginnings.{no_files}
use Rattle.tsdb_core.specs.Compactions.{IsJobKept}
use Rattle.tsdb_core.specs.Core.{AreClaimed, IsSeen, KeepsJobs, is_claimed, next_of}
use Rattle.tsdb_core.specs.Worlds.{CoreKeepsWorld}
use Rattle.tsdb_core.specs.declared.commit.CoreFault.{CoreFault}
use Rattle.tsdb_core.specs.declared.engine.Core.{Core}
use Rattle.tsdb_fileset.specs.StateOfFiles.{AreFilesOf, listed}
use Rattle.tsdb_state.proofs.ImageLemmas.Storing.{begin_stored}
use Rattle.tsdb_fileset.specs.Files.{AreKept, KeptFiles, kept_file}
use Rattle.tsdb_fileset.specs.Replacing.{IsWithin, claim_run, run_length}
use Rattle.tsdb_base.proofs.Lists.{each_weaker}
use Rattle.tsdb_base.specs.Lists.{Among, count}
use Rattle.tsdb_memory.specs.Commands.{IsPrepared}
use Rattle.tsdb_memory.specs.LogState.{IsSoundLogged, Outside, memory_of, framed_room}
use Rattle.tsdb_memory.specs.declared.logged_memory.LoggedMemory.{LoggedMemory}
use Rattle.tsdb_marks.specs.Lists.{is_of}
use Rattle.tsdb_model.specs.declared.command.Schema.{Schema}
use Rattle.tsdb_outside.specs.Files.{NamedFile}
use Rattle.tsdb_outside.specs.declared.disk.Disk as disk
use Rattle.tsdb_outside.specs.declared.faults.Counted as counted
use Rattle.tsdb_tasks.specs.Changes.{more_rights}
use Rattle.tsdb_plan.specs.CrossPlan.{IsCrossPlan}
use Rattle.tsdb_plan.specs.InnerPlan.{IsInnerPlan}
use Rattle.tsdb_plan.specs.declared.entry.FileEntry.{FileEntry}
use Rattle.tsdb_plan.specs.declared.entry.Run.{Run}
use Rattle.tsdb_base.specs.Limits.{end_of_numbers}
use Rattle.tsdb_state.specs.Plans.{file_entries}
use Rattle.tsdb_state.specs.State as state
use Rattle.tsdb_state.specs.State.{Compaction, EngineState, KnownFiles, File}
use Rattle.tsdb_state.specs.Steps.{Begins, began}

-- ---- the runs of a plan

-- the runs lie in the lists, and have a file
pub record Fit (space : Space) (runs : InputRuns) (files : KeptFiles) : Type 0 where
  pub sequence : IsWithin runs.sequence files.sequence
  pub unsequence : IsWithin runs.unsequence files.unsequence
  pub some : 1 ≤ run_length runs.sequence + run_length runs.unsequence
  pub none : space ≡ Unsequence → runs.sequence ≡ no_files

no_space : Sequence ≡ Unsequence → ⊥
no_space is = cc

none_within : (run : Run) (entries : List FileEntry) → run ≡ no_files → IsWithin run entries
none_within run entries is = subst (λ r. IsWithin r entries) (sym is)
    (record { rises = omega arith; ends = omega arith })

inner_within : (run : Run) (entries : List FileEntry) → IsInnerPlan entries run → IsWithin run entries
inner_within run entries plan = record { rises = plan.row.order; ends = plan.row.within }

slice_listed : (first end : ℕ) (entries : List FileEntry)
    → map listed (slice_range entries first end) ≡ slice_range (map listed entries) first end
slice_listed first end entries = sym (take-map listed (end - first) (drop first entries))
    ∙ ap (take (end - first)) (sym (drop-map listed first entries))

whole : (n : ℕ) → n - 0 ≡ n
whole n = omega arith

empty_run : (run : Run) (entries : List FileEntry) → run ≡ no_files
    → map listed (slice_range entries run.first run.end) ≡ []
empty_run run entries is = ap (λ (r : Run). map listed (slice_range entries r.first r.end)) is

some_crosses : (late : List FileNumber) → 1 ≤ length late → crosses Sequence late ≡ true
some_crosses [] some = absurd (omega (arith, some))
some_crosses (file ∷ files) some = refl

module _ {J F S R P : Type 0} {means : disk.Ghosts J} {counts : counted.Ghosts J} where
  pub plan_fits : (space : Space) (core : Core J F S R P means counts) (runs : InputRuns) → ArePlanned space core runs
      → Fit space runs core.files
  plan_fits Sequence core runs (inl plan) = record {
    sequence = inner_within runs.sequence core.files.sequence plan.plan;
    unsequence = none_within runs.unsequence core.files.unsequence plan.none;
    some = omega (arith, plan.plan.two);
    none = λ is. absurd (no_space is);
  }
  plan_fits Unsequence core runs (inl plan) = record {
    sequence = none_within runs.sequence core.files.sequence plan.none;
    unsequence = inner_within runs.unsequence core.files.unsequence plan.plan;
    some = omega (arith, plan.plan.two);
    none = λ is. plan.none;
  }
  plan_fits space core runs (inr (is, plan)) =
      let past = plan.plan.eligible.end in
      record {
        sequence = record {
          rises = omega (arith, past.2);
          ends = omega (arith, past.2, past.1.within, plan.plan.eligible.first.within);
        };
        unsequence = record {
          rises = omega (arith, plan.first);
          ends = plan.plan.eligible.within;
        };
        some = omega (arith, plan.first, plan.plan.eligible.some);
        none = λ late. absurd (no_space (sym is ∙ late));
      }

  -- a job of an inner plan is an inner one, and that of a cross plan a cross one

  inner_job : (space : Space) (core : Core J F S R P means counts) (runs : InputRuns) (job : Job F S R P)
      → IsInnerRuns space core runs → IsNewJob space runs core job → is_cross job ≡ false
  inner_job Sequence core runs job plan is =
      let late : job.unsequence ≡ [] = is.unsequence
      ∙ ap (λ (r : Run). map (λ (entry : FileEntry). entry.number) (slice_range core.files.unsequence r.first r.end))
      plan.none in
      λ i. crosses (is.space i) (late i)
  inner_job Unsequence core runs job plan is = λ i. crosses (is.space i) job.unsequence

  cross_job : (core : Core J F S R P means counts) (runs : InputRuns) (job : Job F S R P) → IsCrossRuns core runs
      → IsNewJob Sequence runs core job → is_cross job ≡ true
  cross_job core runs job plan is =
      let fit = plan_fits Sequence core runs (inr (refl, plan)) in
      let late = slice_range core.files.unsequence runs.unsequence.first runs.unsequence.end in
      (λ i. crosses (is.space i) (is.unsequence i))
      ∙ some_crosses (map (λ (entry : FileEntry). entry.number) late)
      (omega (
        arith,
        plan.first,
        plan.plan.eligible.some,
        slice_long runs.unsequence core.files.unsequence fit.unsequence,
        length-map late (λ (entry : FileEntry). entry.number),
      ))

  pub inner_kind : (name : R → NamedFile) (space : Space) (core after : Core J F S R P means counts)
      (result : Result (Option (Job F S R P)) CoreFault)
      → IsBegunOrNot name space (IsInnerRuns space core) core after result
      → IfOk result (λ begun. IfSome begun (λ job. is_cross job ≡ false))
  inner_kind name space core after (Ok None) is = tt
  inner_kind name space core after (Ok (Some job)) (runs, plan, begun) = inner_job space core runs job plan begun.is_new
  inner_kind name space core after (Err fault) is = tt

  pub cross_kind : (name : R → NamedFile) (core after : Core J F S R P means counts)
      (result : Result (Option (Job F S R P)) CoreFault)
      → IsBegunOrNot name Sequence (IsCrossRuns core) core after result
      → IfOk result (λ begun. IfSome begun (λ job. is_cross job ≡ true))
  cross_kind name core after (Ok None) is = tt
  cross_kind name core after (Ok (Some job)) (runs, plan, begun) = cross_job core runs job plan begun.is_new
  cross_kind name core after (Err fault) is = tt

  -- they are those of a plan of the state, where the files are its files
  pub planned_in : (space : Space) (core : Core J F S R P means counts) (runs : InputRuns) (known : KnownFiles)
      (engine : EngineState) (born : ℕ) (series : JobSeries) (output : ℕ) → ArePlanned space core runs
      → AreFilesOf core.files known engine → AreKept core.files → AreClaimed core engine.compactions
      → IsPlanned known (is_claimed core.files) engine (compaction_of space born runs core.files series output)
  planned_in Sequence core runs known engine born series output (inl plan) are kept claims = inl (record {
    run = runs.sequence;
    plan = subst (λ entries. IsInnerPlan entries runs.sequence) (sym (in_sequence core.files known engine are kept))
        plan.plan;
    is = record {
      space = refl;
      place = refl;
      sequence_run = slice_listed runs.sequence.first runs.sequence.end core.files.sequence
          ∙ ap (λ (files : List File). slice_range files runs.sequence.first runs.sequence.end) are.sequence;
      no_late = empty_run runs.unsequence core.files.unsequence plan.none;
    };
    free = claims.sequence plan.free;
  })
  planned_in Unsequence core runs known engine born series output (inl plan) are kept claims = inr (inl (record {
    run = runs.unsequence;
    plan = subst (λ entries. IsInnerPlan entries runs.unsequence) (sym (in_unsequence core.files known engine are kept))
        plan.plan;
    is = record {
      space = refl;
      late_run = slice_listed runs.unsequence.first runs.unsequence.end core.files.unsequence
          ∙ ap (λ (files : List File). slice_range files runs.unsequence.first runs.unsequence.end) are.unsequence;
      no_sequence = empty_run runs.sequence core.files.sequence plan.none;
    };
  }))
  planned_in space core runs known engine born series output (inr (is, plan)) are kept claims = inr (inr (record {
    run = cross_run runs;
    plan = subst (λ entries. IsCrossPlan entries (file_entries known (is_claimed core.files) engine.store.unsequence)
        (cross_run runs)) (sym (in_sequence core.files known engine are kept))
        (subst (λ entries. IsCrossPlan core.files.sequence entries (cross_run runs))
        (sym (in_unsequence core.files known engine are kept)) plan.plan);
    is = record {
      space = is;
      place = refl;
      sequence_run = slice_listed runs.sequence.first runs.sequence.end core.files.sequence
          ∙ ap (λ (files : List File). slice_range files runs.sequence.first runs.sequence.end) are.sequence;
      first_late = slice_listed runs.unsequence.first runs.unsequence.end core.files.unsequence
          ∙ ap (λ (files : List File). slice_range files runs.unsequence.first runs.unsequence.end) are.unsequence
          ∙ ap (λ n. slice_range engine.store.unsequence n runs.unsequence.end) plan.first
          ∙ ap (λ n. take n engine.store.unsequence) (whole runs.unsequence.end);
    };
    free = claims.sequence plan.free;
  }))

  -- ---- a job has begun

  module _ (name : R → NamedFile) (old : Core J F S R P means counts) (logged : LoggedMemory J means counts)
      (files : KeptFiles) (next : ℕ) (claimed : Bool) (space : Space) (runs : InputRuns) (inputs : ℕ)
      (series : JobSeries) (taken : TakenInputs F S R P) (plan : ArePlanned space old runs) (kept : AreKept old.files)
      (left : next_of old + 2 ≤ end_of_numbers) (prepared : IsPrepared old.logged logged)
      (all : inputs ≡ run_length runs.sequence + run_length runs.unsequence)
      (few_sequence : run_length runs.sequence ≤ 100000000) (few_late : run_length runs.unsequence ≤ 100000000)
      (enough : 39 + 8 * inputs ≤ framed_room logged)
      (of : AreSeriesOfJob (run_paths runs old.files) (memory_of logged) series)
      (begun : AreBegun name space (next_of old) runs old.files files taken) (is_next : next ≡ next_of old + 1)
      (is_claimed_by : claimed ≡ claimed_by space old.sequence_claimed) (stamp : ℕ)
      (is_stamp : stamp ≡ (memory_of logged).stamp) where
    abbrev pub new : Core J F S R P means counts
    new = record old { logged = logged; files = files; next_file = next; sequence_claimed = claimed }

    abbrev pub job : Job F S R P
    job = job_of space stamp runs.sequence.first taken series (next_of old)

    abbrev compaction : Compaction
    compaction = compaction_of space stamp runs old.files series (next_of old)

    fit : Fit space runs old.files
    fit = plan_fits space old runs plan

    long : length taken.inputs ≡ run_length runs.sequence + run_length runs.unsequence
    long = omega (
      arith,
      length-map taken.inputs input_file,
      ap length begun.all.are,
      length-append (map listed early) (map listed late),
      length-map early listed,
      length-map late listed,
      slice_long runs.sequence old.files.sequence fit.sequence,
      slice_long runs.unsequence old.files.unsequence fit.unsequence,
    )
      where
        early : List FileEntry
        early = slice_range old.files.sequence runs.sequence.first runs.sequence.end

        late : List FileEntry
        late = slice_range old.files.unsequence runs.unsequence.first runs.unsequence.end

    some : 1 ≤ length taken.inputs
    some = omega (arith, long, fit.some)

    not_none : taken.inputs ≢ []
    not_none is = omega (arith, some, ap length is)

    compaction_is : IsCompactionOf job compaction
    compaction_is = is_compaction name space stamp (next_of old) runs old.files files taken series begun fit.sequence
        fit.unsequence

    abbrev rights : ℕ → ℕ
    rights n = count n (input_numbers taken.inputs)

    has_found : (n : ℕ) → kept_file n files ≡ option_map (more_rights (rights n)) (kept_file n old.files)
    has_found = found name space stamp (next_of old) runs old.files files taken series begun fit.sequence fit.unsequence

    pub jobs : (made : Compaction) (flushes : List state.FlushState) (compactions : List Compaction)
        → IsCompactionOf job made → KeepsJobs old flushes compactions → KeepsJobs new flushes (made ∷ compactions)
    jobs made flushes compactions made_of keeps = begun_kept old new job flushes compactions made made_of keeps refl
        is_next refl rights has_found
        (still_open name space stamp (next_of old) runs old.files files taken series begun fit.sequence fit.unsequence)
        (output_open name space stamp (next_of old) runs old.files files taken series begun fit.sequence fit.unsequence)
        (new_room name space stamp (next_of old) runs old.files files taken series begun fit.sequence fit.unsequence)
        some prepared.record_room (omega (arith, enough, all, long))

    pub is_kept : (flushes : List state.FlushState) (compactions : List Compaction) → KeepsJobs old flushes compactions
        → IsJobKept name new job
    is_kept flushes compactions keeps = record {
      formed = is_formed name space stamp (next_of old) runs old.files files taken series begun fit.sequence
          fit.unsequence (run_paths runs old.files) (memory_of logged) of not_none;
      held = is_out name space stamp (next_of old) runs old.files files taken series begun fit.sequence fit.unsequence
          (none_next (next_of old) (kept_file (next_of old) old.files) (keeps.below (next_of old))) some;
      stands = stand_so name space stamp (next_of old) runs old.files files taken series begun fit.sequence
          fit.unsequence fit.none;
      few_sequence = omega (
        arith,
        few_sequence,
        ap length begun.sequence,
        length-map (slice_range old.files.sequence runs.sequence.first runs.sequence.end)
            (λ (entry : FileEntry). entry.number),
        slice_long runs.sequence old.files.sequence fit.sequence,
      );
      few_late = omega (
        arith,
        few_late,
        ap length begun.unsequence,
        length-map (slice_range old.files.unsequence runs.unsequence.first runs.unsequence.end)
            (λ (entry : FileEntry). entry.number),
        slice_long runs.unsequence old.files.unsequence fit.unsequence,
      );
    }

    module _ (outside : Outside) (engine : EngineState) (seen : IsSeen old outside engine) where
      sound : IsSoundLogged logged outside engine
      sound = prepared_sound old.logged logged prepared outside engine seen.sound

      moment : IsOfMoment outside.known engine compaction
      moment = of_moment old.files outside.known engine seen.files kept runs (memory_of logged) series compaction
          fit.sequence fit.unsequence sound.memory of refl refl is_stamp seen.next
          (subst (λ n. n + 2 ≤ end_of_numbers) seen.next left)

      begins : Begins outside.told compaction engine
      begins = planned_begins outside.told outside.known sound.stored.named engine (is_claimed old.files) compaction
          sound.stored.order seen.claims.late
          (planned_in space old runs outside.known engine stamp series (next_of old) plan seen.files kept seen.claims)
          moment

      claims : AreClaimed new (compaction ∷ engine.compactions)
      claims = record {
        late = (
          run_claimed runs.unsequence old.files files fit.unsequence same_sequence same_late,
          each_weaker (λ (c : Compaction). (file : File) → Among file c.unsequence → is_claimed old.files file ≡ true)
              (λ (c : Compaction). (file : File) → Among file c.unsequence → is_claimed files file ≡ true)
              (λ c late file among. claims_stay runs.unsequence old.files files fit.unsequence same_sequence same_late
              file (late file among)) engine.compactions seen.claims.late,
        );
        sequence = λ free. (
          no_sequence space (sym is_claimed_by ∙ free),
          seen.claims.sequence (was_free space (sym is_claimed_by ∙ free)),
        );
      }
        where
          same_sequence : files.sequence ≡ old.files.sequence
          same_sequence = early_list name space stamp (next_of old) runs old.files files taken series begun fit.sequence
              fit.unsequence

          same_late : files.unsequence ≡ claim_run runs.unsequence true old.files.unsequence
          same_late = late_list name space stamp (next_of old) runs old.files files taken series begun fit.sequence
              fit.unsequence

          no_sequence : (s : Space) → claimed_by s old.sequence_claimed ≡ false → s ≡ Sequence → ⊥
          no_sequence Sequence free same = false≢true (sym free)
          no_sequence Unsequence free same = no_space (sym same)

          was_free : (s : Space) → claimed_by s old.sequence_claimed ≡ false → old.sequence_claimed ≡ false
          was_free Sequence free = absurd (false≢true (sym free))
          was_free Unsequence free = free

      shows : IsSeen new outside (began compaction engine)
      shows = record {
        sound = record {
          memory = sound.memory;
          log = record { log = sound.log.log; named = sound.log.named };
          stored = begin_stored outside.items outside.kept outside.told outside.known engine sound.stored compaction
              begins;
        };
        files = began_in_state name space (next_of old) runs old.files files outside.known engine compaction taken
            seen.files fit.unsequence refl begun;
        told = tell_on outside.kept old.files files (λ n. more_rights (rights n)) (λ n file. refl) has_found seen.told;
        next = is_next ∙ ap (λ n. n + 1) seen.next;
        jobs = jobs compaction engine.flushes engine.compactions compaction_is seen.jobs;
        claims = claims;
      }

      step : (made : Compaction) × IsCompactionOf job made × Begins outside.told made engine
          × IsSeen new outside (began made engine)
      step = (compaction, compaction_is, begins, shows)

    -- the marks and the schemas of its series, memory had before
    of_before : AreSeriesOfJob (run_paths runs old.files) (memory_of old.logged) series
    of_before = record {
      marks = of.marks ∙ ap (filter (is_of (run_paths runs old.files))) prepared.room.marks;
      schemas = subst (λ (all : List Schema). (schema : Schema) → Among schema series.schemas
          ↔ (Among schema all × Among schema.path (run_paths runs old.files))) prepared.room.series of.schemas;
      formed = of.formed;
      rising = of.rising;
    }

    pub job_begun : IsBegun name space runs old new job
    job_begun = record {
      is_new = record {
        space = refl;
        born = is_stamp ∙ prepared.room.stamp;
        place = refl;
        inputs = begun.all.are;
        sequence = begun.sequence;
        unsequence = begun.unsequence;
        marks = of.marks ∙ ap (filter (is_of (run_paths runs old.files))) prepared.room.marks;
        series = of_before;
        output = refl;
      };
      kept = is_kept;
      next = is_next;
      flushed = refl;
      claimed = is_claimed_by;
      lists = record {
        sequence = early_list name space stamp (next_of old) runs old.files files taken series begun fit.sequence
            fit.unsequence;
        unsequence = late_list name space stamp (next_of old) runs old.files files taken series begun fit.sequence
            fit.unsequence;
        outgoing = out_list name space stamp (next_of old) runs old.files files taken series begun fit.sequence
            fit.unsequence;
        logged = prepared;
        limit = refl;
        store = ap (λ (kept : KeptFiles). kept.store) begun.claimed ∙ begun.all.more.lists.store;
      };
      rights = has_found;
      jobs = jobs;
      loans = λ made flushes compactions lent made_of keeps. record {
        jobs = jobs made flushes compactions made_of keeps.jobs;
        inputs = begun_inputs old.files files old.sequence_claimed claimed job made compactions runs.unsequence made_of
            kept fit.unsequence
            (late_list name space stamp (next_of old) runs old.files files taken series begun fit.sequence
            fit.unsequence)
            (early_list name space stamp (next_of old) runs old.files files taken series begun fit.sequence
            fit.unsequence) begun.unsequence (planned_free space old runs plan)
            (is_kept flushes compactions keeps.jobs).stands (planned_unclaimed space old runs plan) is_claimed_by
            keeps.inputs;
        rights = job_rights_taken name old.files files job lent has_found begun.all.held keeps.rights;
      };
      step = step;
      truth = λ outside engine seen.
          let sound = prepared_sound old.logged logged prepared outside engine seen.sound in
          tells_truth name space stamp (next_of old) runs old.files files taken series begun fit.sequence fit.unsequence
          (memory_of logged) of outside.told outside.known sound.stored.named engine outside.kept sound.stored.order
          sound.stored.whole seen.files kept seen.told sound.memory;
    }

  -- the state in which a compaction has begun has the same store
  pub begun_world : (name : R → NamedFile) (space : Space) (runs : InputRuns) (old after : Core J F S R P means counts)
      (out : Job F S R P) → IsBegun name space runs old after out → CoreKeepsWorld old after
  begun_world name space runs old after out begun world is =
      let stepped = begun.step is.outside is.state is.seen in
      record { outside = is.outside; state = began stepped.0 is.state; seen = stepped.3; stands = is.stands }
