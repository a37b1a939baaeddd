-- What the calls of a core that begin a compaction leave.
use Rattle.std.specs.Prelude.{◌≡◌, ◌⊎◌, ℕ, ◌+◌, ◌<◌, ◌≤◌, ◌==◌, ◌&&◌, Bool, true, false, not, List, ◌∷◌, map, Option}
use Rattle.std.specs.Prelude.{None, Some, Result, length, slice_range}
use Rattle.std.specs.List.{filter}
use Rattle.std.specs.Option.{option_map}
use Rattle.std.specs.declared.result.Result.TheVariants.{Ok, Err}
use Rattle.tsdb_base.specs.declared.ids.Space.{Space}
use Rattle.tsdb_base.specs.declared.ids.Space.TheVariants.{Sequence, Unsequence}
use Rattle.tsdb_tasks.specs.Beginning.{run_files}
use Rattle.tsdb_tasks.specs.Inputs.{input_numbers}
use Rattle.tsdb_tasks.specs.Series.{AreSeriesOfJob, run_paths}
use Rattle.tsdb_tasks.specs.declared.finishing.InputRuns.{InputRuns}
use Rattle.tsdb_tasks.specs.Jobs.{IsCompactionOf, input_files}
use Rattle.tsdb_tasks.specs.CompactionsOutputs.{TellsTruth}
use Rattle.tsdb_tasks.specs.Job.{Job}
use Rattle.tsdb_core.specs.Compactions.{IsJobKept, job_rights}
use Rattle.tsdb_core.specs.Core.{IsSeen, KeepsJobs, files_of, flushed_below, is_sequence_claimed, limit_of, logged_of}
use Rattle.tsdb_core.specs.Core.{next_of, store_of}
use Rattle.tsdb_core.specs.Flushes.{IsNotTaken}
use Rattle.tsdb_core.specs.Loans.{KeepsLoans, LentRight}
use Rattle.tsdb_core.specs.declared.commit.CoreFault.{CoreFault}
use Rattle.tsdb_core.specs.declared.commit.CoreFault.TheVariants.{Memory, Full}
use Rattle.tsdb_core.specs.declared.engine.Core.{Core}
use Rattle.tsdb_fileset.specs.Files.{KeepsLists, kept_file}
use Rattle.tsdb_fileset.specs.Places.{OnlyMakesPlaces}
use Rattle.tsdb_fileset.specs.Replacing.{claim_run}
use Rattle.tsdb_memory.specs.Commands.{IsPrepared}
use Rattle.tsdb_memory.specs.LogState.{Outside, memory_of}
use Rattle.tsdb_marks.specs.Lists.{is_of}
use Rattle.tsdb_base.specs.Lists.{count}
use Rattle.tsdb_outside.specs.Files.{NamedFile}
use Rattle.tsdb_outside.specs.declared.disk.Disk as disk
use Rattle.tsdb_outside.specs.declared.faults.Counted as counted
use Rattle.tsdb_tasks.specs.Changes.{more_rights}
use Rattle.tsdb_plan.specs.CrossPlan.{IsCrossPlan}
use Rattle.tsdb_plan.specs.Files.{HaveRisingHulls}
use Rattle.tsdb_plan.specs.InnerPlan.{IsInnerPlan}
use Rattle.tsdb_plan.specs.declared.entry.CrossRun.{CrossRun}
use Rattle.tsdb_plan.specs.declared.entry.FileEntry.{FileEntry}
use Rattle.tsdb_plan.specs.declared.entry.Run.{Run}
use Rattle.tsdb_base.specs.Limits.{end_of_numbers}
use Rattle.tsdb_state.specs.State.{Compaction, EngineState, FlushState}
use Rattle.tsdb_state.specs.Steps.{Begins, began}

-- no file of a list
abbrev pub no_files : Run
no_files = record { first = 0; end = 0 }

-- the first late files, and the sequence files that they meet
abbrev pub cross_run : InputRuns → CrossRun
cross_run runs = record { prefix = runs.unsequence.end; first = runs.sequence.first; end = runs.sequence.end }

-- the sequence list is claimed once a job with an output of this space has begun
abbrev pub claimed_by : Space → Bool → Bool
claimed_by Sequence claimed = true
claimed_by Unsequence claimed = claimed

-- some runs are a plan
abbrev pub HasPlan : (InputRuns → Type 0) → Type 0
HasPlan IsPlan = (runs : InputRuns) × IsPlan runs

-- What beginning a job answers: none exactly where no runs are a plan; full exactly where some are, and two numbers
-- more are too many, with the next number.
abbrev pub IsBeginAnswer : {F S R P : Type 0} → (InputRuns → Type 0) → ℕ → Result (Option (Job F S R P)) CoreFault
    → Type 0
IsBeginAnswer IsPlan next (Ok None) = (runs : InputRuns) → ¬ IsPlan runs
IsBeginAnswer IsPlan next (Ok (Some job)) = HasPlan IsPlan × (next + 2 ≤ end_of_numbers)
IsBeginAnswer IsPlan next (Err Memory) = HasPlan IsPlan × (next + 2 ≤ end_of_numbers)
IsBeginAnswer IsPlan next (Err (Full counter)) = HasPlan IsPlan × (end_of_numbers < next + 2) × (counter ≡ next)

module _ {J F S R P : Type 0} {means : disk.Ghosts J} {counts : counted.Ghosts J} where
  -- the first run is that of the inner plan of the sequence list, which no job has claimed
  pub record HasInnerSequenceRun (core : Core J F S R P means counts) (runs : InputRuns) : Type 0 where
    pub plan : IsInnerPlan (files_of core).sequence runs.sequence
    pub none : runs.unsequence ≡ no_files
    pub free : is_sequence_claimed core ≡ false

  -- the second run is that of the inner plan of the unsequence list
  pub record HasInnerUnsequenceRun (core : Core J F S R P means counts) (runs : InputRuns) : Type 0 where
    pub plan : IsInnerPlan (files_of core).unsequence runs.unsequence
    pub none : runs.sequence ≡ no_files

  -- the runs of the inner plan of the list of a space
  abbrev pub IsInnerRuns : Space → Core J F S R P means counts → InputRuns → Type 0
  IsInnerRuns Sequence = HasInnerSequenceRun
  IsInnerRuns Unsequence = HasInnerUnsequenceRun

  -- the runs of the cross plan, where no job has claimed the sequence list
  pub record IsCrossRuns (core : Core J F S R P means counts) (runs : InputRuns) : Type 0 where
    pub plan : IsCrossPlan (files_of core).sequence (files_of core).unsequence (cross_run runs)
    pub first : runs.unsequence.first ≡ 0
    pub free : is_sequence_claimed core ≡ false

  -- the runs of a plan for an output of the space
  abbrev pub ArePlanned : Space → Core J F S R P means counts → InputRuns → Type 0
  ArePlanned space core runs = IsInnerRuns space core runs ⊎ ((space ≡ Sequence) × IsCrossRuns core runs)

  -- a cross plan can be: there is a late file, and no job has claimed the sequence list
  abbrev pub may_cross : Core J F S R P means counts → Bool
  may_cross core = not (length (files_of core).unsequence == 0) && not (is_sequence_claimed core)

  -- where a cross plan can be, what is kept of each listed file has its hulls in order
  pub record HaveHulls (core : Core J F S R P means counts) : Type 0 where
    pub sequence : may_cross core ≡ true → HaveRisingHulls (files_of core).sequence
    pub unsequence : may_cross core ≡ true → HaveRisingHulls (files_of core).unsequence

  -- The job is for an output of the space, and has the files of the runs, the stamp, the marks of their series and their
  -- schemas as memory has them, and the next number.
  pub record IsNewJob (space_of : Space) (runs : InputRuns) (core : Core J F S R P means counts) (job : Job F S R P)
      : Type 0 where
    pub space : job.space ≡ space_of
    pub born : job.born.0 ≡ (memory_of (logged_of core)).stamp
    pub place : job.place ≡ runs.sequence.first
    pub inputs : input_files job ≡ run_files runs (files_of core)
    pub sequence : job.sequence ≡ map (λ (entry : FileEntry). entry.number)
        (slice_range (files_of core).sequence runs.sequence.first runs.sequence.end)
    pub unsequence : job.unsequence ≡ map (λ (entry : FileEntry). entry.number)
        (slice_range (files_of core).unsequence runs.unsequence.first runs.unsequence.end)
    pub marks : job.marks.marks
        ≡ filter (is_of (run_paths runs (files_of core))) (memory_of (logged_of core)).marks.marks
    pub series : AreSeriesOfJob (run_paths runs (files_of core)) (memory_of (logged_of core))
        (record { marks = job.marks; schemas = job.schemas })
    pub output : job.output.0 ≡ next_of core

  -- The late files of the run are claimed, and the lists stay else; memory may have been taken.
  pub record ClaimsLate (run : Run) (old new : Core J F S R P means counts) : Type 0 where
    pub sequence : (files_of new).sequence ≡ (files_of old).sequence
    pub unsequence : (files_of new).unsequence ≡ claim_run run true (files_of old).unsequence
    pub outgoing : (files_of new).outgoing ≡ (files_of old).outgoing
    pub logged : IsPrepared (logged_of old) (logged_of new)
    pub limit : limit_of new ≡ limit_of old
    pub store : store_of new ≡ store_of old

  -- The job has begun: the core keeps it, and its inputs are claimed. Each state that the core shows is now one in
  -- which its compaction has begun, and the job is told the truth there.
  pub record IsBegun (name : R → NamedFile) (space : Space) (runs : InputRuns) (old new : Core J F S R P means counts)
      (job : Job F S R P) : Type 0 where
    pub is_new : IsNewJob space runs old job
    pub kept : (flushes : List FlushState) (compactions : List Compaction) → KeepsJobs old flushes compactions
        → IsJobKept name new job
    pub next : next_of new ≡ next_of old + 1
    pub flushed : flushed_below new ≡ flushed_below old
    pub claimed : is_sequence_claimed new ≡ claimed_by space (is_sequence_claimed old)
    pub lists : ClaimsLate runs.unsequence old new
    -- one right more is out on each input, and no file comes or goes
    pub rights : (number : ℕ) → kept_file number (files_of new)
        ≡ option_map (more_rights (count number (input_numbers job.inputs))) (kept_file number (files_of old))
    pub jobs : (compaction : Compaction) (flushes : List FlushState) (compactions : List Compaction)
        → IsCompactionOf job compaction → KeepsJobs old flushes compactions
        → KeepsJobs new flushes (compaction ∷ compactions)
    pub loans : (compaction : Compaction) (flushes : List FlushState) (compactions : List Compaction)
        (lent : List (List LentRight)) → IsCompactionOf job compaction → KeepsLoans old flushes compactions lent
        → KeepsLoans new flushes (compaction ∷ compactions) (job_rights name job ∷ lent)
    pub step : (outside : Outside) (engine : EngineState) → IsSeen old outside engine
        → (compaction : Compaction) × IsCompactionOf job compaction × Begins outside.told compaction engine
        × IsSeen new outside (began compaction engine)
    pub truth : (outside : Outside) (engine : EngineState) → IsSeen old outside engine
        → TellsTruth name outside.told job

  -- no job has begun: memory may have been taken, and nothing else has changed
  pub record IsNotBegun (old new : Core J F S R P means counts) : Type 0 where
    pub logged : IsPrepared (logged_of old) (logged_of new)
    pub lists : KeepsLists (files_of old) (files_of new)
    pub places : OnlyMakesPlaces (files_of old).places (files_of new).places
    pub limit : limit_of new ≡ limit_of old
    pub flushed : flushed_below new ≡ flushed_below old
    pub claimed : is_sequence_claimed new ≡ is_sequence_claimed old
    pub same : IsNotTaken old new

  -- a job of the files of a plan has begun, or none has
  abbrev pub IsBegunOrNot : (R → NamedFile) → Space → (InputRuns → Type 0) → Core J F S R P means counts
      → Core J F S R P means counts → Result (Option (Job F S R P)) CoreFault → Type 0
  IsBegunOrNot name space IsPlan old new (Ok None) = IsNotBegun old new
  IsBegunOrNot name space IsPlan old new (Ok (Some job)) =
      (runs : InputRuns) × IsPlan runs × IsBegun name space runs old new job
  IsBegunOrNot name space IsPlan old new (Err fault) = IsNotBegun old new
